-- The low bits of a codeword as the code computes them: with 65536 added, the remainder modulo 2^width.
use Rattle.std.specs.Prelude.{ℕ, ◌+◌, ◌*◌, ◌-◌, ◌%◌, ◌^◌, ◌<◌, ◌≤◌, ◌≡◌, ℤ, pos, ◌+ℤ◌, nat_abs}
use Rattle.std.proofs.Common.{sym, ap, ◌∙◌, arith, pow_mono, pow-add, pow_pos, SFits}
use Rattle.std.specs.Int.{w16}
use Rattle.math_integers.specs.Halves.{zar, know}
use Rattle.standard.specs.Arithmetic.{modulo}
use Rattle.law_arithmetic.specs.Shift.{modulo_below, modulo_raised}

-- a field of 15 bits or fewer has no more than 32768 values
power_most : (width : ℕ) → width ≤ 15 → 2 ^ width ≤ 32768
power_most width h = pow_mono {i = width} {j = 15} h

-- so 1 shifted left by the width, on 32 bits, is their number
pub power : (width : ℕ) → width ≤ 15 → (1 * 2 ^ width) % 4294967296 ≡ 2 ^ width
power width h = omega (arith, power_most width h)

-- adding 65536 does not change the low bits of a word, since 2^width divides it
pub word_raised : (c : ℤ) (width : ℕ) → width ≤ 15 → SFits w16 c → modulo c (2 ^ width) ≡ nat_abs (c +ℤ pos 65536) % 2 ^ width
word_raised c width h f =
    let s : 16 - width + width ≡ 16 = omega arith in
    let e : 2 ^ (16 - width) * 2 ^ width ≡ 65536 = sym (pow-add 2 (16 - width) width) ∙ ap (λ (n : ℕ). 2 ^ n) s in
    rw e at (modulo_raised c (2 ^ width) (2 ^ (16 - width)) (pow_pos width) (rw e (omega (zar, know f))))

-- and they are a word
pub low_below : (c : ℤ) (width : ℕ) → width ≤ 15 → modulo c (2 ^ width) < 32768
low_below c width h = omega (arith, power_most width h, modulo_below c (pow_pos width))
