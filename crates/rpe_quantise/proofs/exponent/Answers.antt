-- Where xmax >> 9 has k bits, xmax lies between two powers of 2, which decide that the exponent is k.
use Prim.Native.Nat.{◌+◌, ◌-◌, ◌/◌, ◌≤◌}
use mathlib.Core.Path.{◌≡◌, refl, ap, ◌∙◌}
use native.Mathlib.Omega.{arith}
use lib.IntN.{ℤ, pos, ◌-ℤ◌}
use lib.Pow.{pow-add, pow_pos}
use mir.Syntax.{w16}
use mir.Val.{SFits, of_z}
use mir.Facts.{to_z_pos}
use Rattle.std.specs.Int.{int_max, leading_zeros}
use Rattle.std.specs.Prelude.{int_lt}
use Rattle.math_lists.specs.First.{by_cond}
use Rattle.math_integers.specs.Halves.{P, N, zar, apart, know}
use Rattle.math_integers.specs.Sums.{minus_is, shr_is}
use Rattle.math_integers.specs.Ranges.{back}
use Rattle.standard.specs.Arithmetic.{◌>>◌}
use Rattle.standard.specs.Rpe.{exponent}
use Rattle.rpe_quantise.specs.Bits.{Bits, bits_of, bits_most}
use Rattle.rpe_quantise.specs.Exponent.{exponent_by}
use Rattle.rpe_quantise.proofs.exponent.Goals as goal

-- a number, or 0 where it is negative
above : (x : ℤ) → (P (int_max x (pos 0)) ≡ P x) × (N (int_max x (pos 0)) ≡ 0)
above x = by_cond (λ m. (P m ≡ P x) × (N m ≡ 0)) (int_lt (pos 0) x) (λ t. (refl, omega (zar, apart x))) (λ t. (omega (zar, apart x), refl))

-- the exponent is the number of bits of x >> 9
bits-are : (x : ℤ) {y : ℤ} (b : Bits y) → P y ≡ P x / 512 → b.count ≤ 6 → b.count ≡ exponent x
bits-are x b e m =
    let n = b.count in
    exponent_by x n m
    (λ g.
    let k : 8 + n ≡ 9 + (n - 1) = omega arith in
    rw k (omega (zar, b.above g, pow-add 2 9 (n - 1), pow_pos (n - 1), apart x)))
    (λ g. omega (zar, b.below, pow-add 2 9 n))

pub returns : goal.returns
returns c =
    let x = c.args.xmax in
    let n = c.leading_zeros.result in
    let z = c.max.result in
    let v : z ≡ int_max x (pos 0) = rw (back c.ranges.xmax) at c.max.ensures.value in
    let w : (P z ≡ P x) × (N z ≡ 0) = rw v (above x) in
    let y = z >> 9 in
    let s = shr_is z 512 (omega arith) in
    let q : (P y ≡ P x / 512) × (N y ≡ 0) = (rw w.0 at s.0, omega (arith, s.1, w.1)) in
    let f : SFits w16 y = omega (zar, q, know c.ranges.xmax) in
    let b : Bits y = bits_of y (omega (zar, q)) f in
    let m = bits_most b 6 (omega (arith, q, know c.ranges.xmax)) in
    let g : SFits w16 z = record { sfits = c.max.type_inv } in
    let e : n ≡ leading_zeros w16 (of_z w16 y) = rw (back g, back f) at c.leading_zeros.ensures in
    let d : pos 16 -ℤ pos n ≡ pos b.count = omega (zar, minus_is (pos 16) (pos n), apart (pos 16 -ℤ pos n)) in
    rw (to_z_pos w16 {n = n} (omega arith), d)
    (to_z_pos w16 (omega arith) ∙ ap pos (bits-are x b q.0 m))
