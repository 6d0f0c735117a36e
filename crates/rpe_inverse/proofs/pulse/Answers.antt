-- The mantissa is not negative and the pulse is at most 28672, so neither the product nor the sum saturates. The plain operations give
-- what mult_r and add give.
use Prim.Native.Nat.{◌*◌, ◌%◌, ◌≤◌}
use mathlib.Core.Path.{◌≡◌, sym, ap, ◌∙◌}
use lib.IntN.{ℤ, pos, ◌+ℤ◌, ◌*ℤ◌}
use mir.Syntax.{w16, w32}
use mir.Val.{SFits, of_z, to_z}
use Rattle.math_integers.specs.Halves.{P, mem}
use Rattle.math_integers.specs.Ranges.{zfits, wide, back}
use Rattle.standard.specs.Arithmetic.{◌<<◌, ◌>>◌, shr, add, sub, mult_r}
use Rattle.law_arithmetic.specs.Clip.{plus_plain, plus_fits}
use Rattle.law_arithmetic.specs.Shift.{up_bits, keep_fits, shr_word}
use Rattle.rpe_quantise.specs.Counts.{shr_bits}
use Rattle.rpe_inverse.specs.Inverse.{top_in, product_plain, total_fits}
use Rattle.rpe_inverse.proofs.pulse.Goals as goal
use Rattle.rpe_inverse.proofs.pulse.Goals.{After-sub-x}

-- the pulse in the top bits of a word, as the code has it
abbrev x : After-sub-x → ℤ
x c = to_z w16 ((of_z w16 c.sub-x.result * 4096) % 65536)

x-is : (c : After-sub-x) → x c ≡ sub (c.args.xmc << 1) (pos 7) << 12
x-is c =
    let s = c in
    up_bits w16 c.sub-x.result 12 (record { sfits = c.sub-x.type_inv })
    ∙ ap (λ (z : ℤ). z << 12) (c.sub-x.ensures ∙ ap (λ (z : ℤ). sub z (pos 7)) (up_bits w16 s.args.xmc 1 s.ranges.xmc))

x_fits : (c : After-sub-x) → SFits w16 (x c)
x_fits c = rw (x-is c) (keep_fits w16 _)

-- the product of two words on 32 bits, rounded
rounded : (a y : ℤ) → SFits w16 a → SFits w16 y
    → mem w32 (mem w32 (mem w32 (mem w32 (mem w16 a) *ℤ mem w32 y) +ℤ pos 16384) >> 15) ≡ (a *ℤ y +ℤ pos 16384) >> 15
rounded a y f g = search zfits

-- it is the standard's
abbrev temp : After-sub-x → ℤ
temp c = mem w32 (mem w32 (mem w32 (mem w32 (mem w16 c.args.temp1) *ℤ mem w32 (x c)) +ℤ pos 16384) >> 15)

temp-is : (c : After-sub-x) → temp c ≡ mult_r c.args.temp1 (x c)
temp-is c =
    let s = c in
    let f = s.ranges.temp1 in
    rounded s.args.temp1 (x c) f (x_fits c) ∙ sym (product_plain s.args.temp1 (x c) f (x_fits c) s.requires.0)

-- and its sum with the rounding term is a word
sum-in : (c : After-sub-x) → SFits w16 (mult_r c.args.temp1 (x c) +ℤ c.args.temp3)
sum-in c =
    let s = c in
    let top : P (x c) ≤ 28672 = rw (x-is c) (top_in (sub (s.args.xmc << 1) (pos 7))) in
    total_fits s.args.temp1 (x c) s.ranges.temp1 (x_fits c) s.requires.0 s.args.temp3 top s.requires.1.1

-- so it does not saturate
sum_is : (c : After-sub-x) → let s = c.before in
    mem w32 (temp c +ℤ mem w32 (mem w16 s.args.temp3)) ≡ add (mult_r s.args.temp1 (x c)) s.args.temp3
sum_is c =
    let s = c in
    let f = s.ranges.temp3 in
    rw (temp-is c, back f, back (wide {v = w32} f tt))
    (back (wide {v = w32} (sum-in c) tt) ∙ sym (plus_plain (mult_r s.args.temp1 (x c)) s.args.temp3 (sum-in c)))

-- the shift of it, as the code has it, is the standard's, which is a word
shifted : (c : After-sub-x) → let s = c.before in
    let z = add (mult_r s.args.temp1 (x c)) s.args.temp3 in
    (z >> of_z w32 (mem w16 s.args.temp2) ≡ shr w16 z s.args.temp2) × SFits w16 (shr w16 z s.args.temp2)
shifted c =
    let s = c in
    let z = add (mult_r s.args.temp1 (x c)) s.args.temp3 in (
      rw (back s.ranges.temp2) (shr_bits w32 w16 z s.args.temp2 s.requires.1.0),
      shr_word w16 z s.args.temp2 (plus_fits w16 (mult_r s.args.temp1 (x c)) s.args.temp3),
    )

pub overflow_add-temp : goal.overflow_add-temp
overflow_add-temp c = let f = x_fits c in search zfits

pub overflow_add-result : goal.overflow_add-result
overflow_add-result c = let f = c.ranges.temp3 in rw (temp-is c, back f, back (wide {v = w32} f tt)) (wide (sum-in c) tt)

pub overflow_cast-result-3 : goal.overflow_cast-result-3
overflow_cast-result-3 c = let (e, f) = shifted c in rw (sum_is c, e, back (wide {v = w32} f tt)) f

pub returns : goal.returns
returns c = let (e, f) = shifted c in rw (sum_is c, e, back (wide {v = w32} f tt), back f, x-is c)
