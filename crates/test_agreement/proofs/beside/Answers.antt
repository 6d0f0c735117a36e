-- k has at most 9 bits with its sign and a field at most 7, so the shift loses no bit and the sum with a codeword that fits is
-- still a word.
use Prim.Native.Nat.{◌*◌, ◌^◌, ◌%◌, ◌≤◌}
use mathlib.Core.Path.{◌≡◌, ap, ◌∙◌}
use native.Mathlib.Nat.{mul-le-mul}
use lib.IntN.{ℤ, pos, ◌+ℤ◌, ◌*ℤ◌}
use lib.Pow.{pow_mono}
use mir.Syntax.{w16}
use mir.Val.{SFits, to_z, of_z}
use Rattle.math_integers.specs.Halves.{P, N, zar, mem}
use Rattle.math_integers.specs.Sums.{add_is, scale_is}
use Rattle.math_integers.specs.Ranges.{back}
use Rattle.law_arithmetic.specs.Within.{range_is}
use Rattle.law_arithmetic.specs.Shift.{up_bits, keep_plain}
use Rattle.law_fields.specs.Fit.{fit_is}
use Rattle.test_agreement.proofs.beside.Goals as goal
use Rattle.test_agreement.proofs.beside.Goals.{Start}

module _ (s : Start) where
  abbrev k : ℤ
  k = s.args.k

  abbrev c : ℤ
  c = s.args.c

  abbrev size : ℤ
  size = pos (2 ^ s.args.width)

  -- no field has more than 128 values: so k times this number is a word, also with the codeword added
  room : (P k * 2 ^ s.args.width ≤ 255 * 128) × (N k * 2 ^ s.args.width ≤ 256 * 128)
  room =
      let m = pow_mono {i = s.args.width} {j = 7} s.requires.0.0 in
      let r = range_is 256 255 k s.requires.1 in
      (mul-le-mul r.0 m, mul-le-mul r.1 m)

  moved : SFits w16 (k *ℤ size)
  moved = omega (zar, room, scale_is k (2 ^ s.args.width))

  sum_fits : SFits w16 (c +ℤ k *ℤ size)
  sum_fits =
      let w = s.args.width in
      let m = pow_mono {i = w} {j = 7} s.requires.0.0 in
      omega (zar, room, scale_is k (2 ^ w), add_is c (k *ℤ size), fit_is w c s.requires.0.1, m)

  -- what the shift gives
  shifted : to_z w16 ((of_z w16 k * 2 ^ s.args.width) % 65536) ≡ k *ℤ size
  shifted = up_bits w16 k s.args.width s.ranges.k ∙ keep_plain moved

  sum : mem w16 c +ℤ to_z w16 ((of_z w16 k * 2 ^ s.args.width) % 65536) ≡ c +ℤ k *ℤ size
  sum = rw (back s.ranges.c, shifted)

pub overflow_add-result : goal.overflow_add-result
overflow_add-result s = rw (sum s) (sum_fits s)

pub returns : goal.returns
returns s = ap (mem w16) (sum s) ∙ back {w = w16} (sum_fits s)
