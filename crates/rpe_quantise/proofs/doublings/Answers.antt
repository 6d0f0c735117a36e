-- A mantissa of m bits lies between two powers of 2, so 4 − m doublings of the mantissa and 1 bring it above 8, and fewer do not.
use Prim.Native.Nat.{◌-◌}
use mathlib.Core.Path.{◌≡◌, ap, ◌∙◌}
use native.Mathlib.Omega.{arith}
use lib.IntN.{pos, ◌-ℤ◌}
use mir.Syntax.{w16}
use mir.Val.{of_z}
use mir.Facts.{to_z_pos}
use Rattle.std.specs.Int.{leading_zeros}
use Rattle.math_integers.specs.Halves.{P, zar, apart}
use Rattle.math_integers.specs.Sums.{minus_is}
use Rattle.math_integers.specs.Ranges.{back}
use Rattle.rpe_quantise.specs.Bits.{Bits, bits_of, bits_most}
use Rattle.rpe_quantise.specs.Doubling.{doubled_by}
use Rattle.rpe_quantise.proofs.doublings.Goals as goal

pub returns : goal.returns
returns c =
    let x = c.args.mant in
    let n = c.leading_zeros.result in
    let b : Bits x = bits_of x c.requires.0 c.ranges.mant in
    let m = bits_most b 4 (omega (zar, c.requires, apart x)) in
    let e : n ≡ leading_zeros w16 (of_z w16 x) = rw (back c.ranges.mant) at c.leading_zeros.ensures in
    let d : pos n -ℤ pos 12 ≡ pos (4 - b.count) = omega (zar, minus_is (pos n) (pos 12), apart (pos n -ℤ pos 12)) in
    rw (to_z_pos w16 {n = n} (omega arith), d)
    (to_z_pos w16 (omega arith) ∙ ap pos (doubled_by (P x) (4 - b.count) (omega arith)
    (λ g. let k : 4 - (4 - b.count) ≡ b.count = omega arith in rw k b.below)
    (λ g. let k : 3 - (4 - b.count) ≡ b.count - 1 = omega arith in rw k (b.above (omega arith)))))
