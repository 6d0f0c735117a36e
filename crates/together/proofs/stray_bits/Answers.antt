-- A number below 512, less 256, is from -256 to 255, so it fits a word.
use Prim.Native.Nat.{ℕ, ◌*◌, ◌%◌}
use mathlib.Core.Path.{◌≡◌}
use native.Mathlib.Omega.{arith}
use lib.IntN.{pos, ◌-ℤ◌}
use mir.Syntax.{w16}
use mir.Val.{SFits, to_z}
use mir.Facts.{to_z_pos}
use Rattle.math_integers.specs.Halves.{zar, apart}
use Rattle.math_integers.specs.Sums.{minus_is}
use Rattle.math_integers.specs.Ranges.{back}
use Rattle.law_arithmetic.specs.Within.{range_yes}
use Rattle.together.proofs.stray_bits.Goals as goal
use Rattle.together.proofs.stray_bits.Goals.{Start}

module _ (c : Start) where
  abbrev low : ℕ
  low = c.args.n * 37 % 512

  less : to_z w16 low -ℤ pos 256 ≡ pos low -ℤ pos 256
  less = rw (to_z_pos w16 {n = low} (omega arith))

  less_fits : SFits w16 (pos low -ℤ pos 256)
  less_fits = omega (zar, minus_is (pos low) (pos 256))

pub overflow_sub-result : goal.overflow_sub-result
overflow_sub-result c = rw (less c) (less_fits c)

pub returns : goal.returns
returns c =
    let z = pos (low c) -ℤ pos 256 in
    let m = minus_is (pos (low c)) (pos 256) in
    rw (less c, back (less_fits c)) (range_yes 256 255 z (omega (arith, m, apart z)) (omega (arith, m)))
