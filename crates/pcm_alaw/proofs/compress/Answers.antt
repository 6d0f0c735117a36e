-- Two cases of the sign. In each the calls give segment and step of the number taken, and `turned` inverts the even bits.
use Rattle.std.proofs.Common.{arith, to_z-of_z}
use Rattle.math_integers.specs.Halves.{zar, know}
use Rattle.pcm_alaw.specs.Rules.{compressed_negative, compressed_other}
use Rattle.pcm_alaw.proofs.compress.Goals as goal

pub returns-then-v-lt0 : goal.returns-then-v-lt0
returns-then-v-lt0 c =
    let e = compressed_negative c.args.v (omega (zar, know c.ranges.v)) in
    grind (arith, to_z-of_z)

pub returns-else-v-lt0 : goal.returns-else-v-lt0
returns-else-v-lt0 c =
    let e = compressed_other c.args.v (omega (zar, know c.ranges.v)) in
    grind (arith, to_z-of_z)
