-- Three cases, as the two tests go. In each the code computes the line of that piece.
use Rattle.std.proofs.Common.{arith, rules, to_z-of_z}
use Rattle.std.specs.Int.{w16}
use Rattle.law_arithmetic.specs.Shift.{down_bits, up_bits}
use Rattle.standard.specs.Lpc.{area_ratio}
use Rattle.lpc_logarea.proofs.area_ratio.Goals as goal

pub returns-then-temp-lt22118 : goal.returns-then-temp-lt22118
unfolding area_ratio
returns-then-temp-lt22118 c = grind (arith, to_z-of_z, down_bits)

pub returns-then-temp-lt31130 : goal.returns-then-temp-lt31130
unfolding area_ratio
returns-then-temp-lt31130 c = grind (arith, to_z-of_z)

pub returns-else-temp-lt31130 : goal.returns-else-temp-lt31130
unfolding area_ratio
returns-else-temp-lt31130 c =
    let up = up_bits w16 c.sub-else-temp-lt31130.result 2 (search rules) in
    grind (arith, to_z-of_z)
