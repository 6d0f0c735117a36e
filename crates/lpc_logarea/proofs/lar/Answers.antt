-- The two cases are the sign of r: the line of its absolute value, negated or not.
use Rattle.std.proofs.Common.{arith, to_z-of_z}
use Rattle.standard.specs.Lpc.{with_sign, LAR}
use Rattle.lpc_logarea.proofs.lar.Goals as goal

pub returns-then-r-lt0 : goal.returns-then-r-lt0
unfolding LAR with_sign
returns-then-r-lt0 c = grind (arith, to_z-of_z)

pub returns-else-r-lt0 : goal.returns-else-r-lt0
unfolding LAR with_sign
returns-else-r-lt0 c = grind (arith, to_z-of_z)
