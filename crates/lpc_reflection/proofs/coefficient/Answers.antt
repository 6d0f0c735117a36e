-- The two cases are the sign of P[1]. In each the calls compute the definition's quotient, negated or not.
use Rattle.std.proofs.Common.{arith, to_z-of_z}
use Rattle.standard.specs.Lpc.{reflection}
use Rattle.lpc_reflection.proofs.coefficient.Goals as goal

pub returns-then-p1-gt0 : goal.returns-then-p1-gt0
unfolding reflection
returns-then-p1-gt0 c = grind (arith, to_z-of_z)

pub returns-else-p1-gt0 : goal.returns-else-p1-gt0
unfolding reflection
returns-else-p1-gt0 c = grind (arith, to_z-of_z)
