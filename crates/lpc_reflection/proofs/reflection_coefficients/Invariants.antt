-- Three ends: the first sum is 0, a step stops, all eight steps are done. In the loop, the coefficients so far and those that
-- the steps to come will give are together the definition's (`Along`).
use Rattle.std.specs.Prelude.{◌-◌, ◌≤◌}
use Rattle.standard.specs.Lpc.{schur}
use Rattle.lpc_reflection.specs.Along.{Along}
use Rattle.lpc_reflection.proofs.reflection_coefficients.Given as goal

abbrev pub invariant-loop-n : goal.invariant-loop-n
invariant-loop-n l = ((1 ≤ l.n) × (l.n ≤ 9)) × Along (schur l.fn.l_acf) (l.n - 1) (9 - l.n) l.a.p l.a.k l.r
