-- Each sample is multiplied by the factor. If scalauto is not above 0, nothing changes, as the definition says.
use Rattle.std.specs.Prelude.{◌≡◌, map}
use Rattle.math_lists.specs.Fill.{filled}
use Rattle.standard.specs.Arithmetic.{mult_r}
use Rattle.lpc_autocorrelation.proofs.scaled.Given as goal

abbrev pub invariant-loop-x : goal.invariant-loop-x
invariant-loop-x l = l.s ≡ filled l.x-index (map (λ x. mult_r x l.factor) l.fn.s) l.fn.s
