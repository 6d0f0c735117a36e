-- Each sample is shifted back. If scalauto is not above 0, nothing changes, as the definition says.
use Rattle.std.specs.Prelude.{◌≡◌, map}
use Rattle.std.specs.Int.{w16}
use Rattle.math_lists.specs.Fill.{filled}
use Rattle.standard.specs.Arithmetic.{shl}
use Rattle.lpc_autocorrelation.proofs.rescaled.Given as goal

abbrev pub invariant-loop-x : goal.invariant-loop-x
invariant-loop-x l = l.s ≡ filled l.x-index (map (λ x. shl w16 x l.scale) l.fn.s) l.fn.s
