-- Each sample is shifted back. If scalauto is not above 0, nothing changes, as the definition says.
use Rattle.std.specs.Prelude.{pos, get_or}
use Rattle.std.proofs.Common.{arith, rules, to_z-of_z}
use Rattle.std.specs.Int.{w16}
use mir.Val.{SFits}
use Rattle.math_integers.specs.Halves.{mem}
use Rattle.math_integers.specs.Ranges.{back}
use Rattle.standard.specs.Arithmetic.{shl}
use Rattle.standard.specs.Lpc.{rescaled}
use Rattle.lpc_autocorrelation.specs.InPlace.{mapped_next, mapped_end}
use Rattle.lpc_autocorrelation.proofs.rescaled.Goals as goal

pub loop-x-preserved : goal.loop-x-preserved
loop-x-preserved c =
    let l = c.loop-x in
    let f : SFits w16 (get_or l.s l.x-index (pos 0)) = search rules in
    mapped_next (λ x. shl w16 x (mem w16 c.args.scale)) c.args.s.now l.x-index l.invariant (pos 0) (omega arith)
    (grind (arith, to_z-of_z))

pub returns-after-loop-x : goal.returns-after-loop-x
unfolding rescaled
returns-after-loop-x c =
    let l = c.loop-x in
    let e =
    rw (back c.ranges.scale) at (mapped_end (λ x. shl w16 x (mem w16 c.args.scale)) c.args.s.now l.x-index l.invariant (omega arith)) in
    grind (arith, to_z-of_z)

pub returns-else-scale-gt0 : goal.returns-else-scale-gt0
unfolding rescaled
returns-else-scale-gt0 c = grind (arith, to_z-of_z)
