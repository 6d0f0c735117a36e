-- Each sample is multiplied by the factor. If scalauto is not above 0, nothing changes, as the definition says.
use Rattle.std.specs.Prelude.{◌≡◌, pos, get_or}
use Rattle.std.proofs.Common.{arith, rules, to_z-of_z}
use Rattle.std.specs.Int.{w16}
use mir.Val.{SFits}
use Rattle.math_integers.specs.Halves.{mem}
use Rattle.standard.specs.Arithmetic.{shr, sub, mult_r}
use Rattle.standard.specs.Lpc.{scaled}
use Rattle.lpc_autocorrelation.specs.InPlace.{mapped_next, mapped_end}
use Rattle.lpc_autocorrelation.proofs.scaled.Goals as goal

pub loop-x-preserved : goal.loop-x-preserved
loop-x-preserved c =
    let l = c.loop-x in
    let f : SFits w16 (get_or l.s l.x-index (pos 0)) = search rules in
    mapped_next (λ x. mult_r x (mem w16 c.shr-factor.result)) c.args.s.now l.x-index l.invariant (pos 0) (omega arith)
    (grind (arith, to_z-of_z))

pub returns-after-loop-x : goal.returns-after-loop-x
unfolding scaled
returns-after-loop-x c =
    let l = c.loop-x in
    let factor : mem w16 c.shr-factor.result ≡ shr w16 (pos 16384) (sub c.args.scale (pos 1)) = grind (arith, to_z-of_z) in
    let e = rw factor at (mapped_end (λ x. mult_r x (mem w16 c.shr-factor.result)) c.args.s.now l.x-index l.invariant (omega arith)) in
    grind (arith, to_z-of_z)

pub returns-else-scale-gt0 : goal.returns-else-scale-gt0
unfolding scaled
returns-else-scale-gt0 c = grind (arith, to_z-of_z)
