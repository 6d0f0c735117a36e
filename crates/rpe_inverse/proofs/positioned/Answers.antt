-- The array of zeros is what the first loop of 4.2.17 leaves. Iteration i is iteration i of the second loop, so the result is ep.
use mathlib.Core.Path.{◌≡◌, refl, sym, ap, ◌∙◌}
use native.Mathlib.Omega.{arith}
use borrow.Author.Rules.{rules}
use lib.IntN.{pos}
use lib.ListN.{replicate}
use mir.Syntax.{w16}
use mir.Val.{SFits}
use Rattle.math_integers.specs.Ranges.{back}
use Rattle.math_lists.specs.Steps.{steps, steps_next, steps_end}
use Rattle.standard.specs.Tables.{◌at◌}
use Rattle.law_loops.specs.Positions.{ep_zero, ep_turn, ep_loops}
use Rattle.rpe_inverse.proofs.positioned.Goals as goal

-- the array before the loop, as the standard's first loop leaves it
zeros : replicate 40 (pos 0) ≡ steps ep_zero 40 0 (replicate 40 (pos 0))
unfolding steps ep_zero
zeros = refl

pub loop-i-preserved : goal.loop-i-preserved
unfolding ep_turn
loop-i-preserved c =
    let f : SFits w16 (c.args.xmp at c.loop-i.i) = search rules in
    let next = steps_next (ep_turn c.args.mc c.args.xmp) 13 c.loop-i.i c.loop-i.ep (omega arith) in
    rw (back f) (sym next ∙ c.loop-i.invariant)

pub returns : goal.returns
returns c =
    let turn = ep_turn c.args.mc c.args.xmp in
    let is-ep = ep_loops c.args.mc c.requires c.args.xmp (replicate 40 (pos 0)) (search rules) refl in
    sym (steps_end turn 13 c.loop-i.i c.loop-i.ep (omega arith)) ∙ (c.loop-i.invariant ∙ (ap (steps turn 13 0) zeros ∙ is-ep))
