-- Call i gives x[m + 3 · i], which is entry i of the grid, so the array is the grid.
use Prim.Native.Nat.{◌+◌, ◌*◌}
use mathlib.Core.Path.{◌≡◌, ◌∙◌}
use lib.IntN.{pos}
use mir.Syntax.{w16}
use mir.Val.{SFits, to_z, of_z}
use borrow.Author.Rules.{rules}
use Rattle.math_integers.specs.Ranges.{back}
use Rattle.math_lists.specs.Made.{made_tab}
use Rattle.standard.specs.Tables.{◌at◌}
use Rattle.standard.specs.Rpe.{grid}
use Rattle.rpe_weighting.proofs.grid.Goals as goal

pub returns : goal.returns
unfolding grid
returns c =
    let m = c.args.m in
    let x = c.args.x in
    made_tab c.from_fn.ensures.items (λ i. x at (m + 3 * i)) (pos 0)
    (λ k b y q t.
    let f : SFits w16 (x at (m + 3 * k)) = search rules in
    let r : y ≡ to_z w16 (of_z w16 (x at (m + 3 * k))) = search rules in
    (search rules, r ∙ back f))
