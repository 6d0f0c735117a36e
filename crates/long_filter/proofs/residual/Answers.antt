-- Call k gives d[k] less dpp[k], by sub, so the array is the residual.
use mathlib.Core.Path.{◌≡◌, ap₂, ◌∙◌}
use lib.IntN.{pos}
use lib.ListN.{length}
use mir.Syntax.{w16}
use mir.Val.{SFits, to_z, of_z}
use borrow.Author.Rules.{rules}
use Rattle.math_integers.specs.Ranges.{back}
use Rattle.math_lists.specs.Made.{made_zip}
use Rattle.standard.specs.Arithmetic.{sub}
use Rattle.standard.specs.Tables.{◌at◌}
use Rattle.standard.specs.LongTerm.{residual}
use Rattle.long_filter.proofs.residual.Goals as goal

pub returns : goal.returns
unfolding residual
returns c =
    let d = c.args.d.now in
    let dpp = c.args.dpp in
    let l : length dpp ≡ 40 = search rules in
    made_zip c.from_fn.ensures.items sub d dpp (pos 0) (pos 0) (pos 0) c.requires l
    (λ k b y q t.
    let f : SFits w16 (d at k) = search rules in
    let g : SFits w16 (dpp at k) = search rules in
    let r : y ≡ sub (to_z w16 (of_z w16 (d at k))) (to_z w16 (of_z w16 (dpp at k))) = search rules in
    (search rules, r ∙ ap₂ sub (back f) (back g)))
