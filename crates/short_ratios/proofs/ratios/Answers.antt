-- Call i gives LARpp of codeword i, so the array is `ratios`.
use mathlib.Core.Path.{◌≡◌, ap, ◌∙◌}
use borrow.Author.Rules.{rules}
use lib.IntN.{pos}
use mir.Syntax.{w16}
use mir.Val.{SFits, to_z, of_z}
use Rattle.math_integers.specs.Ranges.{back}
use Rattle.math_lists.specs.Made.{made_tab}
use Rattle.standard.specs.Tables.{◌at◌}
use Rattle.standard.specs.ShortTerm.{LARpp, ratios}
use Rattle.short_ratios.proofs.ratios.Goals as goal

pub returns : goal.returns
unfolding ratios
returns c =
    let larc = c.args.larc in
    made_tab c.from_fn.ensures.items (λ i. LARpp i (larc at i)) (pos 0)
    (λ k b y q t.
    let f : SFits w16 (larc at k) = search rules in
    let r : y ≡ LARpp k (to_z w16 (of_z w16 (larc at k))) = search rules in
    (search rules, r ∙ ap (LARpp k) (back f)))
