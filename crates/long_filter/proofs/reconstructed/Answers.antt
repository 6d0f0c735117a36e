-- Call k gives the sum of ep[k] and dpp[k], by add, so the array is the 40 sums, and the buffer holds it.
use mathlib.Core.Path.{◌≡◌, ap₂, ◌∙◌}
use lib.IntN.{pos}
use lib.ListN.{length}
use mir.Syntax.{w16}
use mir.Val.{SFits, to_z, of_z}
use borrow.Author.Rules.{rules}
use Rattle.math_integers.specs.Ranges.{back}
use Rattle.math_lists.specs.Made.{made_zip}
use Rattle.standard.specs.Arithmetic.{add}
use Rattle.standard.specs.Tables.{◌at◌}
use Rattle.long_filter.proofs.reconstructed.Goals as goal

pub returns : goal.returns
returns c =
    let ep = c.args.ep in
    let dpp = c.args.dpp in
    let l : length ep ≡ 40 = search rules in
    let m : length dpp ≡ 40 = search rules in
    c.copy_from_slice.ensures.after
    ∙ made_zip c.from_fn-sums.ensures.items add ep dpp (pos 0) (pos 0) (pos 0) l m
    (λ k b y q t.
    let f : SFits w16 (ep at k) = search rules in
    let g : SFits w16 (dpp at k) = search rules in
    let r : y ≡ add (to_z w16 (of_z w16 (ep at k))) (to_z w16 (of_z w16 (dpp at k))) = search rules in
    (search rules, r ∙ ap₂ add (back f) (back g)))
