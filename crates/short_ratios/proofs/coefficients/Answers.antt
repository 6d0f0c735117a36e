-- Call i gives rp of LARp at i, so the array is `rps`.
use mathlib.Core.Path.{◌≡◌, ◌∙◌}
use borrow.Author.Rules.{rules}
use lib.IntN.{pos}
use lib.ListN.{length}
use mir.Syntax.{w16}
use mir.Val.{SFits, to_z, of_z}
use Rattle.math_integers.specs.Ranges.{back}
use Rattle.math_lists.specs.Made.{made}
use Rattle.standard.specs.Tables.{◌at◌}
use Rattle.standard.specs.ShortTerm.{rp}
use Rattle.short_ratios.specs.Stretches.{LARp, rps, rps_length, rps_at}
use Rattle.short_ratios.proofs.coefficients.Goals as goal

pub returns : goal.returns
returns c =
    let j = c.args.j in
    let old = c.args.old in
    let new = c.args.new in
    let o : length old ≡ 8 = search rules in
    let n : length new ≡ 8 = search rules in
    made c.from_fn.ensures.items (rps j old new) (pos 0) (rps_length j old new o n)
    (λ k b y q t.
    let f : SFits w16 (old at k) = search rules in
    let g : SFits w16 (new at k) = search rules in
    let r : y ≡ rp (LARp j (to_z w16 (of_z w16 (old at k))) (to_z w16 (of_z w16 (new at k)))) = search rules in
    (search rules, r ∙ rw (back f, back g, rps_at j old new k o n b)))
