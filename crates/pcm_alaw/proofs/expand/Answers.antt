-- The table is the rule at all 256 codes, by one computed test, so the entry at a code is the value of the rule.
use Rattle.std.specs.Prelude.{◌≡◌, refl, pos, get_or}
use Rattle.std.proofs.Common.{ap, ◌∙◌}
use Rattle.std.specs.Int.{w16}
use Rattle.math_integers.specs.Halves.{mem}
use Rattle.math_integers.specs.Ranges.{back}
use Rattle.math_lists.specs.Tab.{tab, tab_at_zero}
use Rattle.standard.specs.Alaw.{magnitude, expanded}
use Rattle.pcm_alaw.specs.Facts.{expanded_fits}
use Rattle.pcm_alaw.specs.declared.TheConstants.{EXPANDED}
use Rattle.pcm_alaw.proofs.expand.Goals as goal

whole : EXPANDED ≡ tab expanded 0 256
unfolding tab magnitude expanded
whole = refl

pub returns : goal.returns
returns c =
    let code = c.args.code in
    let entry : get_or EXPANDED code (pos 0) ≡ expanded code =
    ap (λ t. get_or t code (pos 0)) whole ∙ tab_at_zero expanded 256 code (pos 0) c.ranges.code.fits in
    ap (λ i. mem w16 (get_or EXPANDED i (pos 0))) c.from.ensures ∙ (ap (mem w16) entry ∙ back (expanded_fits code))
