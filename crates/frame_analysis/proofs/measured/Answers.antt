-- The scaling factor, the scaled samples, the nine sums, the codes: each is the definition's by the one before. Scaling back takes the
-- same factor.
use mathlib.Core.Path.{◌≡◌, ap, ap₂, ◌∙◌}
use lib.IntN.{ℤ}
use mir.Syntax.{w16}
use mir.Val.{to_z, of_z}
use Rattle.math_integers.specs.Ranges.{res}
use Rattle.standard.specs.Lpc.{scalauto, scaled, rescaled, L_ACF, r, ending, ratio_codes}
use Rattle.law_lengths.specs.Analysis.{scaled_length}
use Rattle.lpc_autocorrelation.specs.Bounds.{scaled_small, L_ACF_above}
use Rattle.frame_analysis.specs.Whole.{sums}
use Rattle.frame_analysis.proofs.measured.Goals as goal
use Rattle.frame_analysis.proofs.measured.Goals.{After-l_acf, After-scalauto-scale, After-scaled}

-- 4.2.4: the scaling factor
scale-is : (t : After-scalauto-scale) → t.scalauto-scale.result ≡ scalauto t.args.s.now
scale-is t = t.scalauto-scale.ensures

-- the scaled samples
small_is : (t : After-scaled) → t.scaled.new.s ≡ scaled (scalauto t.args.s.now) t.args.s.now
small_is t =
    let a = (goal.at.After-scaled t).After-scalauto-scale in
    t.scaled.ensures ∙ ap (λ (n : ℤ). scaled n t.args.s.now) (res a.scalauto-scale ∙ scale-is a)

pub l_acf-requires : goal.l_acf-requires
l_acf-requires c =
    let t = (goal.at.l_acf-requires c).After-scaled in
    let s = c.args.s.now in
    rw (small_is t) (scaled_length (scalauto s) s ∙ c.requires.0, scaled_small s c.requires.1)

-- the nine sums
sums-are : (t : After-l_acf) → t.l_acf.result ≡ sums t.args.s.now
sums-are t = t.l_acf.ensures ∙ ap L_ACF (small_is (goal.at.After-l_acf t).After-scaled)

pub reflection_coefficients-found-requires : goal.reflection_coefficients-found-requires
reflection_coefficients-found-requires c =
    let s = c.args.s.now in
    let n = scaled_length (scalauto s) s ∙ c.requires.0 in
    rw (sums-are c) (L_ACF_above (scaled (scalauto s) s) n (scaled_small s c.requires.1))

pub returns : goal.returns
returns c =
    let at-c = goal.at.returns c in
    let a = at-c.After-l_acf in
    let n = at-c.After-scalauto-scale in
    let scale = res n.scalauto-scale ∙ scale-is n in
    let factor = to_z w16 (of_z w16 c.scalauto-scale.result) in
    let given : c.rescaled.new.s ≡ rescaled factor c.scaled.new.s = c.rescaled.ensures in record {
      larc = c.ratio_codes.ensures ∙ ap ratio_codes (c.reflection_coefficients-found.ensures.r ∙ ap r (sums-are a));
      ending = c.reflection_coefficients-found.ensures.ending ∙ ap ending (sums-are a);
      samples = given ∙ ap₂ rescaled scale (small_is at-c.After-scaled);
    }
