-- A section of 4.3.4: clipping the plain difference is `sub`, clipping the plain sum is `add`.
use mathlib.Core.Path.{ap, ◌∙◌}
use mir.Syntax.{w16}
use mir.Val.{SFits}
use Rattle.math_integers.specs.Ranges.{back, res}
use Rattle.standard.specs.Arithmetic.{clip, plus, minus}
use Rattle.law_arithmetic.specs.Clip.{clip_fits}
use Rattle.law_arithmetic.specs.Within.{word_yes}
use Rattle.short_synthesis.proofs.through.Goals as goal

pub raised-requires : goal.raised-requires
raised-requires c =
    let s = c in
    let f : SFits w16 c.clipped-out.result = rw c.clipped-out.ensures (clip_fits w16 _) in
    (rw (back s.ranges.rrp) s.requires.0, rw (back s.ranges.v) s.requires.1, rw (res c.clipped-out) (word_yes c.clipped-out.result f))

pub returns : goal.returns
unfolding plus minus
returns c =
    let r = c.before in
    let o = r.before in
    let l = o.before in
    let s = l in
    let below = rw (back s.ranges.rrp, back s.ranges.v, back s.ranges.sri) at l.lowered.ensures in
    let above = rw (back s.ranges.rrp, back s.ranges.v) at r.raised.ensures in
    record {
      out = res o.clipped-out ∙ (o.clipped-out.ensures ∙ ap (clip w16) (res l.lowered ∙ below));
      above = res c.clipped ∙ (c.clipped.ensures ∙ ap (clip w16) (res r.raised ∙ above));
    }
