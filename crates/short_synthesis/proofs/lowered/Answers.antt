-- sri less a term fits 32 bits, so the difference on 32 bits is the plain difference.
use mir.Syntax.{w16}
use mir.Val.{SFits}
use Rattle.math_integers.specs.Ranges.{zfits, back, res}
use Rattle.law_arithmetic.specs.Product.{mult_r_fits}
use Rattle.law_arithmetic.specs.Within.{word_is}
use Rattle.short_synthesis.proofs.lowered.Goals as goal

pub overflow_sub-result : goal.overflow_sub-result
overflow_sub-result c =
    let f : SFits w16 c.args.sri = word_is _ c.requires.2 in
    let t : SFits w16 c.term.result = rw c.term.ensures (mult_r_fits _ _) in
    search zfits

pub returns : goal.returns
returns c =
    let s = c in
    cc (back (overflow_sub-result c), back s.ranges.rrp, back s.ranges.v, back s.ranges.sri, res c.term)
