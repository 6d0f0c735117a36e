-- A cell plus a term fits 32 bits, so the sum on 32 bits is the plain sum.
use mir.Syntax.{w16}
use mir.Val.{SFits}
use Rattle.math_integers.specs.Ranges.{zfits, back, res}
use Rattle.law_arithmetic.specs.Product.{mult_r_fits}
use Rattle.law_arithmetic.specs.Within.{word_is}
use Rattle.short_synthesis.proofs.raised.Goals as goal

pub overflow_add-result : goal.overflow_add-result
overflow_add-result c =
    let f : SFits w16 c.args.v = word_is _ c.requires.1 in
    let t : SFits w16 c.term.result = rw c.term.ensures (mult_r_fits _ _) in
    search zfits

pub returns : goal.returns
returns c =
    let s = c in
    cc (back (overflow_add-result c), back s.ranges.rrp, back s.ranges.v, back s.ranges.sri, res c.term)
