-- An sri with the bias less a term stands for the plain difference of the word and the term.
use mathlib.Core.Path.{◌∙◌}
use mir.Syntax.{w16}
use mir.Val.{SFits}
use Rattle.math_integers.specs.Ranges.{back, res}
use Rattle.law_arithmetic.specs.Product.{mult_r_fits}
use Rattle.short_synthesis.specs.Biased.{less_fits, less_low}
use Rattle.short_synthesis.proofs.fallen.Goals as goal

pub overflow_sub-result : goal.overflow_sub-result
overflow_sub-result c =
    let s = c in
    let t : SFits w16 c.biased.result = rw c.biased.ensures (mult_r_fits _ _) in
    rw (back s.ranges.sri, res c.biased) (less_fits s.args.sri c.biased.result s.requires.3 t)

pub returns : goal.returns
returns c =
    let s = c in
    rw (back (overflow_sub-result c), back s.ranges.sri, res c.biased)
    (less_low s.args.sri c.biased.result ∙ rw (c.biased.ensures, back s.ranges.rrp, back s.ranges.v))
