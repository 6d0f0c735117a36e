-- A cell with the bias plus a term stands for the plain sum of the word and the term.
use mathlib.Core.Path.{◌∙◌}
use mir.Syntax.{w16}
use mir.Val.{SFits}
use Rattle.math_integers.specs.Ranges.{back, res}
use Rattle.law_arithmetic.specs.Product.{mult_r_fits}
use Rattle.short_synthesis.specs.Biased.{more_fits, more_low}
use Rattle.short_synthesis.proofs.risen.Goals as goal

pub overflow_add-result : goal.overflow_add-result
overflow_add-result c =
    let s = c in
    let t : SFits w16 c.biased.result = rw c.biased.ensures (mult_r_fits _ _) in
    rw (back s.ranges.v, res c.biased) (more_fits s.args.v c.biased.result s.requires.2 t)

pub returns : goal.returns
returns c =
    let s = c in
    rw (back (overflow_add-result c), back s.ranges.v, res c.biased)
    (more_low s.args.v c.biased.result ∙ rw (c.biased.ensures, back s.ranges.rrp, back s.ranges.sri))
