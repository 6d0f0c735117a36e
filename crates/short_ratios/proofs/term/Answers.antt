-- The rounded product is mult_r, since a coefficient is not -32768.
use mathlib.Core.Path.{◌∙◌, sym}
use native.Mathlib.Omega.{arith}
use Rattle.math_integers.specs.Halves.{know}
use Rattle.math_integers.specs.Ranges.{zfits}
use Rattle.law_arithmetic.specs.Product.{mult_r_plain}
use Rattle.law_arithmetic.specs.Within.{range_is, word_is}
use Rattle.short_ratios.specs.Bounds.{factor_is}
use Rattle.short_ratios.proofs.term.Goals as goal

pub returns : goal.returns
returns c =
    let f = factor_is c.args.rp c.requires.0 in
    let g = word_is c.args.x c.requires.1 in
    let r = range_is 32767 32767 c.args.rp c.requires.0 in
    search zfits ∙ sym (mult_r_plain c.args.rp c.args.x f g (omega (arith, r, know g)))
