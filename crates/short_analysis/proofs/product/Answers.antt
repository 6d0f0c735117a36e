-- mult_r gives a word, so the casts to 32 bits and back change no number.
use mathlib.Core.Path.{◌≡◌, ◌∙◌}
use lib.IntN.{ℤ}
use mir.Syntax.{w16, w32}
use mir.Val.{SFits}
use Rattle.math_integers.specs.Halves.{mem}
use Rattle.math_integers.specs.Ranges.{zfits, back, res}
use Rattle.law_arithmetic.specs.Product.{mult_r_fits}
use Rattle.short_analysis.proofs.product.Goals as goal

-- what the cast gives
wide_is : (z : ℤ) → SFits w16 z → mem w32 (mem w16 z) ≡ z
wide_is z f = search zfits

pub overflow_cast-result : goal.overflow_cast-result
overflow_cast-result c = rw (res c.term, c.term.ensures) (mult_r_fits _ _)

pub returns : goal.returns
returns c =
    let s = c in
    let product = rw (wide_is s.args.rp s.ranges.rp, wide_is s.args.x s.ranges.x) at c.term.ensures in
    back (overflow_cast-result c) ∙ (res c.term ∙ product)
