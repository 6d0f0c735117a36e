-- The product of a coefficient and a number with the bias, plus the offset, is the rounded product of the word: mult_r.
use mathlib.Core.Path.{sym, ◌∙◌}
use lib.IntN.{pos, ◌*ℤ◌, ◌+ℤ◌}
use mir.Syntax.{w32}
use mir.Val.{SFits}
use native.Mathlib.Omega.{arith}
use Rattle.math_integers.specs.Halves.{know}
use Rattle.math_integers.specs.Ranges.{back, rounded_fits, shr_fits}
use Rattle.law_arithmetic.specs.Product.{mult_r_plain}
use Rattle.law_arithmetic.specs.Within.{range_is, word_is}
use Rattle.short_ratios.specs.Bounds.{factor_is}
use Rattle.short_synthesis.specs.Biased.{low, unbiased, product_fits, rounded}
use Rattle.short_synthesis.proofs.biased.Goals as goal

pub overflow_mul-result : goal.overflow_mul-result
overflow_mul-result c = rw (back c.ranges.rrp, back c.ranges.v) (product_fits c.args.rrp c.args.v c.requires.0 c.requires.2)

pub overflow_add-result : goal.overflow_add-result
overflow_add-result c =
    rw (back (overflow_mul-result c), back c.ranges.rrp, back c.ranges.v, back c.ranges.c, c.requires.1)
    (rounded c.args.rrp c.args.v c.requires.0 c.requires.2)

pub returns : goal.returns
returns c =
    let r = c.args.rrp in
    let v = c.args.v in
    let f = factor_is r c.requires.0 in
    let g = word_is (low v) c.requires.2 in
    let h : SFits w32 (r *ℤ low v +ℤ pos 16384) = rounded_fits f g 16384 tt in
    rw (
      back (overflow_add-result c),
      back (overflow_mul-result c),
      back c.ranges.rrp,
      back c.ranges.v,
      back c.ranges.c,
      c.requires.1,
      unbiased r v,
    )
    (back (shr_fits 32768 h) ∙ sym (mult_r_plain r (low v) f g (omega (arith, range_is 32767 32767 r c.requires.0, know g))))
