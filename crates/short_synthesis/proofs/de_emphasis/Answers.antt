-- De-emphasis of a sample with the bias: subtracting 2^30 before the shift by 15 takes off 32768 after it.
use mathlib.Core.Path.{◌≡◌, ap, ◌∙◌}
use lib.IntN.{ℤ, pos, ◌-ℤ◌, ◌*ℤ◌}
use lib.Signed.{shr_z}
use mir.Syntax.{w16, w32}
use mir.Val.{SFits}
use Rattle.math_integers.specs.Halves.{mem}
use Rattle.math_integers.specs.Ranges.{back, res, shr_fits, sum_fits}
use Rattle.standard.specs.Arithmetic.{clip, plus, ◌>>◌}
use Rattle.standard.specs.Decoder.{de_emphasis}
use Rattle.law_arithmetic.specs.Product.{mult_r_fits}
use Rattle.law_arithmetic.specs.Within.{word_is}
use Rattle.short_synthesis.specs.Biased.{low, faded, product_small, faded_fits, faded_sum}
use Rattle.short_synthesis.proofs.de_emphasis.Goals as goal
use Rattle.short_synthesis.proofs.de_emphasis.Goals.{Start}

pub overflow_mul-msr : goal.overflow_mul-msr
overflow_mul-msr c = rw (back c.ranges.msr) (product_small c.args.msr c.requires.0)

pub overflow_sub-msr : goal.overflow_sub-msr
overflow_sub-msr c = rw (back (overflow_mul-msr c), back c.ranges.msr) (faded_fits c.args.msr c.requires.0)

-- the term, and its sum with sr
module _ (c : Start) where
  abbrev m : ℤ
  m = c.args.msr

  term_is : mem w32 (shr_z (mem w32 (mem w32 (mem w32 m *ℤ pos 28180) -ℤ pos 1073725440)) 32768) ≡ faded m >> 15
  term_is =
      rw (back (overflow_sub-msr c), back (overflow_mul-msr c), back c.ranges.msr)
      (back (shr_fits 32768 (faded_fits m c.requires.0)))

pub overflow_add-sr : goal.overflow_add-sr
overflow_add-sr c =
    let f : SFits w16 (low c.args.sr) = word_is (low c.args.sr) c.requires.1 in
    let g = mult_r_fits (m c) (pos 28180) in
    rw (term_is c, back c.ranges.sr, faded_sum (m c) c.requires.0 c.args.sr) (sum_fits f g tt)

pub returns : goal.returns
unfolding de_emphasis plus
returns c =
    let s = c.before in
    res c.clipped
    ∙ (c.clipped.ensures
    ∙ ap (clip w16) (back (overflow_add-sr s) ∙ rw (term_is s, back s.ranges.sr) (faded_sum (m s) s.requires.0 s.args.sr)))
