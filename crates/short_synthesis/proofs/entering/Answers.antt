-- 32768 * 32768 taken from the offset leaves every sum in 32 bits, and is the bias of the difference.
use native.Mathlib.Omega.{arith}
use Rattle.math_integers.specs.Ranges.{back, shr_fits}
use Rattle.law_arithmetic.specs.Within.{word_is}
use Rattle.short_synthesis.specs.Biased.{product_fits, more_offset, more_rounded, less_shifted_fits, entering_is}
use Rattle.short_synthesis.proofs.entering.Goals as goal

pub overflow_mul-result : goal.overflow_mul-result
overflow_mul-result c = rw (back c.ranges.rrp, back c.ranges.v) (product_fits c.args.rrp c.args.v c.requires.0 c.requires.2)

pub overflow_sub-result : goal.overflow_sub-result
overflow_sub-result c = rw (back c.ranges.c, c.requires.1) (more_offset c.args.rrp _ c.requires.0 (omega arith))

pub overflow_add-result : goal.overflow_add-result
overflow_add-result c =
    rw (back (overflow_mul-result c), back (overflow_sub-result c), back c.ranges.rrp, back c.ranges.v, back c.ranges.c, c.requires.1)
    (more_rounded c.args.rrp _ c.requires.0 (omega arith) c.args.v c.requires.2)

pub overflow_sub-result-2 : goal.overflow_sub-result-2
overflow_sub-result-2 c =
    let wt = c.args.wt in
    rw (back (overflow_add-result c), back (shr_fits 32768 (overflow_add-result c)), back c.ranges.wt)
    (less_shifted_fits wt _ (word_is wt c.requires.3) (overflow_add-result c))

pub returns : goal.returns
returns c =
    let a = overflow_add-result c in
    rw (back (overflow_sub-result-2 c), back a, back (shr_fits 32768 a), back (overflow_mul-result c), back (overflow_sub-result c))
    (rw (back c.ranges.rrp, back c.ranges.v, back c.ranges.c, back c.ranges.wt, c.requires.1)
    (entering_is c.args.rrp c.args.v c.args.wt c.requires.0 c.requires.2))
