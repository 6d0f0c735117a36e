-- A negative codeword does not fit. One that is not negative fits exactly when it is below 2^width.
use mathlib.Core.Path.{sym}
use Rattle.math_integers.specs.Halves.{zar, know}
use Rattle.math_integers.specs.Ranges.{back}
use Rattle.law_fields.specs.Fit.{fit_negative, fit_compared}
use Rattle.frame_codewords.specs.Bits.{power}
use Rattle.frame_codewords.proofs.fit.Goals as goal

pub returns-then-c-ge0 : goal.returns-then-c-ge0
returns-then-c-ge0 c =
    let t = rw (back c.ranges.c) at c.if-c-ge0.true in
    rw (power c.args.width c.requires, back c.ranges.c) (sym (fit_compared c.args.width c.args.c (omega (zar, t, know c.ranges.c))))

pub returns-else-c-ge0 : goal.returns-else-c-ge0
returns-else-c-ge0 c =
    let t = rw (back c.ranges.c) at c.if-c-ge0.false in
    cc (back c.ranges.c, c.if-c-ge0.false, fit_negative c.args.width c.args.c (omega (zar, t, know c.ranges.c)))
