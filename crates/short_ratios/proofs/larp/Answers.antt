-- Four cases of j. In each the shifts and sums of the code are those of the stretch's interpolation.
use mathlib.Core.Path.{sym, ◌∙◌}
use native.Mathlib.Omega.{arith}
use mir.Syntax.{w16}
use Rattle.math_integers.specs.Ranges.{back, res}
use Rattle.law_arithmetic.specs.Shift.{down_bits}
use Rattle.standard.specs.ShortTerm.{stretches}
use Rattle.short_ratios.specs.Stretches.{LARp, LARp_last}
use Rattle.short_ratios.proofs.larp.Goals as goal

pub returns-in-0 : goal.returns-in-0
unfolding LARp stretches
returns-in-0 c =
    let o = down_bits w16 c.args.old in
    let n = down_bits w16 c.args.new in
    rw c.in-0.is (cc (o 2 c.ranges.old, n 2 c.ranges.new, o 1 c.ranges.old, res c.add, res c.add-in-0))

pub returns-in-1 : goal.returns-in-1
unfolding LARp stretches
returns-in-1 c =
    rw c.in-1.is (cc (down_bits w16 c.args.old 1 c.ranges.old, down_bits w16 c.args.new 1 c.ranges.new, res c.add-in-1))

pub returns-in-2 : goal.returns-in-2
unfolding LARp stretches
returns-in-2 c =
    let n = down_bits w16 c.args.new in
    rw c.in-2.is (cc (down_bits w16 c.args.old 2 c.ranges.old, n 2 c.ranges.new, n 1 c.ranges.new, res c.add-in-2, res c.add-in-2-2))

pub returns-in_default : goal.returns-in_default
returns-in_default c = back c.ranges.new ∙ sym (LARp_last c.args.j c.args.old c.args.new (omega (arith, c.in_default)))
