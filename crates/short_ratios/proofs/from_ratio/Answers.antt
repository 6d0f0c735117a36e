-- The two calls of `min` give the least of the three lines, and that is the piecewise line (`least_is`).
use mathlib.Core.Path.{◌∙◌}
use borrow.Author.Rules.{rules}
use mir.Syntax.{w16}
use mir.Val.{SFits}
use Rattle.math_integers.specs.Ranges.{back, res}
use Rattle.law_arithmetic.specs.Shift.{down_bits}
use Rattle.short_ratios.specs.Least.{min_is, least_is}
use Rattle.short_ratios.proofs.from_ratio.Goals as goal

pub returns : goal.returns
returns c =
    let l = c.before.before in
    let f : SFits w16 l.min.result = search rules in
    let g : SFits w16 c.min-2.result = search rules in
    let t = back c.ranges.size in
    let x = rw t at c.add.ensures in
    let y = rw t at c.add-2.ensures in
    let z = rw (down_bits w16 c.args.size 2 c.ranges.size) at c.add-3.ensures in
    let m = rw (res c.add, res c.add-2, x, y, min_is) at l.min.ensures.value in
    let r = rw (back f, res c.add-3, m, z, min_is) at c.min-2.ensures.value in
    back g ∙ (r ∙ least_is c.args.size c.ranges.size c.requires)
