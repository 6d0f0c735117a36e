-- 4.2.8 step by step: each operation's promise, put into the next.
use borrow.Author.Rules.{rules}
use mir.Syntax.{w16}
use Rattle.math_integers.specs.Ranges.{back, res}
use Rattle.law_arithmetic.specs.Shift.{up_bits}
use Rattle.standard.specs.ShortTerm.{LARpp}
use Rattle.short_ratios.proofs.larpp.Goals as goal

pub returns : goal.returns
unfolding LARpp
returns c =
    let m = c.before in
    let i = m.before in
    let t = i.before in
    let b = t.before in
    let a = b.before in
    let o = a.before in
    let sum = up_bits w16 a.add.result 10 (search rules) in
    let twice = up_bits w16 b.lar_b.result 1 (search rules) in
    cc (back o.ranges.larc, res o.lar_mic, sum, twice, res t.sub-temp1, res i.lar_inva, res m.mult_r-temp, res c.add-2)
