-- One sample by plain sums: each section goes on from the one before, and these are 4.3.4's eight.
use Rattle.math_integers.specs.Ranges.{back}
use Rattle.short_synthesis.specs.Lattice.{all_from, factor_back, sections_are}
use Rattle.short_synthesis.specs.Biased.{base, low, lifted_held, low_entered}
use Rattle.short_synthesis.proofs.plain.Goals as goal

pub returns : goal.returns
returns c =
    let r = all_from (λ z. z) factor_back c.args.r c.requires.0 in
    let v = lifted_held c.args.v c.requires.2 in
    let (w7, p7) = c.in_ok-s7.ensures in
    let (w6, p6) = c.in_ok-s6.ensures in
    let (w5, p5) = c.in_ok-s5.ensures in
    let (w4, p4) = c.in_ok-s4.ensures in
    let (w3, p3) = c.in_ok-s3.ensures in
    let (w2, p2) = c.in_ok-s2.ensures in
    let (w1, p1) = c.in_ok-s1.ensures in
    let (w0, p0) = c.in_ok-s0.ensures in
    rw c.shifted.ensures
    (sections_are c.args.r (base c.args.v) (low c.args.wt)
    (rw (r.v7, v.v7, back c.ranges.wt) at p7)
    (low_entered c.in_ok-s7.s7 r.v6 v.v6 w7 p6)
    (low_entered c.in_ok-s6.s6.out r.v5 v.v5 w6 p5)
    (low_entered c.in_ok-s5.s5.out r.v4 v.v4 w5 p4)
    (low_entered c.in_ok-s4.s4.out r.v3 v.v3 w4 p3)
    (low_entered c.in_ok-s3.s3.out r.v2 v.v2 w3 p2)
    (low_entered c.in_ok-s2.s2.out r.v1 v.v1 w2 p1)
    (low_entered c.in_ok-s1.s1.out r.v0 v.v0 w1 p0))
