-- The three cases of 4.2.11: no positive sum, a power that L_max reaches, and a level. In the last both tests say that norm may be called.
use mathlib.Core.Path.{◌≡◌, ap, ap₂, ◌∙◌}
use mathlib.Core.Bool.{true, false}
use lib.IntN.{pos}
use lib.Signed.{le_z}
use Rattle.math_integers.specs.Halves.{zar, know}
use Rattle.math_integers.specs.Ranges.{back, res}
use Rattle.standard.specs.Arithmetic.{norm}
use Rattle.standard.specs.Lpc.{normalized}
use Rattle.standard.specs.LongTerm.{gain_level, bc}
use Rattle.long_search.proofs.gain.Goals as goal
use Rattle.long_search.proofs.gain.Goals.{Else-lmax-le0, Else-lpower-lmax}

-- past the first test L_max is above 0, past the second L_power is above L_max
none : (c : Else-lmax-le0) → le_z c.args.lmax (pos 0) ≡ false
none c = omega (zar, know c.ranges.lmax, c.if-lmax-le0.false)

more : (c : Else-lpower-lmax) → let s = c.before.before in le_z s.args.lpower s.args.lmax ≡ false
more c = let s = c in omega (zar, know s.ranges.lpower, know s.ranges.lmax, none c.before, c.if-lpower-lmax.false)

pub norm-temp-requires : goal.norm-temp-requires
norm-temp-requires c =
    let s = c in
    let a = none c.before in
    let b = more c in
    rw (back s.ranges.lpower) (omega (zar, know s.ranges.lpower, know s.ranges.lmax))

pub returns-then-lmax-le0 : goal.returns-then-lmax-le0
unfolding bc
returns-then-lmax-le0 c =
    let s = c in
    let t : le_z s.args.lmax (pos 0) ≡ true = omega (zar, know s.ranges.lmax, c.if-lmax-le0.true) in
    rw t

pub returns-then-lpower-lmax : goal.returns-then-lpower-lmax
unfolding bc
returns-then-lpower-lmax c =
    let s = c in
    let a = none c.before in
    let t : le_z s.args.lpower s.args.lmax ≡ true = omega (zar, know s.ranges.lpower, know s.ranges.lmax, c.if-lpower-lmax.true) in
    rw (a, t)

pub returns : goal.returns
unfolding bc
returns c =
    let b = c.before in
    let a = b.before in
    let n = a.before in
    let e = n.before in
    let s = e in
    let t = res n.norm-temp ∙ (n.norm-temp.ensures ∙ ap norm (back s.ranges.lpower)) in
    let r = res a.normalized ∙ (a.normalized.ensures ∙ ap₂ normalized t (back s.ranges.lmax)) in
    let q = res b.normalized-2 ∙ (b.normalized-2.ensures ∙ ap₂ normalized t (back s.ranges.lpower)) in
    rw (none e.before, more e) (c.level.ensures ∙ ap₂ gain_level r q)
