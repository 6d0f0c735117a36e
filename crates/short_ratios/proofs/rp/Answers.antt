-- The absolute value is not negative, as `from_ratio` asks. The two cases are the sign of the ratio.
use mathlib.Core.Path.{◌≡◌}
use mathlib.Core.Bool.{true, false}
use lib.IntN.{pos}
use lib.Signed.{lt_z}
use mir.Syntax.{w16}
use Rattle.math_integers.specs.Halves.{zar, mem}
use Rattle.math_integers.specs.Ranges.{back, res}
use Rattle.law_arithmetic.specs.Clip.{abs_clip}
use Rattle.standard.specs.Lpc.{with_sign}
use Rattle.standard.specs.ShortTerm.{rp}
use Rattle.short_ratios.proofs.rp.Goals as goal

pub from_ratio-temp-requires : goal.from_ratio-temp-requires
from_ratio-temp-requires c = rw (res c.abs, c.abs.ensures) (omega (zar, abs_clip (mem w16 c.args.larp)))

pub returns-then-larp-lt0 : goal.returns-then-larp-lt0
unfolding rp with_sign
returns-then-larp-lt0 c =
    let k = c.before.before in
    let s = k.before.before in
    let x = back s.ranges.larp in
    let below : lt_z s.args.larp (pos 0) ≡ true = rw x at c.if-larp-lt0.true in
    rw below (cc (x, res k.abs, res k.from_ratio-temp, res c.sub))

pub returns-else-larp-lt0 : goal.returns-else-larp-lt0
unfolding rp with_sign
returns-else-larp-lt0 c =
    let k = c.before in
    let s = k.before.before in
    let x = back s.ranges.larp in
    let above : lt_z s.args.larp (pos 0) ≡ false = rw x at c.if-larp-lt0.false in
    rw above (cc (x, res k.abs, res k.from_ratio-temp))
