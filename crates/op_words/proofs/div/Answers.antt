-- One case for each branch, by the law of the definition for that case. In the last branch 0 < num < denum, so the quotient is below
-- 32768 and is a word.
use Prim.Native.Nat.{◌*◌, ◌/◌}
use mathlib.Core.Path.{◌≡◌, sym, ◌∙◌}
use mathlib.Core.Bool.{true}
use lib.IntN.{pos, nat_abs}
use lib.Signed.{le_z, lt_z}
use mir.Syntax.{w16}
use Rattle.math_integers.specs.Halves.{zar, know, mem}
use Rattle.math_integers.specs.Ranges.{back}
use Rattle.standard.specs.Arithmetic.{div}
use Rattle.law_arithmetic.specs.Div.{div_zero, div_by_none, div_whole, div_fraction, div_fits}
use Rattle.op_words.proofs.div.Goals as goal
use Rattle.op_words.proofs.div.Goals.{Else-denum-num}

-- past the three tests, div is the quotient of what the locals give back
quotient : (c : Else-denum-num) → let s = c.before.before.before in
    div s.args.num s.args.denum ≡ pos (nat_abs (mem w16 s.args.num) * 32768 / nat_abs (mem w16 s.args.denum))
quotient c =
    let s = c.before.before.before in
    let low : le_z (pos 0) s.args.num ≡ true = omega (zar, know s.ranges.num) in
    let less : lt_z s.args.num s.args.denum ≡ true = omega (zar, know s.ranges.num, know s.ranges.denum) in
    rw (back s.ranges.num, back s.ranges.denum) (div_fraction s.args.num s.args.denum low less)

pub overflow_cast-result-else-denum-num-2 : goal.overflow_cast-result-else-denum-num-2
overflow_cast-result-else-denum-num-2 c = let s = c.before.before.before in rw (quotient c) at (div_fits s.args.num s.args.denum)

pub returns-then-num-le0 : goal.returns-then-num-le0
returns-then-num-le0 c =
    let s = c.before in
    sym (div_zero s.args.num s.args.denum (omega (zar, know s.ranges.num)))

pub returns-then-denum-le0 : goal.returns-then-denum-le0
returns-then-denum-le0 c =
    let s = c.before.before in
    sym (div_by_none s.args.num s.args.denum (omega (zar, know s.ranges.denum)))

pub returns-then-denum-num : goal.returns-then-denum-num
returns-then-denum-num c =
    let s = c.before.before.before in
    let above : lt_z (pos 0) s.args.denum ≡ true = omega (zar, know s.ranges.denum) in
    sym (div_whole s.args.num s.args.denum above (omega (zar, know s.ranges.num, know s.ranges.denum)))

pub returns-else-denum-num : goal.returns-else-denum-num
returns-else-denum-num c = back (overflow_cast-result-else-denum-num-2 c) ∙ sym (quotient c)
