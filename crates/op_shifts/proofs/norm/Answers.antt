-- By the law `normal`, norm of a positive long word is the count of leading zeros less 1. So the subtraction and the cast are exact.
use Rattle.std.proofs.Common.{◌≡◌, suc, pos, sym, ap, ◌∙◌, arith, nat_abs, of_z}
use Rattle.std.specs.Int.{w32}
use Rattle.math_integers.specs.Halves.{N, zar, know, abs_is}
use Rattle.math_integers.specs.Ranges.{back, bits_pos}
use Rattle.law_arithmetic.specs.Norm.{Normal, normal}
use Rattle.op_shifts.proofs.norm.Goals as goal
use Rattle.op_shifts.proofs.norm.Goals.{After-leading_zeros}

normed : (c : After-leading_zeros) → Normal c.args.a
normed c = normal c.args.a c.requires c.ranges.a

-- what the machine counts
counted : (c : After-leading_zeros) → c.leading_zeros.result ≡ suc (normed c).shifts
counted c =
    let a = c.args.a in
    let none : N a ≡ 0 = omega (zar, know c.ranges.a) in
    let e : of_z w32 a ≡ nat_abs a = omega (zar, bits_pos w32 a none, abs_is a) in
    rw (back c.ranges.a, e) at c.leading_zeros.ensures ∙ (normed c).counted

pub overflow_cast-result : goal.overflow_cast-result
overflow_cast-result c = omega (zar, counted c, (normed c).most)

pub returns : goal.returns
returns c = back (overflow_cast-result c) ∙ (ap pos (omega (arith, counted c)) ∙ sym (normed c).is)

pub overflow_sub-result : goal.overflow_sub-result
overflow_sub-result c = omega (zar, counted c)
