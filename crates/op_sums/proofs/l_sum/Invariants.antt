-- The invariant is the plain sum of the products so far (`Sum`). It cannot saturate, because `Headroom` bounds all products together; it is
-- doubled at the end.
use Rattle.std.proofs.Common.{length}
use Rattle.op_sums.specs.Room.{Headroom}
use Rattle.op_sums.specs.Along.{Sum}
use Rattle.op_sums.proofs.l_sum.Given as goal

abbrev pub invariant-loop-x : goal.invariant-loop-x
invariant-loop-x l = (r : Headroom l.a l.b) × Sum l.a l.b r.most (length l.yielded) l.sum
