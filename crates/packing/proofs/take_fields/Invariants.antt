-- After i fields the queue and the codewords are those before `from` + i.
use Prim.Native.Nat.{◌+◌, ◌≤◌}
use lib.ListN.{length}
use Rattle.packing.specs.Turns.{Reading}
use Rattle.packing.proofs.take_fields.Given as goal

abbrev pub invariant-loop-i : goal.invariant-loop-i
invariant-loop-i l = (l.i ≤ length l.bits) × Reading l.bytes l.q.at (l.from + l.i) l.q.have l.q.waiting l.codewords
