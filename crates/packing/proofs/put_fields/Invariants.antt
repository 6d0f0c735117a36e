-- After i fields the queue and the bytes are those of the codewords before `from` + i.
use Prim.Native.Nat.{◌+◌, ◌≤◌}
use lib.ListN.{length}
use Rattle.packing.specs.Turns.{Filling}
use Rattle.packing.proofs.put_fields.Given as goal

abbrev pub invariant-loop-i : goal.invariant-loop-i
invariant-loop-i l = (l.i ≤ length l.bits) × Filling l.codewords (l.from + l.i) l.q.at l.q.have l.q.waiting l.bytes
