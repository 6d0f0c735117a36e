-- What is kept fits its buffer.
use Rattle.std.proofs.Common.{◌≤◌, length}
use Rattle.io_coding.proofs.run.Given as goal

abbrev pub invariant-loop : goal.invariant-loop
invariant-loop g l = l.there ≤ length l.room

abbrev pub invariant-loop-2 : goal.invariant-loop-2
invariant-loop-2 g l = l.there ≤ length l.room
