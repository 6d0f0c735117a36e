-- What is kept fits its buffer.
use Rattle.std.proofs.Common.{◌≤◌, length}
use Rattle.io_coding.proofs.run_counted.Given as goal

abbrev pub invariant-loop-i : goal.invariant-loop-i
invariant-loop-i g l = l.there ≤ length l.room

abbrev pub invariant-loop-j : goal.invariant-loop-j
invariant-loop-j g l = l.there ≤ length l.room
