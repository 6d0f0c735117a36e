-- The invariant is `Reading` at the place after the ratios and j sub-frames. After the fourth all codewords are written.
use Prim.Native.Nat.{◌+◌, ◌*◌, ◌≤◌}
use Rattle.packing.specs.Turns.{Reading}
use Rattle.packing.proofs.fill_codewords.Given as goal

abbrev pub invariant-loop-j : goal.invariant-loop-j
invariant-loop-j l = (l.j ≤ 4) × Reading l.bytes (5 + 7 * l.j) (8 + 17 * l.j) 4 l.waiting l.codewords
