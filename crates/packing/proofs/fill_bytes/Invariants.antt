-- The invariant is `Filling` at the place after the ratios and j sub-frames. After the fourth only the last byte is left.
use Prim.Native.Nat.{◌+◌, ◌*◌, ◌≤◌}
use Rattle.packing.specs.Turns.{Filling}
use Rattle.packing.proofs.fill_bytes.Given as goal

abbrev pub invariant-loop-j : goal.invariant-loop-j
invariant-loop-j l = (l.j ≤ 4) × Filling l.codewords (8 + 17 * l.j) (4 + 7 * l.j) 4 l.waiting l.bytes
