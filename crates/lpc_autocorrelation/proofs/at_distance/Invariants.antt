-- Iteration j adds a block of 32 products: before it the sum is that of the first 32 * j (`parts_next`).
use Rattle.std.specs.Prelude.{◌≡◌, ◌*◌}
use Rattle.lpc_autocorrelation.specs.Blocks.{upto}
use Rattle.lpc_autocorrelation.proofs.at_distance.Given as goal

abbrev pub invariant-loop-j : goal.invariant-loop-j
invariant-loop-j l = l.sum ≡ upto l.z l.k (32 * l.j)
