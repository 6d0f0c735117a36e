-- Turn i stores what `stray` says of codeword i. The invariant says that the first i are stored and the rest is as it was, so
-- a turn reads the codeword as it was at the start.
use Prim.Native.Nat.{◌≤◌}
use mathlib.Core.Path.{◌≡◌}
use lib.ListN.{length}
use Rattle.math_lists.specs.Fill.{filled}
use Rattle.test_agreement.specs.Stray.{stray}
use Rattle.test_agreement.proofs.strayed.Given as goal

abbrev pub invariant-loop-i : goal.invariant-loop-i
invariant-loop-i l =
    ((l.i ≤ 76) × (length l.codewords ≡ 76)) × (l.codewords ≡ filled l.i (stray l.k l.initial.codewords) l.initial.codewords)
