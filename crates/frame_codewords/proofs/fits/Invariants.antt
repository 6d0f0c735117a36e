-- The parts that are left decide the whole: a part that does not fit makes the answer false, one that fits leaves the rest.
use Prim.Native.Nat.{◌+◌, ◌*◌, ◌≤◌}
use mathlib.Core.Path.{◌≡◌}
use lib.ListN.{length, drop}
use Rattle.std.specs.Slice.Iter.{chunks_exact_rest, chunks_exact_size}
use Rattle.standard.specs.House.{fits}
use Rattle.frame_codewords.specs.Fitting.{fit_from}
use Rattle.frame_codewords.proofs.fits.Given as goal

abbrev pub invariant-loop-sub : goal.invariant-loop-sub
invariant-loop-sub l =
    let p = 8 + 17 * length l.yielded in
    (length l.yielded ≤ 4) × (chunks_exact_rest l.sub-iterator ≡ drop p l.c) × (chunks_exact_size l.sub-iterator ≡ 17)
    × (fit_from p l.c ≡ fits l.c)
