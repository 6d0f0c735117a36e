-- The first bytes are as they were, and nothing has changed where there were enough. Behind them is what the input has lost. Each
-- turn that goes on has read at least one of the bytes that are missing.
use Prim.Native.Nat.{◌-◌, ◌≤◌}
use mathlib.Core.Path.{◌≡◌}
use lib.ListN.{length, take}
use Rattle.std.specs.Prelude.{slice_range}
use Rattle.std.specs.Io.KnownBytes.{Consumes}
use Rattle.io_streams.proofs.gather.Given as goal

abbrev pub invariant-loop-done : goal.invariant-loop-done
invariant-loop-done g l =
    (l.there ≤ l.done) × (l.done ≤ length l.room) × (length l.room ≡ length l.initial.room)
    × (take l.there l.room ≡ take l.there l.initial.room)
    × (l.least ≤ l.there → (l.done ≡ l.there) × (l.room ≡ l.initial.room))
    × Consumes (g.R.Read.remaining l.initial.input) (g.R.Read.remaining l.input) (slice_range l.room l.there l.done)

-- the bytes that are missing
abbrev pub decreases-loop-done : goal.decreases-loop-done
decreases-loop-done g l = l.least - l.done
