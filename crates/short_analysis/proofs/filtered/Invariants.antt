-- An iteration is two sections. The second is as the first with the two lists exchanged: one law of the next section serves both.
use Prim.Native.Nat.{◌*◌, ◌-◌, ◌≤◌}
use mathlib.Core.List.{[]}
use mathlib.Core.Path.{◌≡◌}
use lib.ListN.{length, get_or}
use Rattle.short_analysis.specs.Frame.{Done}
use Rattle.short_analysis.proofs.filtered.Given as goal

abbrev pub invariant-loop-j : goal.invariant-loop-j
invariant-loop-j l = (l.j ≤ 4) × (length l.rp ≡ 160) × Done (get_or l.stretches 0 []) (get_or l.stretches 1 [])
    (get_or l.stretches 2 []) (get_or l.stretches 3 []) l.u l.initial.s (2 * l.j) l.s l.p l.q l.kept

abbrev pub decreases-loop-j : goal.decreases-loop-j
decreases-loop-j l = 4 - l.j
