-- Iteration k stores one di and one sav: the elements at k of what the definition gives over all samples.
use Prim.Native.Nat.{◌-◌, ◌≤◌}
use mathlib.Core.Path.{◌≡◌}
use lib.ListN.{length}
use Rattle.math_lists.specs.Fill.{filled}
use Rattle.short_analysis.specs.Sections.{further, saved}
use Rattle.short_analysis.proofs.section.Given as goal

abbrev pub invariant-loop-k : goal.invariant-loop-k
invariant-loop-k l = (l.k ≤ 160) × (length l.di ≡ 160) × (length l.sav ≡ 160)
    × (l.di ≡ filled l.k (further l.rp l.prev l.initial.di) l.initial.di)
    × (l.sav ≡ filled l.k (saved l.rp l.prev l.initial.di) l.initial.sav)

abbrev pub decreases-loop-k : goal.decreases-loop-k
decreases-loop-k l = 160 - l.k
