-- After n iterations each of the three is the plain sum of the first n squares of its grid, and that sum fits 32 bits.
use mathlib.Core.Path.{◌≡◌}
use Rattle.rpe_weighting.specs.Energy.{part}
use Rattle.rpe_weighting.proofs.totals.Given as goal

abbrev pub invariant-loop-n : goal.invariant-loop-n
invariant-loop-n l = (l.first ≡ part 0 l.q l.n) × (l.second ≡ part 1 l.q l.n) × (l.third ≡ part 2 l.q l.n)
