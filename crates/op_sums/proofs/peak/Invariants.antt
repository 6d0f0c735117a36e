-- The invariant: max is the largest absolute value of the samples so far.
use Rattle.std.proofs.Common.{◌≡◌, take}
use mathlib.Core.List.{map}
use Rattle.math_lists.specs.Best.{largest}
use Rattle.standard.specs.Arithmetic.{abs}
use Rattle.op_sums.proofs.peak.Given as goal

abbrev pub invariant-loop-x : goal.invariant-loop-x
invariant-loop-x l = l.max ≡ largest (take l.x-index (map abs l.s))
