-- A stretch of samples: the first loop carries the cells and msr from sample to sample, the second doubles and truncates.
use mathlib.Core.Path.{◌≡◌}
use mathlib.Core.Bool.{true}
use mathlib.Core.List.{map, zip}
use lib.ListN.{length, replicate}
use Rattle.math_lists.specs.Fill.{filled}
use Rattle.math_lists.specs.Scan.{Along}
use Rattle.standard.specs.Decoder.{srop}
use Rattle.law_arithmetic.specs.Within.{word}
use Rattle.short_synthesis.specs.Speech.{sounded}
use Rattle.short_synthesis.specs.Lattice.{cells, Each}
use Rattle.short_synthesis.specs.Biased.{base}
use Rattle.short_synthesis.proofs.stretch.Given as goal

abbrev pub invariant-loop-k : goal.invariant-loop-k
invariant-loop-k l =
    Along sounded (cells (base l.initial.v), l.initial.msr) (zip (replicate (length l.wt) (cells l.rp)) l.wt)
    (cells (base l.v), l.msr) l.k l.srop
    × Each word (base l.v) × (word l.msr ≡ true)

abbrev pub invariant-loop-out : goal.invariant-loop-out
invariant-loop-out l = l.srop ≡ filled l.out-index (map srop l.initial.srop) l.initial.srop
