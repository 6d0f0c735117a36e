-- Iteration k makes one step of the definition's run, from `last`, which is the sample before.
use Rattle.math_lists.specs.Scan.{Along}
use Rattle.standard.specs.Preprocessing.{emphasis}
use Rattle.pre_processing.proofs.emphasis.Given as goal

abbrev pub invariant-loop-k : goal.invariant-loop-k
invariant-loop-k l = Along emphasis l.fn.mp l.sof l.last l.k l.s
