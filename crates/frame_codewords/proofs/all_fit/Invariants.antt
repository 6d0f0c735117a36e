-- Iteration i tests codeword i, and a test that fails makes the answer false.
use lib.ListN.{length}
use Rattle.frame_codewords.specs.Fitting.{Fitting}
use Rattle.frame_codewords.proofs.all_fit.Given as goal

abbrev pub invariant-loop-word : goal.invariant-loop-word
invariant-loop-word l = Fitting (length l.c) l.widths l.c (length l.yielded) l.all
