-- An element that is read is a word, by its type. The loop reads all, so each of them is.
use Prim.Native.Nat.{ℕ, ◌<◌}
use mir.Syntax.{w16}
use mir.Val.{SFits}
use Rattle.standard.specs.Tables.{◌at◌}
use Rattle.long_search.proofs.each_a_word.Given as goal

abbrev pub invariant-loop-word : goal.invariant-loop-word
invariant-loop-word l = (j : ℕ) → j < l._word-index → SFits w16 (l.s at j)
