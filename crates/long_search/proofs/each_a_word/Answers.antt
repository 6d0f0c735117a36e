-- An element that is read is a word, by its type. The loop reads all, so each of them is.
use native.Mathlib.Omega.{arith}
use borrow.Author.Count.{below_more}
use borrow.Author.Rules.{rules}
use Rattle.law_arithmetic.specs.Within.{words_yes}
use Rattle.long_search.proofs.each_a_word.Goals as goal

pub loop-word-preserved : goal.loop-word-preserved
loop-word-preserved c = below_more _ _ c.loop-word.invariant (search rules)

pub returns : goal.returns
returns c = words_yes c.args.s.now (λ j h. c.loop-word.invariant j (omega arith))
