-- What std clamps to the ends of a word is the clip of the definition, so the cast is exact.
use Rattle.std.proofs.Common.{arith}
use Rattle.std.proofs.lemmas.Int.{ints, clamps}
use Rattle.standard.specs.Arithmetic.{clip}
use Rattle.op_words.proofs.clip_word.Goals as goal

pub returns : goal.returns
unfolding clip
returns c = grind (arith, ints, clamps)
