-- What std clamps to the ends of a word is the clip of the definition.
use Rattle.std.proofs.Common.{arith}
use Rattle.std.proofs.lemmas.Int.{ints, clamps}
use Rattle.standard.specs.Arithmetic.{clip}
use Rattle.short_synthesis.proofs.clipped.Goals as goal

pub returns : goal.returns
unfolding clip
returns c = grind (arith, ints, clamps)
