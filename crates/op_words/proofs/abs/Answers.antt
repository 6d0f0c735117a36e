-- The saturated size of std is the clip of the definition.
use Rattle.std.proofs.Common.{rules}
use Rattle.standard.specs.Arithmetic.{clip, abs}
use Rattle.op_words.proofs.abs.Goals as goal

pub returns : goal.returns
unfolding abs clip
returns c = search rules
