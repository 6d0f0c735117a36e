-- Two cases of the sign. `!v` is -v - 1, which is not negative where v is below 0, so the cast keeps it.
use Rattle.std.proofs.Common.{arith}
use Rattle.std.proofs.lemmas.Int.{ints}
use Rattle.pcm_alaw.specs.Rules.{counted}
use Rattle.pcm_alaw.proofs.counted.Goals as goal

pub returns-then-v-lt0 : goal.returns-then-v-lt0
unfolding counted
returns-then-v-lt0 c = grind (arith, ints)

pub returns-else-v-lt0 : goal.returns-else-v-lt0
unfolding counted
returns-else-v-lt0 c = grind (arith, ints)
