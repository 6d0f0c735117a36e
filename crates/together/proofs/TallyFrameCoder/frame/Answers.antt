-- The frame is one more than those that were counted.
use mathlib.Core.Path.{refl}
use Rattle.together.specs.Count.{counted}
use Rattle.together.proofs.TallyFrameCoder.frame.Goals as goal

pub returns-clause-state : goal.returns-clause-state
unfolding counted
returns-clause-state c = refl
