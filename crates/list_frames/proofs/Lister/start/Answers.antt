-- The count is 0, and the encoder is the one that Encoder::home promises.
use mathlib.Core.Path.{ap}
use Rattle.standard.specs.Coder.{Coder}
use Rattle.list_frames.specs.Promise.{State, state}
use Rattle.list_frames.proofs.Lister.start.Goals as goal

pub returns : goal.returns
unfolding state
returns c = let pair : Coder → State = λ x. (0, x) in ap pair c.home.ensures
