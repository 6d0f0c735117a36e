-- The difference of two words fits in 32 bits, so it is exact there; `clip_word` then gives the clip of the definition.
use mathlib.Core.Path.{◌∙◌, ap}
use mir.Syntax.{w16}
use Rattle.math_integers.specs.Ranges.{zfits}
use Rattle.standard.specs.Arithmetic.{clip, minus}
use Rattle.op_words.proofs.sub.Goals as goal

pub returns : goal.returns
unfolding minus
returns c = search zfits ∙ (c.clip_word.ensures ∙ ap (clip w16) (search zfits))
