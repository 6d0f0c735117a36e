-- The product of two words fits in 32 bits and the shift is that of the definition; `clip_word` then gives its clip.
use mathlib.Core.Path.{◌∙◌, ap}
use mir.Syntax.{w16}
use Rattle.math_integers.specs.Ranges.{zfits}
use Rattle.standard.specs.Arithmetic.{clip, mult}
use Rattle.op_words.proofs.mult.Goals as goal

pub returns : goal.returns
unfolding mult
returns c = search zfits ∙ (c.clip_word.ensures ∙ ap (clip w16) (search zfits))
