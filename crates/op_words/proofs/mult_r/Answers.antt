-- The product of two words plus 16384 fits 32 bits. The shift is that of the definition, and `clip_word` clips as the definition does.
use mathlib.Core.Path.{◌∙◌, ap}
use mir.Syntax.{w16}
use Rattle.math_integers.specs.Ranges.{zfits}
use Rattle.standard.specs.Arithmetic.{clip, mult_r}
use Rattle.op_words.proofs.mult_r.Goals as goal

pub returns : goal.returns
unfolding mult_r
returns c = search zfits ∙ (c.clip_word.ensures ∙ ap (clip w16) (search zfits))
