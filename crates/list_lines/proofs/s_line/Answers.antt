-- Four texts, one behind the other: the letter and the number, the sub-frame, the mark, the codewords.
use mathlib.Core.Path.{refl}
use mathlib.Core.List.{append_assoc}
use Rattle.standard.specs.Listing.{text}
use Rattle.list_lines.specs.Lines.{S_text}
use Rattle.list_lines.proofs.s_line.Goals as goal

pub returns-clause-text : goal.returns-clause-text
unfolding S_text text
returns-clause-text c =
    rw (c.closed.ensures.text, c.mark_field.ensures.text, c.field.ensures.text, c.led.ensures.text) (simp append_assoc refl)
