-- Three texts, one behind the other: the letter and the number, the ending, the codewords.
use mathlib.Core.Path.{refl}
use mathlib.Core.List.{append_assoc}
use Rattle.standard.specs.Listing.{text}
use Rattle.list_lines.specs.Lines.{F_text}
use Rattle.list_lines.proofs.f_line.Goals as goal

pub returns-clause-text : goal.returns-clause-text
unfolding F_text text
returns-clause-text c =
    rw (c.closed.ensures.text, c.ending_field.ensures.text, c.led.ensures.text) (simp append_assoc refl)
