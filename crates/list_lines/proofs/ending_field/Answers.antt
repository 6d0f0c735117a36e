-- Each arm of the match tells which ending was passed, and puts the text of that ending. A stop is a text and then its number.
use mathlib.Core.Path.{refl}
use mathlib.Core.List.{append_assoc, append-nil}
use Rattle.lpc_reflection.specs.Promise.{ended}
use Rattle.standard.specs.Listing.{text, ending_text}
use Rattle.list_lines.specs.Lines.{ending_field}
use Rattle.list_lines.specs.Told.{told_ending}
use Rattle.list_lines.proofs.ending_field.Goals as goal

pub returns-in-Silent-clause-text : goal.returns-in-Silent-clause-text
unfolding told_ending ended ending_field ending_text text
returns-in-Silent-clause-text c = rw (c.in-Some.is, c.in-Silent.is, c.text.ensures.text) refl

pub returns-in-Stopped-clause-text : goal.returns-in-Stopped-clause-text
unfolding told_ending ended ending_field ending_text text
returns-in-Stopped-clause-text c =
    rw (c.in-Some.is, c.in-Stopped.is, c.decimal.ensures.text, c.text-in-Stopped.ensures.text, c.from.ensures, append_assoc) refl

pub returns-in-Complete-clause-text : goal.returns-in-Complete-clause-text
unfolding told_ending ended ending_field ending_text text
returns-in-Complete-clause-text c = rw (c.in-Some.is, c.in-Complete.is, c.text-in-Complete.ensures.text) refl

pub returns-in_default-clause-text : goal.returns-in_default-clause-text
unfolding told_ending ending_field
returns-in_default-clause-text c = rw (c.in_default.is, append-nil) refl
