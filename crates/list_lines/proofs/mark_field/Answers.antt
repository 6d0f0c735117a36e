-- Each arm of the match tells which mark was passed, and puts the text of that mark.
use mathlib.Core.Path.{refl}
use mathlib.Core.List.{append-nil}
use Rattle.encoder.specs.Promise.{mark}
use Rattle.standard.specs.Listing.{text, mark_text}
use Rattle.list_lines.specs.Lines.{mark_field}
use Rattle.list_lines.specs.Told.{told_mark}
use Rattle.list_lines.proofs.mark_field.Goals as goal

pub returns-in-Rule-clause-text : goal.returns-in-Rule-clause-text
unfolding told_mark mark mark_field mark_text text
returns-in-Rule-clause-text c = rw (c.in-Some.is, c.in-Rule.is, c.text.ensures.text) refl

pub returns-in-Found-clause-text : goal.returns-in-Found-clause-text
unfolding told_mark mark mark_field mark_text text
returns-in-Found-clause-text c = rw (c.in-Some.is, c.in-Found.is, c.text-in-Found.ensures.text) refl

pub returns-in_default-clause-text : goal.returns-in_default-clause-text
unfolding told_mark mark_field
returns-in_default-clause-text c = rw (c.in_default.is, append-nil) refl
