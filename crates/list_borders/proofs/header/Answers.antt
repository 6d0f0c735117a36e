-- The law `header_is` computes the header's text; it is the bytes that are put.
use mathlib.Core.Path.{refl}
use Rattle.standard.specs.Listing.{text}
use Rattle.list_borders.specs.Borders.{header_is}
use Rattle.list_borders.proofs.header.Goals as goal

pub returns : goal.returns
unfolding text
returns c = rw (c.text.ensures.text, c.new-line.ensures, header_is) refl
