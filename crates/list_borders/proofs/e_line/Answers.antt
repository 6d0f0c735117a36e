-- Beyond the limit the line is the one text of the law `E_limit`. Up to it the law `E_end` gives the line as five texts, which are
-- put one behind the other.
use mathlib.Core.Path.{refl}
use native.Mathlib.Omega.{arith}
use Rattle.standard.specs.Listing.{text}
use Rattle.list_borders.specs.Borders.{E_limit, E_end}
use Rattle.list_borders.proofs.e_line.Goals as goal

pub returns-then-bytes-gt320000000 : goal.returns-then-bytes-gt320000000
unfolding text
returns-then-bytes-gt320000000 c = rw (c.text.ensures.text, c.new-line.ensures, E_limit c.args.bytes (omega arith)) refl

pub returns-else-bytes-gt320000000 : goal.returns-else-bytes-gt320000000
unfolding text
returns-else-bytes-gt320000000 c =
    rw (
      c.text-else-bytes-gt320000000-2.ensures.text,
      c.field-else-bytes-gt320000000-2.ensures.text,
      c.field-else-bytes-gt320000000.ensures.text,
      c.field.ensures.text,
      c.text-else-bytes-gt320000000.ensures.text,
      c.new-line.ensures,
      E_end c.args.bytes (omega arith),
    ) refl
