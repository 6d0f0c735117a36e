-- The text of the first words is put, in at most 8 bytes for each. An iteration puts the field of the next word behind it.
use Prim.Native.Nat.{◌*◌, ◌+◌, ◌≤◌}
use mathlib.Core.Path.{◌≡◌}
use mathlib.Core.List.{◌++◌, map}
use lib.ListN.{length, take}
use Rattle.standard.specs.Listing as standard
use Rattle.list_text.specs.Fields.{tabbed}
use Rattle.list_text.proofs.fields.Given as goal

abbrev pub invariant-loop-w : goal.invariant-loop-w
invariant-loop-w g l =
    (l.out.items ≡ l.initial.out.items ++ tabbed (map standard.word (take l.w-index l.words)))
    × (length l.out.items ≤ length l.initial.out.items + 8 * l.w-index)
