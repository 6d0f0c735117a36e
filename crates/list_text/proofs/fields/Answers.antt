-- An iteration puts the field of the next word: a word more of the text (`tabbed_next`).
use mathlib.Core.Path.{◌≡◌, refl}
use mathlib.Core.List.{append-nil, append_assoc}
use native.Mathlib.Omega.{arith}
use lib.IntN.{pos, nat_abs}
use lib.ListN.{get_or}
use borrow.Author.Rules.{rules}
use Rattle.standard.specs.Listing as standard
use Rattle.list_text.specs.Fields.{tabbed, tabbed_next}
use Rattle.list_text.proofs.fields.Goals as goal

pub loop-w-init : goal.loop-w-init
unfolding tabbed
loop-w-init g c = (rw append-nil refl, omega arith)

pub loop-w-preserved : goal.loop-w-preserved
unfolding standard.word
loop-w-preserved g c =
    let i = c.loop-w.w-index in
    let size : c.from.result ≡ nat_abs (get_or c.args.words.now i (pos 0)) = search rules in (
      rw (c.field.ensures.text, c.loop-w.invariant.0, tabbed_next c.args.words.now i c.loop-w-test.true, size, append_assoc) refl,
      omega (arith, c.field.ensures.room, c.loop-w.invariant.1),
    )
