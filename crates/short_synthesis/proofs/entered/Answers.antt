-- The eighth section by a plain difference: where that is a word, it does not saturate.
use mathlib.Core.Path.{◌≡◌, sym, ◌∙◌}
use mathlib.Core.Bool.{true}
use mir.Syntax.{w32}
use Rattle.math_integers.specs.Halves.{mem}
use Rattle.math_integers.specs.Ranges.{back, res}
use Rattle.short_synthesis.specs.Lattice.{minus_word}
use Rattle.short_synthesis.specs.Biased.{lifted, low_is}
use Rattle.short_synthesis.proofs.entered.Goals as goal

pub returns-then-is_lifted : goal.returns-then-is_lifted
returns-then-is_lifted c =
    let word : lifted (mem w32 c.entering-out.result) ≡ true = sym c.is_lifted.ensures ∙ c.if-is_lifted.true in
    let below = rw (← res c.entering-out, back c.ranges.rrp, back c.ranges.v, low_is c.args.wt c.requires.3) at c.entering-out.ensures in
    (word, minus_word _ _ below word)
