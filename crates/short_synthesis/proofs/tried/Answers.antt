-- A section by plain sums: if both are words, neither would have saturated.
use mathlib.Core.Path.{◌≡◌, sym, ◌∙◌}
use mathlib.Core.Bool.{true}
use mir.Syntax.{w32}
use Rattle.math_integers.specs.Halves.{mem}
use Rattle.math_integers.specs.Ranges.{back, res}
use Rattle.short_synthesis.specs.Lattice.{minus_word, plus_word}
use Rattle.short_synthesis.specs.Biased.{lifted}
use Rattle.short_synthesis.proofs.tried.Goals as goal

pub returns-then-is_lifted : goal.returns-then-is_lifted
returns-then-is_lifted c =
    let word : lifted (mem w32 c.fallen-out.result) ≡ true = sym c.is_lifted.ensures ∙ c.if-not-is_lifted.false in
    let below = rw (← res c.fallen-out, back c.ranges.rrp, back c.ranges.v, back c.ranges.sri) at c.fallen-out.ensures in
    let above = rw (← res c.risen-above, back c.ranges.rrp, back c.ranges.v) at c.risen-above.ensures in (
      word,
      record { out = minus_word _ _ below word; above = plus_word _ _ above (sym c.is_lifted-2.ensures ∙ c.if-is_lifted.true) },
    )
