-- Each word with the bias stands for the word.
use mathlib.Core.Path.{ap, ◌∙◌}
use lib.IntN.{pos, ◌+ℤ◌}
use mir.Syntax.{w32}
use borrow.Author.Rules.{rules}
use Rattle.math_integers.specs.Halves.{mem}
use Rattle.short_synthesis.specs.Lattice.{lined_same, mapped}
use Rattle.short_synthesis.specs.Biased.{base, low, lift_is}
use Rattle.short_synthesis.proofs.with_bias.Goals as goal

pub returns : goal.returns
returns c =
    let l = c.args.l in
    ap base (mapped (λ z. mem w32 (mem w32 z +ℤ pos 32768)) (λ z y h r. search rules) l c.map.result c.requires c.map.ensures)
    ∙ lined_same (λ z. low (mem w32 (mem w32 z +ℤ pos 32768))) (λ z. z) lift_is l c.requires
