-- Eight words of 16 bits become words of 32 bits: the cast changes none of the numbers.
use mathlib.Core.Path.{ap, ◌∙◌}
use mathlib.Core.List.{List}
use lib.IntN.{ℤ}
use mir.Syntax.{w16, w32}
use mir.Val.{SFits}
use borrow.Author.Rules.{rules}
use Rattle.math_integers.specs.Halves.{mem}
use Rattle.standard.specs.Tables.{◌at◌}
use Rattle.law_arithmetic.specs.Within.{word_yes}
use Rattle.short_synthesis.specs.declared.Line.{Line}
use Rattle.short_synthesis.specs.Lattice.{cells, All, all_from, lined_same, eight_is, widened}
use Rattle.short_synthesis.proofs.spread.Goals as goal

abbrev line : List ℤ → Line
line a =
    record { v0 = a at 0; v1 = a at 1; v2 = a at 2; v3 = a at 3; v4 = a at 4; v5 = a at 5; v6 = a at 6; v7 = a at 7 }

pub returns : goal.returns
returns c =
    let a = c.args.a in
    let f : All (SFits w16) (line a) = search rules in
    let e = lined_same (λ z. mem w32 (mem w16 z)) (λ z. z) widened (line a) f in
    record {
      cells = ap cells e ∙ eight_is a (search rules);
      words = rw e (all_from (λ z. z) word_yes (line a) f);
    }
