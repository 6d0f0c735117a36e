-- The power at the lag is the sum of squares of the 40 samples of dp at the lag, which `l_squares` promises.
use mathlib.Core.Path.{refl, ap, ◌∙◌}
use native.Mathlib.Omega.{arith}
use Rattle.math_integers.specs.Ranges.{res}
use Rattle.standard.specs.Arithmetic.{L_squares}
use Rattle.standard.specs.LongTerm.{L_power}
use Rattle.long_search.specs.Search.{part_is}
use Rattle.long_search.proofs.power.Goals as goal

pub returns : goal.returns
unfolding L_power
returns c =
    let s = c in
    let h = s.requires.1.1 in
    res c.l_squares ∙ (c.l_squares.ensures ∙ ap (L_squares 3) (part_is s.args.dp.now s.args.lag _ _ (omega arith) refl))
