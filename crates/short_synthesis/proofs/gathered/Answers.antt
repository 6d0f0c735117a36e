-- Eight words of 32 bits become words of 16 bits: each fits, so the cast changes none of the numbers.
use mathlib.Core.Path.{◌≡◌, ap}
use mathlib.Core.Bool.{true}
use lib.IntN.{ℤ}
use mir.Syntax.{w16, w32}
use mir.Val.{SFits}
use Rattle.math_integers.specs.Halves.{mem}
use Rattle.math_integers.specs.Ranges.{back}
use Rattle.law_arithmetic.specs.Within.{word, word_is}
use Rattle.short_synthesis.specs.Lattice.{cells, lined_same, word_back}
use Rattle.short_synthesis.proofs.gathered.Goals as goal

-- a word that a local gives back is one
fits : (z : ℤ) → word z ≡ true → SFits w16 (mem w32 z)
fits z h = rw (word_back z h) (word_is z h)

-- and the cast gives it back
cut : (z : ℤ) → word z ≡ true → mem w16 (mem w32 z) ≡ z
cut z h = rw (word_back z h) (back (word_is z h))

pub returns : goal.returns
returns c = ap cells (lined_same (λ z. mem w16 (mem w32 z)) (λ z. z) cut c.args.l c.requires)

pub overflow_cast-result : goal.overflow_cast-result
overflow_cast-result c = fits c.args.l.v0 c.requires.v0

pub overflow_cast-result-2 : goal.overflow_cast-result-2
overflow_cast-result-2 c = fits c.args.l.v1 c.requires.v1

pub overflow_cast-result-3 : goal.overflow_cast-result-3
overflow_cast-result-3 c = fits c.args.l.v2 c.requires.v2

pub overflow_cast-result-4 : goal.overflow_cast-result-4
overflow_cast-result-4 c = fits c.args.l.v3 c.requires.v3

pub overflow_cast-result-5 : goal.overflow_cast-result-5
overflow_cast-result-5 c = fits c.args.l.v4 c.requires.v4

pub overflow_cast-result-6 : goal.overflow_cast-result-6
overflow_cast-result-6 c = fits c.args.l.v5 c.requires.v5

pub overflow_cast-result-7 : goal.overflow_cast-result-7
overflow_cast-result-7 c = fits c.args.l.v6 c.requires.v6

pub overflow_cast-result-8 : goal.overflow_cast-result-8
overflow_cast-result-8 c = fits c.args.l.v7 c.requires.v7
