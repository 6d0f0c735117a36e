-- One sample: where the plain sums fit they are the cells of 4.3.4; where one does not, the slow way gives these.
use mathlib.Core.Path.{◌≡◌, ap, ◌∙◌}
use Rattle.math_integers.specs.Ranges.{back}
use Rattle.standard.specs.Decoder.{synthesised}
use Rattle.short_synthesis.specs.Lattice.{cells, after_words}
use Rattle.short_synthesis.specs.Biased.{base, low, low_fits, low_is}
use Rattle.short_synthesis.proofs.lattice.Goals as goal
use Rattle.short_synthesis.proofs.lattice.Goals.{After-limited}

pub returns-in-Some : goal.returns-in-Some
returns-in-Some c = rw (back c.ranges.wt) at c.in-Some.ensures

pub overflow_sub-wt : goal.overflow_sub-wt
overflow_sub-wt c = low_fits c.args.wt c.requires.3

pub limited-requires : goal.limited-requires
limited-requires c = (c.requires.0, rw c.without_bias.ensures c.requires.2, rw (low_is c.args.wt c.requires.3) c.requires.3)

-- what the slow way gives
slow : (c : After-limited) → cells c.limited.result ≡ (synthesised (cells (base c.args.v)) (cells c.args.r, low c.args.wt)).0
slow c = rw (c.without_bias.ensures, low_is c.args.wt c.requires.3) at c.limited.ensures

pub with_bias-requires : goal.with_bias-requires
with_bias-requires c = after_words c.args.r (base c.args.v) (low c.args.wt) c.limited.result (slow c)

pub returns-in-None : goal.returns-in-None
returns-in-None c = ap cells c.with_bias.ensures ∙ slow (goal.at.returns-in-None c).After-limited
