-- In iteration i the first 32 products and the last 8 are together the sum at lag 40 + i, and the better of two is kept.
use mathlib.Core.Path.{◌≡◌}
use lib.ListN.{take}
use Rattle.math_lists.specs.Best.{best}
use Rattle.op_sums.specs.Search.{chosen}
use Rattle.long_search.specs.Search.{correlated}
use Rattle.long_search.proofs.lag_search.Given as goal

abbrev pub invariant-loop-i : goal.invariant-loop-i
invariant-loop-i l = chosen l.found ≡ best (take l.i (correlated l.wt l.dp))
