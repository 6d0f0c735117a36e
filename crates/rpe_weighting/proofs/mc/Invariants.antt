-- Each sum that the search gets is the energy of its grid, and the loop keeps the best of the grids that it has passed.
use Prim.Native.Nat.{ℕ}
use mathlib.Core.Path.{◌≡◌}
use mathlib.Core.List.{List}
use lib.IntN.{ℤ}
use lib.ListN.{take}
use Rattle.math_lists.specs.Best.{best}
use Rattle.math_lists.specs.Tab.{tab}
use Rattle.standard.specs.Arithmetic.{L_squares}
use Rattle.standard.specs.Rpe.{grid}
use Rattle.op_sums.specs.Search.{chosen}
use Rattle.rpe_weighting.proofs.mc.Given as goal

-- the energy of a grid, and the four
abbrev pub energy : List ℤ → ℕ → ℤ
energy x m = L_squares 2 (grid m x)

abbrev pub energies : List ℤ → List ℤ
energies x = tab (energy x) 0 4

abbrev pub invariant-loop-m : goal.invariant-loop-m
invariant-loop-m l = chosen l.found ≡ best (take l.m (energies l.fn.x))
