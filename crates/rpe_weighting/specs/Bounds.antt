-- House rules, 'Six sums' (e) and (f): a grid's energy is from 0 to 1744830464, the filter's sum is at most 1625169920 in size, and no
-- step of either saturates.
use Rattle.std.specs.Prelude.{ℕ, ◌+◌, ◌*◌, ◌<◌, ◌≤◌, ◌≡◌, true, List, ℤ, pos, length}
use Rattle.std.proofs.Common.{arith}
use Rattle.math_lists.specs.Every.{every, every_at, every_places}
use Rattle.standard.specs.Arithmetic.{within, L_squares}
use Rattle.standard.specs.Rpe.{grid}
use Rattle.law_arithmetic.specs.Within.{word}
use Rattle.law_lengths.specs.Subframes.{grid_length}
use Rattle.law_loops.specs.Positions.{grid_at}
use Rattle.op_sums.specs.Squares.{squares_in}

-- ---- the energy of a grid

-- x is forty words, m one of the four grids
module _ (m : ℕ) (x : List ℤ) (k : m ≤ 3) (l : length x ≡ 40) (f : every word x ≡ true) where
  words_on : every word (grid m x) ≡ true
  words_on =
      every_places word (grid m x) (pos 0)
      (λ i h. let g : i < 13 = omega (arith, grid_length m x) in rw (grid_at m x i g) (every_at word x (m + 3 * i) (pos 0) f (omega arith)))

  few : length (grid m x) * 67108864 < 1073741824
  few = rw grid_length (omega arith)

  -- sum (e): its energy is from 0 to 1744830464
  pub energy_in : within (pos 0) (pos 1744830464) (L_squares 2 (grid m x)) ≡ true
  energy_in = squares_in 2 (grid m x) (omega arith) words_on few 1744830464 (rw grid_length (omega arith))
