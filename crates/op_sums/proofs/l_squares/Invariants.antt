-- The invariant is the plain sum of the squares so far (`Sum`). It cannot saturate, because the `requires` bounds all squares together; it
-- is doubled at the end.
use Prim.Native.Nat.{ℕ, ◌-◌, ◌*◌, ◌^◌}
use mathlib.Core.List.{List, map}
use lib.IntN.{ℤ}
use Rattle.standard.specs.Arithmetic.{◌>>◌}
use Rattle.op_sums.specs.Along.{Sum}
use Rattle.op_sums.proofs.l_squares.Given as goal

-- the words after their shift, and the bound of a square
abbrev pub wt : ℕ → List ℤ → List ℤ
wt n xs = map (λ x. x >> n) xs

abbrev pub most : ℕ → ℕ
most n = 2 ^ (15 - n) * 2 ^ (15 - n)

abbrev pub invariant-loop-x : goal.invariant-loop-x
invariant-loop-x l = Sum (wt l.n l.xs) (wt l.n l.xs) (most l.n) l.x-index l.sum
