-- The invariant is the plain sum of the squares so far (`Sum`). It cannot saturate, because the `requires` bounds all squares together; it
-- is doubled at the end.
use Prim.Native.Nat.{ℕ, ◌*◌, ◌^◌, ◌≤◌, ◌<◌}
use mathlib.Core.Path.{◌≡◌, refl, ◌∙◌}
use mathlib.Core.List.{List}
use native.Mathlib.Omega.{arith}
use lib.IntN.{ℤ, pos, ◌*ℤ◌, nat_abs}
use lib.ListN.{length, length-map}
use mir.Syntax.{w16, w32}
use mir.Val.{SFits}
use borrow.Author.Rules.{rules}
use Rattle.math_integers.specs.Halves.{mem}
use Rattle.math_integers.specs.Ranges.{back, wide, shr_fits, product_fits}
use Rattle.math_lists.specs.Tab.{map_at}
use Rattle.standard.specs.Arithmetic.{◌>>◌, L_squares}
use Rattle.standard.specs.Tables.{◌at◌}
use Rattle.op_sums.specs.Squares.{square_in}
use Rattle.op_sums.specs.Along.{sum_start, sum_room, sum_next, sum_fits, sum_end}
use Rattle.op_sums.proofs.l_squares.Invariants.{wt, most}
use Rattle.op_sums.proofs.l_squares.Goals as goal
use Rattle.op_sums.proofs.l_squares.Goals.{After-loop-x, After-x-1, Start}

pub loop-x-init : goal.loop-x-init
loop-x-init c = sum_start _ _ _

-- the word that was read, after its shift
module _ (c : After-x-1) where
  abbrev xs : List ℤ
  xs = c.args.xs.now

  abbrev n : ℕ
  n = c.args.n

  abbrev i : ℕ
  i = c.loop-x.x-index

  x_fits : SFits w16 (xs at i)
  x_fits = search rules

  -- as the code has it
  x-is : mem w32 (mem w16 (mem w16 (xs at i) >> n)) ≡ (xs at i) >> n
  x-is =
      let f : SFits w16 ((xs at i) >> n) = shr_fits (2 ^ n) x_fits in
      rw (back x_fits, back f) (back {w = w32} (wide f tt))

  -- its square is a term of the sum, and is within the bound
  term : ((xs at i) >> n) *ℤ ((xs at i) >> n) ≡ (wt n xs at i) *ℤ (wt n xs at i)
  term = let e = map_at (λ x. x >> n) xs i (pos 0) (pos 0) (omega arith) in rw e refl

  square : SFits w32 (((xs at i) >> n) *ℤ ((xs at i) >> n))
  square = let f : SFits w16 ((xs at i) >> n) = shr_fits (2 ^ n) x_fits in product_fits f f tt

  fits : length (wt n xs) * most n < 1073741824
  fits = rw (length-map xs (λ x. x >> n)) c.requires.1

  within : i < length (wt n xs)
  within = rw (length-map xs (λ x. x >> n)) (omega arith)

  in_room : nat_abs (((xs at i) >> n) *ℤ ((xs at i) >> n)) ≤ most n
  in_room = square_in n (xs at i) c.requires.0 x_fits

pub overflow_add-sum : goal.overflow_add-sum
overflow_add-sum c =
    rw (x-is c, back (square c))
    (sum_room (wt (n c) (xs c)) _ (most (n c)) refl (fits c) c.loop-x.invariant (within c) (term c) (in_room c))

pub loop-x-preserved : goal.loop-x-preserved
loop-x-preserved c =
    let h = c.loop-x.invariant in
    let room = sum_room (wt (n c) (xs c)) _ (most (n c)) refl (fits c) h (within c) (term c) (in_room c) in
    rw (x-is c, back (square c), back room) (sum_next (wt (n c) (xs c)) _ (most (n c)) refl (fits c) h (within c) (term c) (in_room c))

-- after the loop
module _ (c : After-loop-x) where
  count : length (wt c.args.n c.args.xs.now) ≡ length c.args.xs.now
  count = length-map c.args.xs.now (λ x. x >> c.args.n)

  all_fit : length (wt c.args.n c.args.xs.now) * most c.args.n < 1073741824
  all_fit = rw count c.requires.1

pub overflow_add-result : goal.overflow_add-result
overflow_add-result c = sum_fits _ _ _ refl (all_fit c) c.loop-x.invariant (rw (count c) (omega arith)) (rw (count c) (omega arith))

pub returns : goal.returns
unfolding L_squares
returns c =
    back (overflow_add-result c) ∙ sum_end _ _ _ refl (all_fit c) c.loop-x.invariant (rw (count c) (omega arith))
    (rw (count c) (omega arith))
