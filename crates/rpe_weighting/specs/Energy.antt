-- 4.2.14: the energies of the four grids, from one list of the samples' squares. No sum of thirteen squares saturates, so an energy is a
-- plain sum, doubled. The sum over grid 3 is made from the sum over grid 0: the two grids share twelve samples.
use Rattle.std.specs.Prelude.{ℕ, ◌+◌, ◌*◌, ◌<◌, ◌≤◌, ◌≡◌, Bool, true, ℤ, pos, ◌-ℤ◌, ◌*ℤ◌, nat_abs, length, take}
use Rattle.std.proofs.Math.Path.{refl, ap}
use Rattle.std.proofs.Common.{sym, ◌∙◌, add-one, arith, length-take, ext_get_or, take-suc, take_all, leb-true, le-leb}
use mathlib.Core.List.{List, [], ◌∷◌, foldl, foldl-append, map, zip_with}
use Rattle.std.proofs.Math.IntN.{◌+ℤ◌}
use Rattle.std.proofs.lemmas.List.{length-map}
use Rattle.std.proofs.Math.ListN.{get_or-map}
use Rattle.std.specs.Int.{w32}
use Rattle.math_integers.specs.Halves.{zar}
use Rattle.math_integers.specs.Sums.{add_is, minus_is}
use Rattle.math_lists.specs.Every.{every, every_at, every_places, every_take, every_map, every_so}
use Rattle.math_lists.specs.Tab.{tab, zip_at, zip_length}
use Rattle.standard.specs.Arithmetic.{◌>>◌, L_squares}
use Rattle.standard.specs.Tables.{◌at◌}
use Rattle.standard.specs.Rpe.{grid}
use Rattle.law_arithmetic.specs.Within.{word, word_is}
use Rattle.law_arithmetic.specs.Sum.{sum_in, sum_plain}
use Rattle.law_lengths.specs.Subframes.{grid_length}
use Rattle.law_loops.specs.Positions.{grid_at}
use Rattle.op_sums.specs.Room.{at_most, L_sum_plain}
use Rattle.op_sums.specs.Squares.{shifted, square_in}
use Rattle.op_sums.specs.Split.{sum_from}

-- the square of a sample, after a shift right by 2
abbrev pub square : ℤ → ℤ
square y = (y >> 2) *ℤ (y >> 2)

-- the squares of all samples
abbrev pub squared : List ℤ → List ℤ
squared x = map square x

-- a number of a size up to 8192 · 8192
abbrev pub small : ℤ → Bool
small = at_most 67108864

-- the squares of words are small
pub words_small : (x : List ℤ) → every word x ≡ true → every small (squared x) ≡ true
words_small x f =
    rw every_map (every_so word (λ y. small (square y)) (λ y h. le-leb _ 67108864 (square_in 2 y (omega arith) (word_is y h))) x f)

-- ---- the plain sum over a grid

abbrev pub total : ℕ → List ℤ → ℤ
total m q = foldl ◌+ℤ◌ (pos 0) (grid m q)

-- the sum of its first n alone
abbrev pub part : ℕ → List ℤ → ℕ → ℤ
part m q n = foldl ◌+ℤ◌ (pos 0) (take n (grid m q))

module _ (m : ℕ) (q : List ℤ) where
  -- an iteration of a loop that adds them up
  pub part_next : (n : ℕ) → n < 13 → part m q n +ℤ q at (m + 3 * n) ≡ part m q (n + 1)
  part_next n h =
      let l : n < length (grid m q) = omega (arith, grid_length m q) in
      rw (add-one, take-suc (grid m q) n (pos 0), foldl-append, grid_at m q n h)

  -- after the loop
  pub part_end : (n : ℕ) → 13 ≤ n → part m q n ≡ total m q
  part_end n h = ap (foldl ◌+ℤ◌ (pos 0)) (take_all n (grid m q) (omega (arith, grid_length m q)))

module _ (q : List ℤ) (l : length q ≡ 40) (f : every small q ≡ true) where
  -- one of forty small numbers
  pub small_at : (k : ℕ) → k < 40 → nat_abs (q at k) ≤ 67108864
  small_at k h = leb-true (nat_abs (q at k)) 67108864 (every_at small q k (pos 0) f (omega arith))

  module _ (m : ℕ) (k : m ≤ 3) where
    grid_small : every small (grid m q) ≡ true
    grid_small =
        every_places small (grid m q) (pos 0)
        (λ i h. let g : i < 13 = omega (arith, grid_length m q) in
        rw (grid_at m q i g) (le-leb _ 67108864 (small_at (m + 3 * i) (omega arith))))

    -- no sum over a grid, partial or whole, is above thirteen times as much
    pub part_in : (n : ℕ) → nat_abs (part m q n) ≤ 872415232
    part_in n =
        let xs = take n (grid m q) in
        let count : length xs ≤ 13 = rw (length-take n (grid m q)) (omega (arith, grid_length m q)) in
        let s = every_take small n (grid m q) grid_small in
        let each : (i : ℕ) → i < length xs → nat_abs (xs at i) ≤ 67108864 = λ i h. leb-true _ 67108864 (every_at small xs i (pos 0) s h) in
        let room : 0 + length xs * 67108864 < 2147483648 = omega arith in
        let e = sum_plain w32 67108864 0 xs (pos 0) (omega arith) each room in
        omega (arith, rw e at (sum_in w32 67108864 0 xs (pos 0) (omega arith) each room))

    pub total_in : nat_abs (total m q) ≤ 872415232
    total_in = rw (part_end m q 13 (omega arith)) at (part_in 13)

-- ---- the energy of a grid

module _ (m : ℕ) (x : List ℤ) where
  abbrev wt : List ℤ
  wt = shifted 2 (grid m x)

  thirteen : length wt ≡ 13
  thirteen = length-map (grid m x) (λ y. y >> 2) ∙ grid_length m x

  -- the square of a grid's sample is one of the squares
  square_at : (i : ℕ) → i < 13 → wt at i *ℤ wt at i ≡ squared x at (m + 3 * i)
  square_at i h =
      rw (get_or-map (λ (y : ℤ). y >> 2) (grid m x) i (pos 0), grid_at m x i h) (sym (get_or-map square x (m + 3 * i) (pos 0)))

  -- so a grid's squares are that grid of the squares
  squares_are : zip_with ◌*ℤ◌ wt wt ≡ grid m (squared x)
  squares_are =
      let n : length (zip_with ◌*ℤ◌ wt wt) ≡ 13 = omega (arith, zip_length ◌*ℤ◌ wt wt, thirteen) in
      ext_get_or (pos 0) _ _ (n ∙ sym (grid_length m (squared x)))
      (λ i h. let g : i < 13 = omega arith in
      zip_at ◌*ℤ◌ wt wt i (pos 0) (pos 0) (pos 0) (omega (arith, thirteen)) (omega (arith, thirteen))
      ∙ (square_at i g ∙ sym (grid_at m (squared x) i g)))

  module _ (k : m ≤ 3) (l : length x ≡ 40) (f : every small (squared x) ≡ true) where
    -- each of them is small, and their doubled sum fits 32 bits
    wt_in : (i : ℕ) → i < length wt → nat_abs (wt at i *ℤ wt at i) ≤ 67108864
    wt_in i h =
        let g : i < 13 = omega (arith, thirteen) in
        rw (square_at i g) (small_at (squared x) (length-map x square ∙ l) f (m + 3 * i) (omega arith))

    wt_room : length wt * 67108864 < 1073741824
    wt_room = rw thirteen (omega arith)

    -- the energy is twice the plain sum of them
    pub energy_is : L_squares 2 (grid m x) ≡ total m (squared x) +ℤ total m (squared x)
    unfolding L_squares
    energy_is =
        L_sum_plain wt wt 67108864 refl wt_in wt_room ∙ ap (λ (t : List ℤ). foldl ◌+ℤ◌ (pos 0) t +ℤ foldl ◌+ℤ◌ (pos 0) t) squares_are

-- ---- grid 3 is grid 0 without its first sample and with sample 39

-- so the sum over grid 3 is the sum over grid 0, less sample 0 and plus sample 39
pub fourth_is : (q : List ℤ) → total 0 q -ℤ q at 0 +ℤ q at 39 ≡ total 3 q
unfolding grid tab
fourth_is q =
    let s = pos 0 +ℤ q at 0 in
    let twelve = tab (λ i. q at (3 * i)) 1 12 in
    let t = foldl ◌+ℤ◌ (pos 0) twelve in
    let first : total 0 q ≡ s +ℤ t = sum_from s twelve in
    let less : total 0 q -ℤ q at 0 ≡ t = omega (zar, (add_is (pos 0) (q at 0)).0, (add_is s t).0, (minus_is (total 0 q) (q at 0)).0) in
    ap (λ (z : ℤ). z +ℤ q at 39) less ∙ sym (foldl-append ◌+ℤ◌ (pos 0) twelve (q at 39 ∷ []))
