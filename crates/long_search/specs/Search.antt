-- 4.2.11: the sums that the search compares, that each fits 32 bits, and the gain code at the lag found.
use Rattle.std.specs.Prelude.{ℕ, ◌+◌, ◌-◌, ◌<◌, ◌≤◌, ◌≡◌, refl, true, List, map, ℤ, pos, ◌+ℤ◌, ◌*ℤ◌, nat_abs, length, take, drop}
use Rattle.std.proofs.Common.{sym, ap, ◌∙◌, arith, length-take, length-drop, take_all, drop-drop, SFits}
use Rattle.std.specs.Int.{w16, w32}
use Rattle.math_integers.specs.Halves.{zar, abs_is}
use Rattle.math_lists.specs.Every.{every, every_take, every_drop}
use Rattle.math_lists.specs.Tab.{tab, tab_at}
use Rattle.standard.specs.Arithmetic.{shr, sub, L_sum}
use Rattle.standard.specs.LongTerm.{back, scal, lag_search, Nc, L_power, bc}
use Rattle.standard.specs.Tables.{◌at◌}
use Rattle.law_arithmetic.specs.Within.{word}
use Rattle.op_sums.specs.Room.{at_most, Headroom, words_sized, sized_product, sized_room, sized_in}
use Rattle.op_sums.specs.Split.{L_sum_parts}

-- wt[0..39]: d, scaled
abbrev pub scaled : List ℤ → List ℤ
scaled d = map (λ x. shr w16 x (scal d)) d

-- the sum at each lag from 40 to 120, of d scaled to wt
abbrev pub correlated : List ℤ → List ℤ → List ℤ
correlated wt dp = tab (λ lag. L_sum (pos 0) wt (back lag dp)) 40 81

-- L_max: the greatest sum, with the scaling of d taken back
abbrev pub L_max : List ℤ → List ℤ → ℤ
L_max d dp = shr w32 (lag_search d dp).sum (sub (pos 6) (scal d))

-- the gain code of d at the lag that the search finds in dp
abbrev pub gain_code : List ℤ → List ℤ → ℕ
gain_code d dp = bc (L_max d dp) (L_power (Nc (lag_search d dp)) dp)

-- the part of dp from a to b, where that is the 40 samples of a lag
pub part_is : (dp : List ℤ) (lag a b : ℕ) → b - a ≡ 40 → a ≡ 120 - lag → take (b - a) (drop a dp) ≡ back lag dp
unfolding back
part_is dp lag a b e f = rw (e, f)

-- the same, for the index where the lag 40 + i starts
pub back_is : (dp : List ℤ) (i : ℕ) → take 40 (drop (80 - i) dp) ≡ back (40 + i) dp
unfolding back
back_is dp i = let e : 120 - (40 + i) ≡ 80 - i = omega arith in rw e

-- element i of the sums is the sum at lag 40 + i
pub correlated_at : (wt dp : List ℤ) (i : ℕ) → i < 81 → correlated wt dp at i ≡ L_sum (pos 0) wt (back (40 + i) dp)
correlated_at wt dp i h = tab_at _ 40 81 i (pos 0) h

-- ---- the 40 products of a lag as 32 and 8

-- the sum of the last 8, for the 40 that start at index a
abbrev pub last_at : List ℤ → List ℤ → ℕ → ℤ
last_at wt dp a = L_sum (pos 0) (take 8 (drop 32 wt)) (take 8 (drop (32 + a) dp))

-- at each of the 81 indices
abbrev pub lasts : List ℤ → List ℤ → List ℤ
lasts wt dp = tab (last_at wt dp) 0 81

module _ (wt dp : List ℤ) (m : length wt ≡ 40) (n : length dp ≡ 120) (e : every (at_most 512) wt ≡ true) (w : every word dp ≡ true) where
  dp_small : (a : ℕ) → every (at_most 32768) (drop a dp) ≡ true
  dp_small a = every_drop (at_most 32768) a dp (words_sized dp w)

  -- k products, from index i of wt and index a of dp on, can be added on 32 bits
  pub part_room : (k i a : ℕ) → i + k ≤ 40 → a + k ≤ 120 → Headroom (take k (drop i wt)) (take k (drop a dp))
  part_room k i a h g =
      let l : length (take k (drop i wt)) ≡ k = simp (length-take, length-drop) (omega arith) in
      let r : length (take k (drop a dp)) ≡ k = simp (length-take, length-drop) (omega arith) in
      sized_room 512 32768 _ _ (every_take (at_most 512) k (drop i wt) (every_drop (at_most 512) i wt e))
      (every_take (at_most 32768) k (drop a dp) (dp_small a)) (l ∙ sym r) (omega arith)

  -- the sum at the lag 120 − a is that of the first 32 plus that of the last 8
  module _ (a : ℕ) (h : a ≤ 80) where
    abbrev ds : List ℤ
    ds = drop a dp

    pub lag_split : L_sum (pos 0) (take 32 wt) (take 32 ds) +ℤ last_at wt dp a ≡ L_sum (pos 0) wt (take 40 ds)
    lag_split =
        let q : a + 32 ≡ 32 + a = omega arith in
        let k : drop 32 ds ≡ drop (32 + a) dp = drop-drop 32 a dp ∙ ap (λ (i : ℕ). drop i dp) q in
        let t : wt ≡ take 40 wt = sym (take_all 40 wt (omega arith)) in
        let l : 40 ≤ length ds = omega (arith, length-drop a dp) in
        let each : (i : ℕ) → i < 40 → nat_abs (wt at i *ℤ ds at i) ≤ 16777216 =
        λ i g. sized_product 512 32768 wt ds e (dp_small a) i (omega arith) (omega arith) in
        let parts = L_sum_parts 32 8 wt ds 16777216 (omega arith) l each (omega arith) in
        sym (ap (λ (xs : List ℤ). L_sum (pos 0) xs (take 40 ds)) t ∙ (parts ∙ rw k refl))

    -- which fits
    pub lag_fits : SFits w32 (L_sum (pos 0) (take 32 wt) (take 32 ds) +ℤ last_at wt dp a)
    lag_fits =
        let xs = take 40 ds in
        let l : length xs ≡ 40 = simp (length-take, length-drop) (omega arith) in
        let b = sized_in 512 32768 wt xs e (every_take (at_most 32768) 40 ds (dp_small a)) (m ∙ sym l) (omega arith) in
        rw lag_split (omega (zar, m, b, abs_is (L_sum (pos 0) wt xs)))
