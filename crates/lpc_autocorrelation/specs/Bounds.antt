-- House rules, 'Six sums' (b): the scaled samples are at most 2048 in size, the nine sums at most 1342177280, and none is larger
-- than the first; so 4.2.5's normalisation loses nothing.
use Rattle.std.specs.Prelude.{ℕ, ◌+◌, ◌*◌, ◌-◌, ◌^◌, ◌≤◌, ◌<◌, ◌≡◌, true, ℤ, ◌+ℤ◌, ◌*ℤ◌, nat_abs, length, take, drop}
use Rattle.std.proofs.Common.{sym, ◌∙◌, ⊎_elim, arith, length-take, length-drop, take-append-drop, take_all, SFits, leb-true, le-leb}
use Rattle.std.proofs.Math.Path.{ap}
use mathlib.Core.List.{List, zip_with, foldl}
use Rattle.std.proofs.Math.IntN.{pos}
use Rattle.std.specs.Int.Signed.{lt_z, le_z}
use Rattle.std.specs.Int.{w16, w32}
use Rattle.math_integers.specs.Halves.{P, zar, know, apart, abs_is}
use Rattle.math_integers.specs.Sums.{add_is, mul_in}
use Rattle.math_lists.specs.Every.{every, every_at, every_places, every_map, every_take, every_drop}
use Rattle.math_lists.specs.Tab.{tab_at_zero, zip_front}
use Rattle.standard.specs.Tables.{◌at◌}
use Rattle.standard.specs.Arithmetic.{shl, mult_r, norm, L_mult, L_add, peak, L_sum}
use Rattle.standard.specs.Lpc.{scalauto, scaled, L_ACF}
use Rattle.law_arithmetic.specs.Within.{word, word_is}
use Rattle.law_arithmetic.specs.Product.{mult_r_in}
use Rattle.law_arithmetic.specs.Norm.{normal, norm_exact}
use Rattle.op_sums.specs.Room.{at_most, Headroom, L_sum_plain, L_sum_in}
use Rattle.lpc_autocorrelation.specs.Energy.{energy, energy_take, energy_drop, squares, products_most}
use Rattle.lpc_autocorrelation.specs.Scale.{Scale, Unscaled, powers, smax_covers, scale_cases, scaled_by, scaled_not}

-- ---- the scaled samples

-- the size of each is at most 2048
pub scaled_small : (s : List ℤ) → every word s ≡ true → every (at_most 2048) (scaled (scalauto s) s) ≡ true
scaled_small s w = ⊎_elim small unscaled (scale_cases s)
  where
    x_fits : (i : ℕ) → i < length s → SFits w16 (s at i)
    x_fits i l = word_is (s at i) (every_at word s i (pos 0) w l)

    -- a sample, brought down by the factor of its scale
    brought : (n i : ℕ) → n ≤ 3 → P (peak s) < 2 ^ (12 + n) → i < length s → nat_abs (mult_r (s at i) (pos (2 ^ (14 - n)))) ≤ 2048
    brought n i m b l =
        let x = s at i in
        let f = pos (2 ^ (14 - n)) in
        let p = mul_in (2 ^ (12 + n)) (2 ^ (14 - n)) x f (omega (arith, know (x_fits i l), smax_covers s i l, abs_is x)) (omega arith) in
        rw (abs_is (mult_r x f)) (mult_r_in x f 2048 (omega (arith, p, powers (12 + n) (14 - n) 26 (omega arith))))

    small : Scale s → every (at_most 2048) (scaled (scalauto s) s) ≡ true
    small r =
        rw (r.is, scaled_by r.n s r.most, every_map)
        (every_places _ s (pos 0) (λ i l. le-leb _ 2048 (brought r.n i r.most r.below l)))

    unscaled : Unscaled s → every (at_most 2048) (scaled (scalauto s) s) ≡ true
    unscaled (e, b) =
        rw (scaled_not (scalauto s) s e)
        (every_places (at_most 2048) s (pos 0) (λ i l. le-leb (nat_abs (s at i)) 2048 (omega (arith, smax_covers s i l))))

-- ---- a sum over two lists of them

module _ (a b : List ℤ) (l : length a ≡ length b) (m : length a ≤ 160)
    (p : every (at_most 2048) a ≡ true) (q : every (at_most 2048) b ≡ true) where
  product_in : (i : ℕ) → i < length a → nat_abs (a at i *ℤ b at i) ≤ 4194304
  product_in i h =
      let x = a at i in
      let y = b at i in
      let u = leb-true (nat_abs x) 2048 (every_at (at_most 2048) a i (pos 0) p h) in
      let v = leb-true (nat_abs y) 2048 (every_at (at_most 2048) b i (pos 0) q (rw l at h)) in
      rw (abs_is (x *ℤ y)) (mul_in 2048 2048 x y (omega (arith, abs_is x)) (omega (arith, abs_is y)))

  products_fit : length a * 4194304 < 1073741824
  products_fit = omega arith

  -- the code may add it on 32 bits
  pub small_room : Headroom a b
  small_room = record { same = l; most = 4194304; each = λ i h _ _. product_in i h; fits = products_fit }

  -- it is twice the plain sum of the products
  small_plain : let t = foldl ◌+ℤ◌ (pos 0) (zip_with ◌*ℤ◌ a b) in L_sum (pos 0) a b ≡ t +ℤ t
  small_plain = L_sum_plain a b 4194304 l product_in products_fit

  -- and within as many times the greatest product, doubled
  pub small_within : nat_abs (L_sum (pos 0) a b) ≤ length a * 8388608
  small_within = L_sum_in a b 4194304 l product_in products_fit

  pub small_in : nat_abs (L_sum (pos 0) a b) ≤ 1342177280
  small_in = omega (arith, small_within)

-- ---- the nine sums

module _ (s : List ℤ) (l : length s ≡ 160) (k : ℕ) (p : k < 9) where
  late_length : length (drop k s) ≡ 160 - k
  late_length = omega (arith, length-drop k s)

  same_length : length (drop k s) ≡ length (take (160 - k) s)
  same_length = omega (arith, late_length, length-take (160 - k) s)

  -- what the definition has beyond the last pair is not read
  front : (f : ℤ → ℤ → ℤ) → zip_with f (drop k s) s ≡ zip_with f (drop k s) (take (160 - k) s)
  front f =
      ap (zip_with f (drop k s)) (sym (take-append-drop (160 - k) s))
      ∙ zip_front f (drop k s) (take (160 - k) s) (drop (160 - k) s) (omega (arith, same_length))

  -- L_ACF[k] is the sum over the samples from k on and as many from the first on
  pub L_ACF_at : L_ACF s at k ≡ L_sum (pos 0) (drop k s) (take (160 - k) s)
  unfolding L_ACF L_sum
  L_ACF_at = tab_at_zero (λ k. L_sum (pos 0) (drop k s) s) 9 k (pos 0) p ∙ ap (foldl L_add (pos 0)) (front L_mult)

module _ (s : List ℤ) (l : length s ≡ 160) (h : every (at_most 2048) s ≡ true) (k : ℕ) (p : k < 9) where
  abbrev late : List ℤ
  late = drop k s

  abbrev early : List ℤ
  early = take (160 - k) s

  same : length late ≡ length early
  same = same_length s l k p

  few : length late ≤ 160
  few = omega (arith, late_length s l k p)

  late_small : every (at_most 2048) late ≡ true
  late_small = every_drop (at_most 2048) k s h

  early_small : every (at_most 2048) early ≡ true
  early_small = every_take (at_most 2048) (160 - k) s h

  -- it is within 1342177280
  pub L_ACF_in : nat_abs (L_ACF s at k) ≤ 1342177280
  L_ACF_in = rw (L_ACF_at s l k p) (small_in late early same few late_small early_small)

  L_ACF_fits : SFits w32 (L_ACF s at k)
  L_ACF_fits = omega (zar, L_ACF_in, abs_is (L_ACF s at k))

  -- the plain sum of the products
  sum : ℤ
  sum = foldl ◌+ℤ◌ (pos 0) (zip_with ◌*ℤ◌ late early)

  L_ACF_plain : L_ACF s at k ≡ sum +ℤ sum
  unfolding sum
  L_ACF_plain = L_ACF_at s l k p ∙ small_plain late early same few late_small early_small

  -- it is within the energy of all the samples, and L_ACF[k] within twice that
  L_ACF_below : nat_abs (L_ACF s at k) ≤ 2 * energy s
  unfolding sum
  L_ACF_below =
      rw L_ACF_plain
      (let e = products_most late early in
      omega (arith, e, energy_drop k s, energy_take (160 - k) s, abs_is sum, abs_is (sum +ℤ sum), add_is sum sum, apart (sum +ℤ sum)))

module _ (s : List ℤ) (l : length s ≡ 160) (h : every (at_most 2048) s ≡ true) where
  -- L_ACF[0] is twice the energy
  first : L_ACF s at 0 ≡ pos (2 * energy s)
  unfolding sum
  first =
      let e : sum s l h 0 (omega arith) ≡ pos (energy s) = rw (take_all 160 s (omega arith)) (squares s) in
      rw (L_ACF_plain s l h 0 (omega arith), e) (omega (zar, add_is (pos (energy s)) (pos (energy s))))

  -- so it is not negative
  pub L_ACF_above : le_z (pos 0) (L_ACF s at 0) ≡ true
  L_ACF_above = rw first (omega zar)

  module _ (k : ℕ) (p : k < 9) where
    -- and none of the nine is larger
    pub L_ACF_most : nat_abs (L_ACF s at k) ≤ nat_abs (L_ACF s at 0)
    L_ACF_most = rw first (L_ACF_below s l h k p)

    -- 4.2.5: the shift of each by norm of the first loses nothing
    pub ACF_exact : lt_z (pos 0) (L_ACF s at 0) ≡ true
        → shl w32 (L_ACF s at k) (norm (L_ACF s at 0)) ≡ (L_ACF s at k) *ℤ pos (2 ^ nat_abs (norm (L_ACF s at 0)))
    ACF_exact g =
        let n = normal (L_ACF s at 0) g (L_ACF_fits s l h 0 (omega arith)) in
        norm_exact n (L_ACF s at k) L_ACF_most ∙ ap (λ (m : ℤ). (L_ACF s at k) *ℤ pos (2 ^ nat_abs m)) (sym n.is)
