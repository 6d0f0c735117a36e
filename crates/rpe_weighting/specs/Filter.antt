-- 4.2.13: the residual between its zeros, and the weighting filter. No step of the filter's sum saturates, so the sum may be taken in
-- any order. The two doublings that can saturate, followed by the high word, are one shift and one clip.
use Rattle.std.specs.Prelude.{ℕ, ◌+◌, ◌*◌, ◌<◌, ◌≤◌, min, ◌≡◌, refl, ℤ, ◌+ℤ◌, ◌*ℤ◌, nat_abs, length, take, replicate}
use Rattle.std.proofs.Common.{sym, ◌∙◌, arith, length-append, get_or-append-add, take_at, take_all, SFits}
use Rattle.std.proofs.Math.Path.{ap}
use mathlib.Core.List.{List, [], ◌∷◌, ◌++◌, foldl, map, zip_with}
use Rattle.std.proofs.Math.IntN.{pos}
use Rattle.std.proofs.Math.ListN.{get_or-append}
use mir.Syntax.{w16, w32}
use Rattle.math_integers.specs.Halves.{P, N, zar, know, apart, abs_is}
use Rattle.math_integers.specs.Sums.{add_is, mul_is, shr_is, mul_in}
use Rattle.math_lists.specs.Cut.{sum}
use Rattle.math_lists.specs.Fill.{filled}
use Rattle.math_lists.specs.Tab.{tab, zip_length, zip_take}
use Rattle.math_lists.specs.For.{by_entries}
use Rattle.standard.specs.Arithmetic.{◌>>◌, clip, low, L_mult, L_add, L_sum}
use Rattle.standard.specs.Tables.{◌at◌, neg, H}
use Rattle.standard.specs.Rpe.{filtered}
use Rattle.law_arithmetic.specs.Clip.{clip_is, plus_clip}
use Rattle.law_arithmetic.specs.Product.{L_mult_in}
use Rattle.law_arithmetic.specs.Shift.{keep_plain}
use Rattle.law_arithmetic.specs.Sum.{Bounded, none, ◌also◌, bounded_sum}

-- ---- wt[0..49]

-- e[0..39] with five zeros on either side
abbrev pub around : List ℤ → List ℤ
around e = replicate 5 (pos 0) ++ (e ++ replicate 5 (pos 0))

module _ (e : List ℤ) (l : length e ≡ 40) where
  -- there are fifty
  pub around_length : length (around e) ≡ 50
  around_length = omega (arith, length-append e (replicate 5 (pos 0)))

  -- e[k] stands at 5 + k
  pub around_at : (k : ℕ) → k < 40 → around e at (5 + k) ≡ e at k
  around_at k h =
      get_or-append-add (replicate 5 (pos 0)) (e ++ replicate 5 (pos 0)) k (pos 0)
      ∙ get_or-append e (replicate 5 (pos 0)) (pos 0) k (omega arith)

  -- after the forty are stored in an array of zeros, the array is complete
  pub around_end : (k : ℕ) → k ≡ 40 → filled (5 + k) (around e) (replicate 50 (pos 0)) ≡ around e
  around_end k h = rw (h, take_at e (replicate 5 (pos 0)) 40 l) refl

-- ---- the filter looks at eleven samples

pub front : (f : ℤ → ℤ → ℤ) (x : List ℤ) → zip_with f (take 11 x) H ≡ zip_with f x H
unfolding H
front f x = sym (zip_take f 11 x H) ∙ take_all 11 (zip_with f x H) (omega (arith, zip_length f x H))

module _ (x : List ℤ) where
  -- its sum needs no more
  pub sum_front : L_sum (pos 8192) (take 11 x) H ≡ L_sum (pos 8192) x H
  unfolding L_sum
  sum_front = ap (foldl L_add (pos 8192)) (front L_mult x)

  -- nor does its result
  pub filtered_front : filtered (take 11 x) ≡ filtered x
  unfolding filtered
  filtered_front = rw sum_front

-- the samples that it uses are words. Taps 2 and 8 are 0, so samples 2 and 8 are not used
pub record Heard (x : List ℤ) : Type 0 where
  pub x0 : SFits w16 (x at 0)
  pub x1 : SFits w16 (x at 1)
  pub x3 : SFits w16 (x at 3)
  pub x4 : SFits w16 (x at 4)
  pub x5 : SFits w16 (x at 5)
  pub x6 : SFits w16 (x at 6)
  pub x7 : SFits w16 (x at 7)
  pub x9 : SFits w16 (x at 9)
  pub x10 : SFits w16 (x at 10)

-- ---- the terms of its sum

-- L_mult of factors whose product is at most 2^30 − 1 in size
term_is : (x h : ℤ) (B : ℕ) → P (x *ℤ h) + N (x *ℤ h) ≤ B → B ≤ 1073741823
    → (P (L_mult x h) ≡ 2 * P (x *ℤ h)) × (N (L_mult x h) ≡ 2 * N (x *ℤ h))
unfolding L_mult
term_is x h B k b = omega (arith, apart (x *ℤ h), add_is (x *ℤ h) (x *ℤ h), clip_is w32 (x *ℤ h +ℤ x *ℤ h), apart (x *ℤ h +ℤ x *ℤ h))

module _ (x h : ℤ) (f : SFits w16 x) where
  -- L_mult of a word and a tap
  tap_is : P h + N h ≤ 8192 → (P (L_mult x h) ≡ 2 * (P x * P h + N x * N h)) × (N (L_mult x h) ≡ 2 * (P x * N h + N x * P h))
  tap_is k = omega (arith, mul_is x h, term_is x h 268435456 (mul_in 32768 8192 x h (omega (arith, know f)) k) (omega arith))

  -- and its bound
  tap_in : nat_abs (L_mult x h) ≤ 65536 * (P h + N h)
  tap_in =
      let b = L_mult_in x h (32768 * (P h + N h)) (mul_in 32768 (P h + N h) x h (omega (arith, know f)) (omega arith)) in
      omega (arith, abs_is (L_mult x h))

module _ (x : ℤ) where
  -- L_mult of anything and 0
  none_is : (P (L_mult x (pos 0)) ≡ 0) × (N (L_mult x (pos 0)) ≡ 0)
  none_is = omega (arith, mul_is x (pos 0), term_is x (pos 0) 0 (omega (arith, mul_is x (pos 0))) (omega arith))

  none_in : nat_abs (L_mult x (pos 0)) ≤ 0
  none_in = omega (arith, none_is, abs_is (L_mult x (pos 0)))

-- ---- the sum, of eleven samples by their indices

-- the terms' bounds: 65536 times the size of each tap
abbrev bounds : List ℕ
bounds = 8781824 ∷ 24510464 ∷ 0 ∷ 134610944 ∷ 376242176 ∷ 536870912 ∷ 376242176 ∷ 134610944 ∷ 0 ∷ 24510464 ∷ 8781824 ∷ []

-- a plain sum, in the form that `omega` reads
fold_is : (s : ℤ) (xs : List ℤ) → P (foldl ◌+ℤ◌ s xs) + (N s + sum (map N xs)) ≡ N (foldl ◌+ℤ◌ s xs) + (P s + sum (map P xs))
fold_is s [] = omega arith
fold_is s (x ∷ xs) = omega (arith, (add_is s x).0, fold_is (s +ℤ x) xs)

-- a tap times the sum of two, in the form that `omega` reads
pair_is : (h a b : ℤ)
    → P (h *ℤ (a +ℤ b)) + (P h * (N a + N b) + N h * (P a + P b)) ≡ N (h *ℤ (a +ℤ b)) + (P h * (P a + P b) + N h * (N a + N b))
pair_is h a b =
    let e = (add_is a b).0 in
    omega (arith, mul_is h (a +ℤ b), ap (λ (k : ℕ). P h * k) e, ap (λ (k : ℕ). N h * k) e)

-- the plain sum as the code takes it: half of the standard's. The two samples that share a tap are added first
abbrev pub outer : List ℤ → ℤ
outer x = neg 134 *ℤ (x at 0 +ℤ x at 10) +ℤ neg 374 *ℤ (x at 1 +ℤ x at 9)

abbrev pub inner : List ℤ → ℤ
inner x = pos 2054 *ℤ (x at 3 +ℤ x at 7) +ℤ pos 5741 *ℤ (x at 4 +ℤ x at 6)

abbrev pub taps : List ℤ → ℤ
taps x = outer x +ℤ inner x +ℤ pos 8192 *ℤ (x at 5) +ℤ pos 4096

module _ (f : ℕ → ℤ) (h : Heard (tab f 0 11)) where
  abbrev xs : List ℤ
  xs = tab f 0 11

  each : Bounded (zip_with L_mult xs H) bounds
  unfolding tab zip_with H
  each =
      tap_in (f 0) (neg 134) h.x0
      also tap_in (f 1) (neg 374) h.x1
      also none_in (f 2)
      also tap_in (f 3) (pos 2054) h.x3
      also tap_in (f 4) (pos 5741) h.x4
      also tap_in (f 5) (pos 8192) h.x5
      also tap_in (f 6) (pos 5741) h.x6
      also tap_in (f 7) (pos 2054) h.x7
      also none_in (f 8)
      also tap_in (f 9) (neg 374) h.x9
      also tap_in (f 10) (neg 134) h.x10
      also none

  sum_both : (L_sum (pos 8192) xs H ≡ foldl ◌+ℤ◌ (pos 8192) (zip_with L_mult xs H)) × (nat_abs (L_sum (pos 8192) xs H) ≤ 1625169920)
  unfolding L_sum
  sum_both = bounded_sum w32 each 8192 (pos 8192) (omega arith) (omega arith)

  sum_is : foldl ◌+ℤ◌ (pos 8192) (zip_with L_mult xs H) ≡ taps xs +ℤ taps xs
  unfolding tab zip_with H
  sum_is =
      omega (
        zar,
        fold_is (pos 8192) (zip_with L_mult xs H),
        tap_is (f 0) (neg 134) h.x0 (omega arith),
        tap_is (f 1) (neg 374) h.x1 (omega arith),
        none_is (f 2),
        tap_is (f 3) (pos 2054) h.x3 (omega arith),
        tap_is (f 4) (pos 5741) h.x4 (omega arith),
        tap_is (f 5) (pos 8192) h.x5 (omega arith),
        tap_is (f 6) (pos 5741) h.x6 (omega arith),
        tap_is (f 7) (pos 2054) h.x7 (omega arith),
        none_is (f 8),
        tap_is (f 9) (neg 374) h.x9 (omega arith),
        tap_is (f 10) (neg 134) h.x10 (omega arith),
        pair_is (neg 134) (f 0) (f 10),
        pair_is (neg 374) (f 1) (f 9),
        pair_is (pos 2054) (f 3) (f 7),
        pair_is (pos 5741) (f 4) (f 6),
        mul_is (pos 8192) (f 5),
        (add_is (neg 134 *ℤ (f 0 +ℤ f 10)) (neg 374 *ℤ (f 1 +ℤ f 9))).0,
        (add_is (pos 2054 *ℤ (f 3 +ℤ f 7)) (pos 5741 *ℤ (f 4 +ℤ f 6))).0,
        (add_is (outer xs) (inner xs)).0,
        (add_is (outer xs +ℤ inner xs) (pos 8192 *ℤ f 5)).0,
        (add_is (outer xs +ℤ inner xs +ℤ pos 8192 *ℤ f 5) (pos 4096)).0,
        (add_is (taps xs) (taps xs)).0,
      )

-- ---- the doublings and the high word

-- a number and itself
double : (z : ℤ) → (P (z +ℤ z) ≡ 2 * P z) × (N (z +ℤ z) ≡ 2 * N z)
double z = omega (arith, add_is z z, apart z, apart (z +ℤ z))

abbrev twice : ℤ → ℤ
twice z = L_add z z

-- with saturation
twice_is : (z : ℤ) → (P (twice z) ≡ min (2 * P z) 2147483647) × (N (twice z) ≡ min (2 * N z) 2147483648)
twice_is z = omega (arith, double z, plus_clip w32 z z)

module _ (s : ℤ) where
  -- three doublings, two of them with saturation, give eight times the number, clipped
  eight : (P (twice (twice (s +ℤ s))) ≡ min (8 * P s) 2147483647) × (N (twice (twice (s +ℤ s))) ≡ min (8 * N s) 2147483648)
  eight = omega (arith, double s, twice_is (s +ℤ s), twice_is (twice (s +ℤ s)))

  -- the high word of that is the number shifted right by 13, clipped
  high : low (twice (twice (s +ℤ s)) >> 16) ≡ clip w16 (s >> 13)
  high =
      let u = twice (twice (s +ℤ s)) in
      let d = shr_is u 65536 (omega arith) in
      let f : SFits w16 (u >> 16) = omega (zar, eight) in
      keep_plain f ∙ omega (zar, eight, shr_is s 8192 (omega arith), clip_is w16 (s >> 13))

-- ---- so, of eleven samples

-- the sum is plain, its size is at most 8192 plus 65536 times the sum of the taps' sizes, and it is twice the code's
pub record Taps (x : List ℤ) : Type 0 where
  pub steps : L_sum (pos 8192) x H ≡ foldl ◌+ℤ◌ (pos 8192) (zip_with L_mult x H)
  pub near : nat_abs (L_sum (pos 8192) x H) ≤ 1625169920
  pub is : L_sum (pos 8192) x H ≡ taps x +ℤ taps x

module _ (x : List ℤ) (l : length x ≡ 11) (h : Heard x) where
  pub taps_are : Taps x
  taps_are =
      by_entries (λ x. Heard x → Taps x) (pos 0) 11
      (λ f h. let (s, n) = sum_both f h in record { steps = s; near = n; is = s ∙ sum_is f h }) x l h

  -- and the filter is the code's sum, shifted right and clipped once
  pub filtered_is : filtered x ≡ clip w16 (taps x >> 13)
  unfolding filtered
  filtered_is = rw taps_are.is (high (taps x))
