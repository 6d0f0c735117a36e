-- div: its value by case, its range, and that the loop of the standard computes it.
use Prim.Native.Nat.{ℕ, zero, suc, ◌+◌, ◌*◌, ◌-◌, ◌/◌, ◌^◌, ◌<◌, ◌≤◌}
use Rattle.std.specs.Prelude.{◌≡◌, cond, ◌⊎◌, ℤ, negsuc, ◌*ℤ◌, nat_abs}
use Rattle.std.proofs.Math.Path.{refl, ap₂}
use Rattle.std.proofs.Math.Bool.{true, false}
use Rattle.std.proofs.Math.Logic.{inl, inr, ⊎_elim}
use Rattle.std.proofs.Common.{arith, mul-le-mul, le-div_iff_mul-le, div-lt_iff_lt-mul, SFits}
use Rattle.std.proofs.Math.Nat.{pow-succ', add-mul-div_left, div-eq_of_lt, zero-div, div-zero as n/0}
use Rattle.std.proofs.Math.IntN.{pos}
use Rattle.std.proofs.Math.Pow.{pow_mono}
use Rattle.std.specs.Int.Signed.{lt_z, le_z}
use mir.Syntax.{w16, w32}
use Rattle.math_integers.specs.Halves.{P, N, zar, le_or_lt, know}
use Rattle.math_integers.specs.Sums.{minus_is}
use Rattle.math_lists.specs.Steps.{steps}
use Rattle.math_lists.specs.For.{steps_last}
use Rattle.standard.specs.Arithmetic.{◌<<◌, up, div, add, L_sub}
use Rattle.law_arithmetic.specs.Clip.{clip_is, plus_plain, minus_clip}
use Rattle.law_arithmetic.specs.Shift.{keep_plain}

-- ---- by case

below : (n d : ℕ) → n < d → div (pos n) (pos d) ≡ pos (n * 32768 / d)
unfolding div
below n d h =
    let k : 0 < d = omega arith in
    let m : n * 32768 < 32768 * d = omega arith in
    omega (zar, clip_is w16 (pos (n * 32768 / d)), (div-lt_iff_lt-mul k).1 m)

above : (n d : ℕ) → 0 < d → d ≤ n → div (pos n) (pos d) ≡ pos 32767
unfolding div
above n d h g =
    let m : 32768 * d ≤ n * 32768 = omega arith in
    omega (zar, clip_is w16 (pos (n * 32768 / d)), (le-div_iff_mul-le h).1 m)

-- house rules, 'Arithmetic': a zero numerator gives 0, for every divisor
pub div_zero : (n d : ℤ) → le_z n (pos 0) ≡ true → div n d ≡ pos 0
unfolding div
div_zero (pos n) (pos d) e = let z : n ≡ 0 = omega zar in rw z (omega (zar, clip_is w16 (pos (0 / d)), zero-div d))
div_zero (pos n) (negsuc d) e = refl
div_zero (negsuc n) d e = refl

pub div_by_none : (n d : ℤ) → le_z d (pos 0) ≡ true → div n d ≡ pos 0
unfolding div
div_by_none (pos n) (pos d) e = let z : d ≡ 0 = omega zar in rw z (omega (zar, clip_is w16 (pos (n * 32768 / 0)), n/0 (n * 32768)))
div_by_none (pos n) (negsuc d) e = refl
div_by_none (negsuc n) d e = refl

-- n = d, and all n above d, give 32767
pub div_whole : (n d : ℤ) → lt_z (pos 0) d ≡ true → le_z d n ≡ true → div n d ≡ pos 32767
div_whole (pos n) (pos d) h g = above n d (omega zar) (omega zar)
div_whole (pos n) (negsuc d) h g = absurd (omega zar)
div_whole (negsuc n) (pos d) h g = absurd (omega zar)
div_whole (negsuc n) (negsuc d) h g = absurd (omega zar)

-- the 15-bit fraction, in closed form
pub div_fraction : (n d : ℤ) → le_z (pos 0) n ≡ true → lt_z n d ≡ true → div n d ≡ pos (nat_abs n * 32768 / nat_abs d)
div_fraction (pos n) (pos d) h g = below n d (omega zar)
div_fraction (pos n) (negsuc d) h g = absurd (omega zar)
div_fraction (negsuc n) d h g = absurd (omega zar)

-- never negative
div_is : (n d : ℤ) → (P (div n d) ≤ 32767) × (N (div n d) ≡ 0)
unfolding div
div_is (pos n) (pos d) = omega (arith, clip_is w16 (pos (n * 32768 / d)))
div_is (pos n) (negsuc d) = omega arith
div_is (negsuc n) d = omega arith

pub div_fits : (n d : ℤ) → SFits w16 (div n d)
div_fits n d = omega (zar, div_is n d)

-- ---- 4.2.5, note: "one correct implementation", a loop of fifteen iterations

-- an iteration, on div and L_num: div <<= 1, L_num <<= 1, and where L_num >= L_denum: L_num = L_sub( L_num, L_denum ), div = add( div, 1 )
unfoldable pub div_turn : ℤ → ℕ → ℤ × ℤ → ℤ × ℤ
div_turn L-denum k (div, L-num) =
    let div' = div << 1 in
    let L-num' = up w32 L-num 1 in
    cond (le_z L-denum L-num') (add div' (pos 1), L_sub L-num' L-denum) (div', L-num')

-- after k iterations: div is the quotient q and L_num the rest m of n · 2 ^ k by d; where m is not below d, q has ones only
record Turned (n d k : ℕ) (t : ℤ × ℤ) : Type 0 where
  q : ℕ
  m : ℕ
  is : t ≡ (pos q, pos m)
  few : q < 2 ^ k
  whole : q * d + m ≡ n * 2 ^ k
  rest : (m < d) ⊎ (q + 1 ≡ 2 ^ k)

-- n is a word
module _ (n d : ℕ) (h : n ≤ 32767) where
  -- before an iteration
  module _ (k : ℕ) (l : k < 15) {t : ℤ × ℤ} (u : Turned n d k t) where
    -- twice div is a word, and twice L_num is a long word
    shifted : SFits w16 (pos (u.q * 2)) × SFits w32 (pos (u.m * 2))
    shifted =
        let p : 2 ^ k ≤ 16384 = pow_mono {i = k} {j = 14} (omega arith) in
        (omega (zar, u.few), omega (zar, u.whole, mul-le-mul h p))

    -- so neither of its two shifts loses anything
    shifts : (pos u.q << 1 ≡ pos (u.q * 2)) × (up w32 (pos u.m) 1 ≡ pos (u.m * 2))
    shifts = (keep_plain shifted.0, keep_plain shifted.1)

    -- after it, where L_num >= L_denum
    taken : d ≤ u.m * 2 → Turned n d (suc k) (div_turn (pos d) k t)
    unfolding div_turn
    taken g =
        let b : le_z (pos d) (pos (u.m * 2)) ≡ true = omega zar in
        let small : 2 ^ suc k ≤ 32768 = pow_mono {i = suc k} {j = 15} l in
        let long : u.m * 2 < 2147483648 = omega (arith, know shifted.1) in
        rw (u.is, shifts.0, shifts.1, b)
        (record {
          q = u.q * 2 + 1;
          m = u.m * 2 - d;
          is =
              ap₂ (λ (x y : ℤ). (x, y)) (plus_plain (pos (u.q * 2)) (pos 1) (omega (zar, u.few, pow-succ' 2 k)))
              (omega (zar, minus_clip w32 (pos (u.m * 2)) (pos d), minus_is (pos (u.m * 2)) (pos d)));
          few = omega (arith, u.few, pow-succ' 2 k);
          whole = rw (pow-succ' 2 k) (omega (arith, u.whole));
          rest = ⊎_elim (λ r. inl (omega arith)) (λ r. inr (omega (arith, pow-succ' 2 k))) u.rest;
        })

    -- and where not
    left : u.m * 2 < d → Turned n d (suc k) (div_turn (pos d) k t)
    unfolding div_turn
    left g =
        let b : le_z (pos d) (pos (u.m * 2)) ≡ false = omega zar in
        rw (u.is, shifts.0, shifts.1, b)
        (record {
          q = u.q * 2;
          m = u.m * 2;
          is = refl;
          few = omega (arith, u.few, pow-succ' 2 k);
          whole = rw (pow-succ' 2 k) (omega (arith, u.whole));
          rest = inl g;
        })

  -- after any number of them
  all_turned : (k : ℕ) → k ≤ 15 → Turned n d k (steps (div_turn (pos d)) k 0 (pos 0, pos n))
  unfolding steps div_turn
  all_turned zero l = record { q = 0; m = n; is = refl; few = omega arith; whole = omega arith; rest = inr refl }
  all_turned (suc k) l =
      let u = all_turned k (omega arith) in
      rw (steps_last (div_turn (pos d)) k 0 (pos 0, pos n)) (⊎_elim (taken k l u) (left k l u) (le_or_lt d (u.m * 2)))

  -- the fifteen give div
  quotient : 0 < d → div (pos n) (pos d) ≡ (steps (div_turn (pos d)) 15 0 (pos 0, pos n)).0
  unfolding div
  quotient g =
      let u = all_turned 15 (omega arith) in
      let e : n * 32768 ≡ u.m + d * u.q = omega (arith, u.whole) in
      let s : n * 32768 / d ≡ u.m / d + u.q = rw e (add-mul-div_left u.m u.q g) in
      let c = clip_is w16 (pos (n * 32768 / d)) in
      rw u.is
      (⊎_elim
      (λ (r : u.m < d). omega (zar, c, s, div-eq_of_lt r, u.few))
      (λ (r : u.q + 1 ≡ 32768). omega (zar, c, s))
      u.rest)

-- so the loop gives div, of words num >= 0 and denum > 0; the standard asks for it of denum >= num > 0
pub div_loop : (num denum : ℤ) → SFits w16 num → le_z (pos 0) num ≡ true → lt_z (pos 0) denum ≡ true
    → div num denum ≡ (steps (div_turn denum) 15 0 (pos 0, num)).0
div_loop (pos n) (pos d) f h g = quotient n d (omega (arith, know f)) (omega zar)
div_loop (pos n) (negsuc d) f h g = absurd (omega zar)
div_loop (negsuc n) denum f h g = absurd (omega zar)

-- and in none of its iterations does div << 1 or L_num << 1 lose anything
pub div_shifts : (num denum : ℤ) → SFits w16 num → le_z (pos 0) num ≡ true → lt_z (pos 0) denum ≡ true → (k : ℕ) → k < 15
    → let t = steps (div_turn denum) k 0 (pos 0, num) in (t.0 << 1 ≡ t.0 *ℤ pos 2) × (up w32 t.1 1 ≡ t.1 *ℤ pos 2)
div_shifts (pos n) (pos d) f h g k l =
    let m : n ≤ 32767 = omega (arith, know f) in
    let u = all_turned n d m k (omega arith) in
    rw u.is (shifts n d m k l u)
div_shifts (pos n) (negsuc d) f h g k l = absurd (omega zar)
div_shifts (negsuc n) denum f h g k l = absurd (omega zar)
