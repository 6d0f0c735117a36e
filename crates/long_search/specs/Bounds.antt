-- House rules, 'Six sums' (c) and (d): the scaled d is at most 512 in size, the sum at each lag and the power at most 1342177280.
use Rattle.std.specs.Prelude.{ℕ, ◌+◌, ◌*◌, ◌-◌, ◌^◌, ◌<◌, ◌≤◌, ◌≡◌, true, false, cond, List, ℤ, pos, ◌*ℤ◌, nat_abs, length, drop}
use Rattle.std.proofs.Math.Path.{ap}
use Rattle.std.proofs.Common.{◌∙◌, pow_mono, SFits, le-leb}
use Rattle.std.proofs.Math.Logic.{⊎_elim}
use native.Mathlib.Omega.{arith}
use Rattle.std.proofs.Math.Nat.{mul-le-mul_left, lt_of_mul-lt-mul_right}
use Rattle.std.proofs.Math.Pow.{pow-add}
use Rattle.std.specs.Int.Signed.{lt_z}
use Rattle.std.specs.Int.{w16, w32}
use Rattle.std.proofs.lemmas.Bool.{eqb-false}
use Rattle.math_integers.specs.Halves.{P, N, zar, know, apart, abs_is, le_or_lt, either}
use Rattle.math_integers.specs.Sums.{scale_is, minus_is}
use Rattle.math_lists.specs.Every.{every, every_at, every_take, every_drop, every_places, every_map}
use Rattle.math_lists.specs.First.{by_cond}
use Rattle.standard.specs.Tables.{◌at◌}
use Rattle.standard.specs.Arithmetic.{is_zero, within, up, ◌>>◌, shl, shr, sub, norm, peak}
use Rattle.standard.specs.LongTerm.{back, scal, L_power}
use Rattle.law_arithmetic.specs.Clip.{abs_clip, minus_clip}
use Rattle.law_arithmetic.specs.Norm.{Normal, normal, norm_exact}
use Rattle.law_arithmetic.specs.Shift.{down_in, shr_right}
use Rattle.law_arithmetic.specs.Within.{within_yes, word, word_is}
use Rattle.law_fields.specs.Amplitudes.{peak_halves, peak_up, peak_covers}
use Rattle.law_lengths.specs.Subframes.{Lag, back_length}
use Rattle.op_sums.specs.Room.{at_most}
use Rattle.op_sums.specs.Squares.{squares_in}
use Rattle.long_search.specs.Search.{scaled}

-- ---- the scaling of d

-- 6 less a number of shifts, not below 0
six_less : (n : ℕ) → cond (lt_z (pos 6) (pos n)) (pos 0) (sub (pos 6) (pos n)) ≡ pos (6 - n)
six_less n =
    by_cond (λ x. x ≡ pos (6 - n)) (lt_z (pos 6) (pos n)) (λ h. omega zar)
    (λ h. omega (zar, minus_clip w16 (pos 6) (pos n), minus_is (pos 6) (pos n), apart (sub (pos 6) (pos n))))

module _ (d : List ℤ) where
  -- if dmax is not 0, norm is applied to a number above 0
  pub dmax_above : is_zero (peak d) ≡ false → lt_z (pos 0) (up w32 (peak d) 16) ≡ true
  dmax_above e =
      let m : nat_abs (peak d) ≡ 0 → ⊥ = eqb-false (nat_abs (peak d)) 0 e in
      rw (peak_up d) (omega (zar, peak_halves d, abs_is (peak d), scale_is (peak d) 65536))

  -- the shifts that bring dmax to the top of a word, 0 where dmax is 0
  record Shifts : Type 0 where
    count : ℕ
    is : cond (is_zero (peak d)) (pos 0) (norm (up w32 (peak d) 16)) ≡ pos count
    stays : P (peak d) * 2 ^ count < 32768

  none : is_zero (peak d) ≡ true → Shifts
  none e = record { count = 0; is = rw e; stays = omega (arith, peak_halves d) }

  some : is_zero (peak d) ≡ false → Shifts
  some e =
      let z = peak d *ℤ pos 65536 in
      let s = scale_is (peak d) 65536 in
      let n : Normal z = normal z (rw (peak_up d) at (dmax_above e)) (omega (zar, peak_halves d)) in
      let l : nat_abs z ≡ P (peak d) * 65536 = omega (arith, peak_halves d, abs_is z) in
      record { count = n.shifts; is = rw (e, peak_up d) n.is; stays = omega (arith, rw l at n.stays) }

  -- scal d is a number from 0 to 6, and shifted right by it dmax is below 512
  record Scaling : Type 0 where
    count : ℕ
    is : scal d ≡ pos count
    most : count ≤ 6
    below : P (peak d) < 512 * 2 ^ count

  scaling : Scaling
  unfolding scal
  scaling =
      let s : Shifts = ⊎_elim none some (either (is_zero (peak d))) in
      let n = s.count in
      record {
        count = 6 - n;
        is = rw s.is (six_less n);
        most = omega arith;
        below =
            ⊎_elim
            (λ (l : n ≤ 6).
            let e : 6 ≡ 6 - n + n = omega arith in
            let p : 64 ≡ 2 ^ (6 - n) * 2 ^ n = ap (λ (k : ℕ). 2 ^ k) e ∙ pow-add 2 (6 - n) n in
            lt_of_mul-lt-mul_right (2 ^ n) (omega (arith, s.stays)))
            (λ (l : 6 < n).
            let e : 6 - n ≡ 0 = omega arith in
            rw e (omega (arith, s.stays, mul-le-mul_left (P (peak d)) (pow_mono {i = 7} l))))
            (le_or_lt n 6);
      }

  -- scal d is from 0 to 6, so 4.2.11's right shifts by scal d and by 6 - scal d are never left ones
  pub scal_range : (within (pos 0) (pos 6) (scal d) ≡ true) × (within (pos 0) (pos 6) (sub (pos 6) (scal d)) ≡ true)
  scal_range =
      let n = scaling.count in
      let m = scaling.most in
      let z = sub (pos 6) (pos n) in
      let e : (P z ≡ 6 - n) × (N z ≡ 0) = omega (arith, minus_clip w16 (pos 6) (pos n), minus_is (pos 6) (pos n), apart z) in
      rw scaling.is (within_yes (pos 0) (pos 6) (pos n) (omega zar) (omega zar), within_yes (pos 0) (pos 6) z (omega zar) (omega zar))

  -- and shifted right by scal d each word of d is at most 512 in size
  pub scal_small : (k : ℕ) → k < length d → SFits w16 (d at k) → nat_abs (shr w16 (d at k) (scal d)) ≤ 512
  scal_small k h f =
      let x = d at k in
      let n = scaling.count in
      let c = peak_covers d k h in
      let m : nat_abs x ≤ 512 * 2 ^ n = omega (zar, know f, peak_halves d, abs_clip x, scaling.below) in
      let (p, q) = down_in x n 512 (omega (arith, abs_is x)) (omega (arith, abs_is x)) in
      rw (scaling.is, shr_right w16 x (pos n) (omega zar), abs_is (x >> n)) (omega (arith, apart (x >> n)))

-- so, scaled, each of them is
pub scaled_small : (d : List ℤ) → every word d ≡ true → every (at_most 512) (scaled d) ≡ true
scaled_small d ws =
    rw every_map (every_places _ d (pos 0) (λ i h. le-leb _ 512 (scal_small d i h (word_is (d at i) (every_at word d i (pos 0) ws h)))))

-- ---- the power at each lag

-- the words of dp at a lag
back_words : (lag : ℕ) (dp : List ℤ) → every word dp ≡ true → every word (back lag dp) ≡ true
unfolding back
back_words lag dp ws = every_take word 40 (drop (120 - lag) dp) (every_drop word (120 - lag) dp ws)

-- for all words dp, and each lag
module _ (dp : List ℤ) (dps : every word dp ≡ true) (n : length dp ≡ 120) (lag : ℕ) (l : Lag lag) where
  room : length (back lag dp) * 16777216 < 1073741824
  room = omega (arith, back_length lag dp l n)

  -- L_power is from 0 to 1342177280
  pub power_in : within (pos 0) (pos 1342177280) (L_power lag dp) ≡ true
  unfolding L_power
  power_in = squares_in 3 (back lag dp) (omega arith) (back_words lag dp dps) room 1342177280 (omega (arith, back_length lag dp l n))

-- ---- the gain

-- where 0 < L_max < L_power, the shifts that normalise both lose nothing
pub gain_exact : (L_max L_pow : ℤ) → lt_z (pos 0) L_max ≡ true → lt_z L_max L_pow ≡ true → SFits w32 L_pow
    → (n : Normal L_pow)
    × (shl w32 L_max (norm L_pow) ≡ L_max *ℤ pos (2 ^ n.shifts)) × (shl w32 L_pow (norm L_pow) ≡ L_pow *ℤ pos (2 ^ n.shifts))
gain_exact L_max L_pow g h f =
    let n = normal L_pow (omega (zar, apart L_max, know f)) f in
    (n, norm_exact n L_max (omega (zar, know f, apart L_max, abs_is L_max)), norm_exact n L_pow (omega arith))
