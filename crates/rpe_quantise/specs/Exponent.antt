-- 4.2.15: the exponent of xmax, by the powers of 2 between which xmax lies; and that the sum that makes xmaxc does not saturate.
use Rattle.std.specs.Prelude.{ℕ, ◌+◌, ◌/◌, ◌*◌, ◌^◌, ◌<◌, ◌≤◌, ◌≡◌, true, false, ℤ, pos, ◌+ℤ◌}
use Rattle.std.proofs.Math.Path.{sym}
use Rattle.std.proofs.Common.{arith, le-div_iff_mul-le, pow_pos, SFits}
use Rattle.std.proofs.Math.Nat.{div-eq_of_lt}
use Rattle.std.proofs.Math.Pow.{pow_mono}
use Rattle.std.specs.Int.Signed.{lt_z, le_z}
use Rattle.std.specs.Int.{w16}
use Rattle.math_integers.specs.Halves.{P, apart, zar, know}
use Rattle.math_integers.specs.Sums.{add_is, shr_is}
use Rattle.math_lists.specs.First.{first_unique}
use Rattle.standard.specs.Arithmetic.{◌>>◌}
use Rattle.standard.specs.Rpe.{exponent, xmaxc}
use Rattle.law_arithmetic.specs.Clip.{plus_plain}
use Rattle.law_arithmetic.specs.Shift.{down_in}
use Rattle.law_fields.specs.Amplitudes.{exp_in}
use Rattle.rpe_quantise.specs.Shifts.{exp_up}

module _ (x : ℤ) where
  -- a number below 2 ^ m is 0 or less after m halvings
  gone : (m : ℕ) → lt_z x (pos (2 ^ m)) ≡ true → le_z (x >> m) (pos 0) ≡ true
  gone m h =
      let q : P x / 2 ^ m ≡ 0 = div-eq_of_lt (omega (zar, apart x, pow_pos m)) in
      omega (zar, shr_is x (2 ^ m) (pow_pos m))

  -- and one that is not below is still above 0
  there : (m : ℕ) → lt_z x (pos (2 ^ m)) ≡ false → le_z (x >> m) (pos 0) ≡ false
  there m h =
      let q : 1 ≤ P x / 2 ^ m = (le-div_iff_mul-le {x = 1} {y = P x} (pow_pos m)).1 (omega zar) in
      omega (zar, shr_is x (2 ^ m) (pow_pos m), apart (x >> m))

  -- the exponent is k where x is below 2 ^ (9 + k), unless k is 6, and not below 2 ^ (8 + k), unless k is 0
  pub exponent_by : (k : ℕ) → k ≤ 6 → (0 < k → lt_z x (pos (2 ^ (8 + k))) ≡ false) → (k < 6 → lt_z x (pos (2 ^ (9 + k))) ≡ true)
      → k ≡ exponent x
  unfolding exponent
  exponent_by k h above below =
      sym
      (first_unique _ 6 0 k (omega arith) (omega arith)
      (λ j _ g. there (9 + j) (omega (zar, above (omega arith), pow_mono {i = 9 + j} {j = 8 + k} (omega arith))))
      (λ g. gone (9 + k) (below g)))

  -- a word shifted right by four bits or more, plus a small number, is a word
  pub sum_in : SFits w16 x → {n m : ℕ} → 4 ≤ n → m ≤ 48 → SFits w16 (x >> n +ℤ pos m)
  sum_in f {n} {m} h k =
      let p = pow_mono {i = 4} {j = n} h in
      let b = down_in x n 2048 (omega (arith, know f)) (omega (arith, know f)) in
      omega (zar, add_is (x >> n) (pos m))

  -- so the code of xmax is the plain sum
  pub xmaxc_is : SFits w16 x → let e = exponent x in xmaxc x ≡ x >> (e + 5) +ℤ pos (e * 8)
  unfolding xmaxc
  xmaxc_is f =
      let l = exp_in x in
      rw (exp_up x) (plus_plain _ _ (sum_in f (omega arith) (omega arith)))
