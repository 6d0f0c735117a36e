-- 4.2.15: how often a mantissa is doubled until it is above 7; the exponent and the mantissa of a code; and 6 less the exponent, by which
-- 4.2.15 and 4.2.16 shift.
use Rattle.std.specs.Prelude.{ℕ, suc, ◌+◌, ◌*◌, ◌-◌, ◌^◌, ◌<◌, ◌≤◌, ◌≡◌, refl, Bool, true, T, leb, ℤ, pos, ◌-ℤ◌, nat_abs}
use Rattle.std.proofs.Common.{sym, ◌∙◌, ⊎_elim, mul-le-mul_right, arith, leb→le, pow_mono, pow-add, pow_pos, SFits, leb-true, leb-false, le-leb}
use Rattle.std.specs.Int.{w16}
use Rattle.std.proofs.lemmas.Bool.{lt-leb}
use Rattle.math_integers.specs.Halves.{P, N, apart, le_or_lt, zar, abs_is, mem}
use Rattle.math_integers.specs.Sums.{minus_is}
use Rattle.math_integers.specs.Ranges.{back}
use Rattle.math_lists.specs.First.{by_cond, first, first_le, first_holds, first_unique}
use Rattle.standard.specs.Arithmetic.{sub}
use Rattle.standard.specs.Rpe.{mantissa, amplitude}
use Rattle.standard.specs.House.{fit}
use Rattle.law_arithmetic.specs.Clip.{minus_clip, minus_plain}
use Rattle.law_fields.specs.Fit.{fit_is}
use Rattle.law_fields.specs.Amplitudes.{exp_of}
use Rattle.rpe_quantise.specs.Counts.{Count}

-- n doublings bring m above 7
abbrev pub doubled : ℕ → ℕ → Bool
doubled m n = leb 9 (suc m * 2 ^ n)

module _ (m : ℕ) where
  -- the least number that does so, at most four, is k where m is below 2 ^ (4 − k), unless k is 0, and not below 2 ^ (3 − k), unless k is 4
  pub doubled_by : (k : ℕ) → k ≤ 4 → (0 < k → m < 2 ^ (4 - k)) → (k < 4 → 2 ^ (3 - k) ≤ m) → k ≡ first (doubled m) 4 0
  doubled_by k h below above =
      sym
      (first_unique (doubled m) 4 0 k (omega arith) (omega arith)
      (λ j _ g.
      let a : 4 - k + j ≤ 3 = omega arith in
      let b : suc m * 2 ^ j ≤ 2 ^ (4 - k) * 2 ^ j = mul-le-mul_right (2 ^ j) (below (omega arith)) in
      lt-leb 9 (suc m * 2 ^ j) (omega (arith, pow-add 2 (4 - k) j, pow_mono {i = 4 - k + j} a)))
      (λ g.
      let a : 3 - k + k ≡ 3 = omega arith in
      let b : 2 ^ (3 - k) * 2 ^ k ≤ m * 2 ^ k = mul-le-mul_right (2 ^ k) (above g) in
      le-leb 9 (suc m * 2 ^ k) (omega (arith, pow_pos k, rw a at (pow-add 2 (3 - k) k)))))

  -- and four doublings are always enough
  pub doubled_above : 9 ≤ suc m * 2 ^ first (doubled m) 4 0
  doubled_above =
      let n = first (doubled m) 4 0 in
      ⊎_elim
      (λ (g : 4 ≤ n). let e : n ≡ 4 = omega (arith, first_le (doubled m) 4 0) in rw e (omega arith))
      (λ g. leb-true 9 (suc m * 2 ^ n) (first_holds (doubled m) 4 0 g))
      (le_or_lt 4 n)

-- the exponent and the mantissa of a code: e is the exponent before the doublings, m the mantissa that is left, n the doublings of m
pub amplitude_is : (code : ℤ) (e n : ℕ) → let m = nat_abs code - 8 * e in
    e ≡ exp_of (nat_abs code) → n ≡ first (doubled m) 4 0
    → ((amplitude code).exp ≡ pos e -ℤ pos n) × ((amplitude code).mant ≡ suc m * 2 ^ n - 9)
unfolding amplitude mantissa
amplitude_is code e n h k = rw (k, h) (refl, refl)

-- the exponent of a code before the doublings is at most 6, and leaves a mantissa from 0 to 15
pub exp_parts : (c : ℕ) → c < 64 → let e = exp_of c in (e ≤ 6) × (8 * e ≤ c) × (c - 8 * e ≤ 15)
exp_parts c h =
    by_cond (λ e. (e ≤ 6) × (8 * e ≤ c) × (c - 8 * e ≤ 15)) (leb c 15)
    (λ t. omega (arith, leb-true c 15 t))
    (λ t. omega (arith, leb-false c 15 t))

-- after them it is from −4 to 6
pub exp_range : (code : ℤ) → fit 6 code ≡ true → (P (amplitude code).exp ≤ 6) × (N (amplitude code).exp ≤ 4)
unfolding amplitude mantissa
exp_range code h =
    let c = nat_abs code in
    let m = c - 8 * exp_of c in
    let f = fit_is 6 code h in
    let u = abs_is code in
    let e = exp_parts c (omega arith) in
    omega (arith, first_le (doubled m) 4 0, minus_is (pos (exp_of c)) (pos (first (doubled m) 4 0)))

-- k less the exponent that was returned, as the code has it: for k = 6 temp1 of 4.2.15 and temp2 of 4.2.16
module _ (code e : ℤ) (h : fit 6 code ≡ true) (s : e ≡ (amplitude code).exp) (k : ℕ) (l : T (leb k 8)) where
  held : mem w16 e ≡ (amplitude code).exp
  held = rw s (back {w = w16} (omega (zar, apart (amplitude code).exp, exp_range code h)))

  pub gap_fits : SFits w16 (pos k -ℤ mem w16 e)
  gap_fits = rw held (omega (zar, exp_range code h, minus_is (pos k) (amplitude code).exp, leb→le k 8 l))

  -- it is the standard's difference, which does not saturate
  pub gap_is : mem w16 (pos k -ℤ mem w16 e) ≡ sub (pos k) (amplitude code).exp
  gap_is = back gap_fits ∙ rw held (sym (minus_plain (pos k) (amplitude code).exp (rw held at gap_fits)))

  -- for k from 6 on it is from 0 to k + 4
  pub gap_in : T (leb 6 k) → let t = sub (pos k) (amplitude code).exp in (N t ≡ 0) × (P t ≤ k + 4)
  gap_in m =
      let x = (amplitude code).exp in
      omega (arith, exp_range code h, minus_is (pos k) x, apart (pos k -ℤ x), minus_clip w16 (pos k) x, leb→le 6 k m, leb→le k 8 l)

  -- so the machine's shift takes it
  pub gap_count : T (leb 6 k) → Count (mem w16 (pos k -ℤ mem w16 e))
  gap_count m = rw gap_is (omega (zar, gap_in m, leb→le k 8 l), omega (zar, gap_in m, leb→le k 8 l))
