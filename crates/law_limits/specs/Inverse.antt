-- The shifts that both ends make of the codes of a sub-frame: of xmaxc to get exponent and mantissa (4.2.15), and those of the inverse
-- quantization (4.2.16).
use Rattle.std.specs.Prelude.{ℕ, ◌<◌, ◌≡◌, refl, true, cond, ℤ, pos, negsuc, ◌*ℤ◌}
use Rattle.std.proofs.Common.{arith}
use Rattle.std.specs.Int.Signed.{lt_z, le_z}
use Rattle.std.specs.Int.{w16}
use Rattle.math_lists.specs.Steps.{steps}
use Rattle.math_lists.specs.Tab.{tab}
use Rattle.math_lists.specs.For.{tab_each}
use Rattle.standard.specs.Arithmetic.{◌>>◌, ◌<<◌, sub}
use Rattle.standard.specs.Tables.{◌at◌}
use Rattle.standard.specs.Frame.{Subframe}
use Rattle.standard.specs.Rpe.{amplitude}
use Rattle.standard.specs.House.{fit}
use Rattle.standard.specs.Opened.{opened}
use Rattle.law_fields.specs.Fit.{fit_is}
use Rattle.law_loops.specs.Quantization.{mant_turn, normalize, exp_and_mant}
use Rattle.rpe_inverse.specs.Shifts.{twice, half_up}
use Rattle.law_limits.specs.Exact.{Exact, ExactBy, pulse_up}

-- ---- 4.2.15, as the standard computes it; `amplitude` says it without a shift, and `mant_loop` (`law_loops`) that both give the same

-- exp of xmaxc
abbrev pub exp_of : ℤ → ℤ
exp_of xmaxc = cond (lt_z (pos 15) xmaxc) (sub (xmaxc >> 3) (pos 1)) (pos 0)

-- mant after k iterations of "Normalize mantissa"
abbrev pub mant_of : ℤ → ℕ → ℤ
mant_of xmaxc k = (steps mant_turn k 0 (exp_of xmaxc, sub xmaxc (exp_of xmaxc << 3), 0)).1

-- they are those of the standard's loop
pub loop-is : (xmaxc : ℤ) → exp_and_mant xmaxc ≡ normalize (exp_of xmaxc) (sub xmaxc (exp_of xmaxc << 3))
unfolding exp_and_mant
loop-is xmaxc = refl

-- ---- the shifts

-- the codes of a sub-frame, as they are sent or received: no left shift loses anything
pub record InverseShifts (f : Subframe) : Type 0 where
  -- 4.2.15: exp << 3
  pub exponent : Exact w16 (exp_of f.xmaxc) 3
  -- 4.2.15: mant << 1, in each iteration
  pub mantissa : (k : ℕ) → k < 3 → Exact w16 (mant_of f.xmaxc k) 1
  -- 4.2.16: xMc << 1
  pub doubling : (k : ℕ) → k < 13 → Exact w16 (f.xMc at k) 1
  -- 4.2.16: temp << 12
  pub raising : (k : ℕ) → k < 13 → Exact w16 (sub (f.xMc at k << 1) (pos 7)) 12
  -- 4.2.16: 1 << (temp2 − 1); at exponent 6 it is a right shift
  pub rounding : let exp = (amplitude f.xmaxc).exp in le_z exp (pos 5) ≡ true → ExactBy w16 (pos 1) (sub (sub (pos 6) exp) (pos 1))
  -- 4.2.16: the right shift by temp2 is never a left one
  pub lowering : le_z (pos 0) (sub (pos 6) (amplitude f.xmaxc).exp) ≡ true

-- what is computed of the 64 codes is true of each
of_code : {A : Type 0} (f g : ℤ → A) → tab (λ c. f (pos c)) 0 64 ≡ tab (λ c. g (pos c)) 0 64
    → (code : ℤ) → fit 6 code ≡ true → f code ≡ g code
of_code f g e (pos c) h = tab_each (λ c. f (pos c)) (λ c. g (pos c)) 64 0 e c (omega arith) (fit_is 6 (pos c) h).0
of_code f g e (negsuc c) h = absurd (omega (arith, fit_is 6 (negsuc c) h))

-- 4.2.15 and the count of 4.2.16
exponents : (code : ℤ) → fit 6 code ≡ true → Exact w16 (exp_of code) 3
unfolding opened
exponents = of_code (λ c. exp_of c << 3) (λ c. exp_of c *ℤ pos 8) refl

mantissas : (code : ℤ) → fit 6 code ≡ true → tab (λ k. mant_of code k << 1) 0 3 ≡ tab (λ k. mant_of code k *ℤ pos 2) 0 3
unfolding opened steps mant_turn
mantissas = of_code (λ c. tab (λ k. mant_of c k << 1) 0 3) (λ c. tab (λ k. mant_of c k *ℤ pos 2) 0 3) refl

counts : (code : ℤ) → fit 6 code ≡ true → le_z (pos 0) (sub (pos 6) (amplitude code).exp) ≡ true
unfolding opened
counts = of_code (λ c. le_z (pos 0) (sub (pos 6) (amplitude c).exp)) (λ c. true) refl

-- all of them, of codes that fit their fields
pub inverse_shifts : (f : Subframe) → fit 6 f.xmaxc ≡ true → ((k : ℕ) → k < 13 → fit 3 (f.xMc at k) ≡ true) → InverseShifts f
inverse_shifts f h g =
    record {
      exponent = exponents f.xmaxc h;
      mantissa = λ k l.
          tab_each (λ k. mant_of f.xmaxc k << 1) (λ k. mant_of f.xmaxc k *ℤ pos 2) 3 0 (mantissas f.xmaxc h) k (omega arith) l;
      doubling = λ k l. twice (f.xMc at k) (g k l);
      raising = λ k l. pulse_up (f.xMc at k) (g k l);
      rounding = λ l. let (m, i, p) = half_up f.xmaxc h l in record { count = m; is = i; exact = p };
      lowering = counts f.xmaxc h;
    }
