-- The loops of 4.2.15 with itest, iteration by iteration: the exponent of xmax, and the exponent and mantissa of xmaxc.
use Rattle.std.specs.Prelude.{ℕ, zero, suc, ◌+◌, ◌^◌, ◌<◌, ◌≤◌, ◌≡◌, refl, true, false, cond, eqb, ℤ, pos, negsuc}
use Rattle.std.proofs.Common.{ap, ◌∙◌, ⊎_elim, arith, pow-add}
use Rattle.std.proofs.Math.Nat.{div-div-eq-div-mul}
use Rattle.std.specs.Int.Signed.{lt_z, le_z}
use Rattle.std.specs.Int.{w16}
use Rattle.math_integers.specs.Halves.{zar, either}
use Rattle.math_lists.specs.First.{by_cond, first, first_le}
use Rattle.math_lists.specs.Steps.{steps}
use Rattle.math_lists.specs.Tab.{tab}
use Rattle.math_lists.specs.For.{tab_each}
use Rattle.standard.specs.Arithmetic.{◌>>◌, ◌<<◌, is_zero, shr, add, sub}
use Rattle.standard.specs.Tables.{neg}
use Rattle.standard.specs.Rpe.{exponent, xmaxc, amplitude}
use Rattle.standard.specs.Opened.{opened}
use Rattle.law_arithmetic.specs.Clip.{plus_clip}

-- ---- "Quantizing and coding of xmax to get xmaxc"

-- an iteration, on exp, temp and itest
unfoldable pub exp_turn : ℕ → ℤ × ℤ × ℕ → ℤ × ℤ × ℕ
exp_turn i (exp, temp, itest) =
    let itest' = cond (le_z temp (pos 0)) 1 itest in
    let temp' = temp >> 1 in
    (cond (eqb itest' 0) (add exp (pos 1)) exp, temp', itest')

-- two shifts are one
pub shifted : (x : ℤ) (m n : ℕ) → x >> m >> n ≡ x >> (m + n)
shifted (pos a) m n = ap pos (div-div-eq-div-mul a (2 ^ m) (2 ^ n) ∙ rw (pow-add 2 m n))
shifted (negsuc a) m n = ap negsuc (div-div-eq-div-mul a (2 ^ m) (2 ^ n) ∙ rw (pow-add 2 m n))

-- a sum of small counts does not saturate
counted : (m n : ℕ) → m + n ≤ 32767 → add (pos m) (pos n) ≡ pos (m + n)
counted m n h = omega (zar, plus_clip w16 (pos m) (pos n))

-- an iteration where temp is 0 or less
stops : (i : ℕ) (exp temp : ℤ) (itest : ℕ) → le_z temp (pos 0) ≡ true → exp_turn i (exp, temp, itest) ≡ (exp, temp >> 1, 1)
unfolding exp_turn
stops i exp temp itest h = rw h

-- an iteration where temp is above 0, while itest is 0
goes_on : (i : ℕ) (exp temp : ℤ) → le_z temp (pos 0) ≡ false → exp_turn i (exp, temp, 0) ≡ (add exp (pos 1), temp >> 1, 0)
unfolding exp_turn
goes_on i exp temp h = rw h

-- an iteration where itest is 1 already
stopped : (i : ℕ) (exp temp : ℤ) → exp_turn i (exp, temp, 1) ≡ (exp, temp >> 1, 1)
unfolding exp_turn
stopped i exp temp = ⊎_elim (λ h. rw h) (λ h. rw h) (either (le_z temp (pos 0)))

-- once itest is 1, exp does not change
exp_stays : (n i : ℕ) (exp temp : ℤ) → (steps exp_turn n i (exp, temp, 1)).0 ≡ exp
unfolding steps
exp_stays zero i exp temp = refl
exp_stays (suc n) i exp temp =
    ap (λ (t : ℤ × ℤ × ℕ). (steps exp_turn n (suc i) t).0) (stopped i exp temp) ∙ exp_stays n (suc i) exp (temp >> 1)

-- until then exp counts the iterations, and temp is xmax shifted right by 9, and by one more for each iteration
exp_counts : (xmax : ℤ) (n i : ℕ) → i + n ≤ 6
    → (steps exp_turn n i (pos i, xmax >> (9 + i), 0)).0 ≡ pos (first (λ i. le_z (xmax >> (9 + i)) (pos 0)) n i)
unfolding steps first
exp_counts xmax zero i h = refl
exp_counts xmax (suc n) i h =
    let temp = xmax >> (9 + i) in
    let a : i + 1 ≡ suc i = omega arith in
    let b : 9 + i + 1 ≡ 9 + suc i = omega arith in
    by_cond (λ k. (steps exp_turn n (suc i) (exp_turn i (pos i, temp, 0))).0 ≡ pos k) (le_z temp (pos 0))
    (λ t. rw (stops i (pos i) temp 0 t) (exp_stays n (suc i) (pos i) (temp >> 1)))
    (λ t. rw (goes_on i (pos i) temp t, shifted xmax (9 + i) 1, counted i 1 (omega arith), a, b) (exp_counts xmax n (suc i) (omega arith)))

-- from exp = 0, temp = xmax >> 9 and itest = 0 on, six iterations find the exponent
pub exp_loop : (xmax : ℤ) → (steps exp_turn 6 0 (pos 0, xmax >> 9, 0)).0 ≡ pos (exponent xmax)
unfolding exponent
exp_loop xmax = exp_counts xmax 6 0 (omega arith)

-- and temp = add( exp, 5 ), xmaxc = add( ( xmax >> temp ), ( exp << 3 ) ) is the code
pub xmaxc_is : (xmax : ℤ) → let exp = (steps exp_turn 6 0 (pos 0, xmax >> 9, 0)).0 in
    add (shr w16 xmax (add exp (pos 5))) (exp << 3) ≡ xmaxc xmax
unfolding xmaxc exponent shr
xmaxc_is xmax = rw (exp_loop xmax, counted (exponent xmax) 5 (omega (arith, first_le (λ i. le_z (xmax >> (9 + i)) (pos 0)) 6 0)))

-- ---- "Compute exponent and mantissa of the decoded version of xmaxc"

-- an iteration of "Normalize mantissa", on exp, mant and itest
unfoldable pub mant_turn : ℕ → ℤ × ℤ × ℕ → ℤ × ℤ × ℕ
mant_turn i (exp, mant, itest) =
    let itest' = cond (lt_z (pos 7) mant) 1 itest in
    let mant' = cond (eqb itest' 0) (add (mant << 1) (pos 1)) mant in
    (cond (eqb itest' 0) (sub exp (pos 1)) exp, mant', itest')

-- three iterations, unless mant is 0; after that 8 is subtracted from mant
unfoldable pub normalize : ℤ → ℤ → ℤ × ℤ
normalize exp mant =
    let t = cond (is_zero mant) (neg 4, pos 15, 0) (steps mant_turn 3 0 (exp, mant, 0)) in
    (t.0, sub t.1 (pos 8))

-- exponent and mantissa of xmaxc, by the whole procedure
unfoldable pub exp_and_mant : ℤ → ℤ × ℤ
exp_and_mant xmaxc =
    let exp = cond (lt_z (pos 15) xmaxc) (sub (xmaxc >> 3) (pos 1)) (pos 0) in
    let mant = sub xmaxc (exp << 3) in
    normalize exp mant

-- it is the definition's, computed for the 64 codes
all_codes : tab (λ c. exp_and_mant (pos c)) 0 64 ≡ tab (λ c. let a = amplitude (pos c) in (a.exp, pos a.mant)) 0 64
unfolding opened steps mant_turn normalize exp_and_mant
all_codes = refl

-- so it is for each code
pub mant_loop : (xmaxc : ℕ) → xmaxc < 64 → let a = amplitude (pos xmaxc) in exp_and_mant (pos xmaxc) ≡ (a.exp, pos a.mant)
mant_loop xmaxc h =
    tab_each (λ c. exp_and_mant (pos c)) (λ c. let a = amplitude (pos c) in (a.exp, pos a.mant)) 64 0 all_codes xmaxc
    (omega arith) (omega arith)
