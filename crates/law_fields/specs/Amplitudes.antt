-- 4.2.15: xmax and its code, which is made of an exponent and the highest bits of xmax. The code fits its field, and it bounds xmax.
use Rattle.std.specs.Prelude.{ℕ, suc, ◌+◌, ◌*◌, ◌-◌, ◌/◌, ◌^◌, ◌<◌, ◌≤◌, ◌≡◌, refl, Bool, true, false, cond, List, map, leb, ℤ, pos, negsuc, ◌*ℤ◌, nat_abs, length}
use Rattle.std.proofs.Common.{ap, ◌∙◌, ⊎_elim, arith, div-lt_iff_lt-mul, le-div_iff_mul-le, le_of_suc-le-suc, pow-add, pow_pos, leb-true, leb-false, le-leb}
use Rattle.std.proofs.lemmas.List.{length-map}
use Rattle.std.specs.Int.Signed.{le_z}
use Rattle.std.specs.Int.{w16, w32}
use Rattle.std.proofs.lemmas.Bool.{lt-leb}
use Rattle.math_integers.specs.Halves.{P, N, zar, le_or_lt}
use Rattle.math_integers.specs.Sums.{scale_is}
use Rattle.math_lists.specs.First.{first, first_le, first_holds, first_least}
use Rattle.math_lists.specs.Best.{largest_above, largest_covers, largest_within}
use Rattle.math_lists.specs.Tab.{map_at}
use Rattle.standard.specs.Arithmetic.{within, up, ◌>>◌, ◌<<◌, abs, peak}
use Rattle.standard.specs.Tables.{◌at◌}
use Rattle.standard.specs.Rpe.{exponent, xmaxc}
use Rattle.standard.specs.House.{fit}
use Rattle.law_arithmetic.specs.Within.{within_yes, within_is, range_is}
use Rattle.law_arithmetic.specs.Clip.{plus_plain, abs_clip}
use Rattle.law_arithmetic.specs.Shift.{keep_plain}
use Rattle.law_fields.specs.Fit.{fit_yes}

-- ---- xmax

-- xmax is from 0 to 32767, for any pulses
pub peak_in : (xs : List ℤ) → within (pos 0) (pos 32767) (peak xs) ≡ true
unfolding peak
peak_in xs =
    let sizes = map abs xs in
    let each : (j : ℕ) → j < length sizes → le_z (sizes at j) (pos 32767) ≡ true =
    λ j h. rw (map_at abs xs j (pos 0) (pos 0) (rw length-map at h)) (omega (zar, abs_clip (xs at j)))
    in
    within_yes (pos 0) (pos 32767) (peak xs) (largest_above sizes) (largest_within sizes (pos 32767) refl each)

-- for `omega`
pub peak_halves : (xs : List ℤ) → (P (peak xs) ≤ 32767) × (N (peak xs) ≤ 0)
peak_halves xs = range_is 0 32767 (peak xs) (peak_in xs)

-- so the shift of such a maximum to the top of a long word, in 4.2.4 and 4.2.11, loses nothing
pub peak_up : (xs : List ℤ) → up w32 (peak xs) 16 ≡ peak xs *ℤ pos 65536
peak_up xs = keep_plain (omega (zar, peak_halves xs, scale_is (peak xs) 65536))

-- and no pulse is larger
pub peak_covers : (xs : List ℤ) (j : ℕ) → j < length xs → le_z (abs (xs at j)) (peak xs) ≡ true
unfolding peak
peak_covers xs j h = rw (map_at abs xs j (pos 0) (pos 0) h) at (largest_covers (map abs xs) j (rw length-map h))

-- ---- exp: how often xmax was halved

-- n is 0 after 9 + i halvings
abbrev gone : ℕ → ℕ → Bool
gone n i = le_z (pos n >> (9 + i)) (pos 0)

-- then n is below that power of 2
gone_yes : (n i : ℕ) → gone n i ≡ true → n < 2 ^ (9 + i)
gone_yes n i t =
    let l = leb-true (n / 2 ^ (9 + i)) 0 t in
    omega (arith, (div-lt_iff_lt-mul {x = n} {y = 1} (pow_pos (9 + i))).0 (omega arith))

-- and where n is not 0 then, it is not below
gone_no : (n i : ℕ) → gone n i ≡ false → 2 ^ (9 + i) ≤ n
gone_no n i t = omega (arith, (le-div_iff_mul-le {x = 1} {y = n} (pow_pos (9 + i))).0 (leb-false (n / 2 ^ (9 + i)) 0 t))

-- exp is from 0 to 6, for any xmax
pub exp_in : (xmax : ℤ) → exponent xmax ≤ 6
unfolding exponent
exp_in xmax = first_le (λ i. le_z (xmax >> (9 + i)) (pos 0)) 6 0

-- xmax is below the power of 2 that exp says
exp_below : (n : ℕ) → n ≤ 32767 → n < 2 ^ (9 + exponent (pos n))
unfolding exponent
exp_below n h =
    let e = first (gone n) 6 0 in
    ⊎_elim
    (λ (l : 6 ≤ e). let s : e ≡ 6 = omega (arith, first_le (gone n) 6 0) in rw s (omega arith))
    (λ l. gone_yes n e (first_holds (gone n) 6 0 l))
    (le_or_lt 6 e)

-- and, where exp is above 0, not below the one before
exp_above : (n : ℕ) → 0 < exponent (pos n) → 2 ^ (8 + exponent (pos n)) ≤ n
unfolding exponent
exp_above n h =
    let e = first (gone n) 6 0 in
    let s : 9 + (e - 1) ≡ 8 + e = omega arith in
    rw s at (gone_no n (e - 1) (first_least (gone n) 6 0 (e - 1) (omega arith) (omega arith)))

-- ---- xmaxc

-- the parts of n's code: exp, and the bits of n from there down, of which the fourth is 1 where exp is above 0
record Parts (n : ℕ) : Type 0 where
  exp : ℕ
  mant : ℕ
  exp_most : exp ≤ 6
  mant_most : mant ≤ 15
  full : 0 < exp → 8 ≤ mant
  covers : n < suc mant * 2 ^ (exp + 5)
  code : xmaxc (pos n) ≡ pos (mant + 8 * exp)

-- each n up to 32767 has them
parts : (n : ℕ) → n ≤ 32767 → Parts n
unfolding xmaxc
parts n h =
    let e = exponent (pos n) in
    let m = n / 2 ^ (e + 5) in
    let p = pow_pos (e + 5) in
    let l = exp_in (pos n) in
    let most : m ≤ 15 = le_of_suc-le-suc ((div-lt_iff_lt-mul p).1 (omega (arith, exp_below n h, pow-add 2 9 e, pow-add 2 e 5))) in
    let shifted : pos e << 3 ≡ pos (e * 8) = keep_plain {w = w16} {z = pos (e * 8)} (omega zar) in
    record {
      exp = e;
      mant = m;
      exp_most = l;
      mant_most = most;
      full = λ z. (le-div_iff_mul-le p).1 (omega (arith, exp_above n z, pow-add 2 8 e, pow-add 2 e 5));
      covers = (div-lt_iff_lt-mul p).0 (omega arith);
      code = rw shifted (plus_plain (pos m) (pos (e * 8)) (omega zar) ∙ ap pos (omega arith));
    }

-- so has xmax
parts_of : (xmax : ℤ) → within (pos 0) (pos 32767) xmax ≡ true → (n : ℕ) × (xmax ≡ pos n) × Parts n
parts_of (pos n) h = (n, refl, parts n (omega (zar, within_is (pos 0) (pos 32767) (pos n) h)))
parts_of (negsuc n) h = absurd (omega (zar, within_is (pos 0) (pos 32767) (negsuc n) h))

-- xmaxc is from 0 to 63
pub xmaxc_fits : (xmax : ℤ) → within (pos 0) (pos 32767) xmax ≡ true → fit 6 (xmaxc xmax) ≡ true
xmaxc_fits xmax h =
    let (n, e, s) = parts_of xmax h in
    let a = s.exp_most in
    let b = s.mant_most in
    rw (e, s.code) (fit_yes 6 (pos (s.mant + 8 * s.exp)) (omega arith) refl)

-- ---- the xmax of a code

-- the exp of a code
abbrev pub exp_of : ℕ → ℕ
exp_of c = cond (leb c 15) 0 (c / 8 - 1)

-- the greatest xmax that a code can have
abbrev pub top : ℕ → ℕ
top c = suc (c - 8 * exp_of c) * 2 ^ (exp_of c + 5) - 1

-- the parts of a code give its exp
exp_is : (e m : ℕ) → m ≤ 15 → (0 < e → 8 ≤ m) → exp_of (m + 8 * e) ≡ e
exp_is e m h f =
    ⊎_elim
    (λ (z : e ≤ 0). rw (le-leb (m + 8 * e) 15 (omega arith)) (omega arith))
    (λ (z : 0 < e). let g = f z in rw (lt-leb (m + 8 * e) 15 (omega arith)) (omega arith))
    (le_or_lt e 0)

-- no xmax with that code is above it
pub top_covers : (xmax : ℤ) → within (pos 0) (pos 32767) xmax ≡ true → le_z xmax (pos (top (nat_abs (xmaxc xmax)))) ≡ true
top_covers xmax h =
    let (n, e, s) = parts_of xmax h in
    let l = s.covers in
    let m : s.mant + 8 * s.exp - 8 * s.exp ≡ s.mant = omega arith in
    rw (e, s.code, exp_is s.exp s.mant s.mant_most s.full, m)
    (le-leb n (suc s.mant * 2 ^ (s.exp + 5) - 1) (omega arith))
