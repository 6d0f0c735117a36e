-- 4.2.14 and 4.2.15: the codes of the grid and of the pulses fit their fields.
use Rattle.std.specs.Prelude.{ℕ, ◌+◌, ◌*◌, ◌^◌, ◌<◌, ◌≤◌, ◌≡◌, refl, Bool, true, ◌&&◌, List, leb, ltb, ℤ, pos, negsuc, ◌+ℤ◌, ◌*ℤ◌, nat_abs, length}
use Rattle.std.proofs.Common.{ap, ⊎_elim, arith, mul-le-mul_right, SFits, leb-true, ltb-true}
use Rattle.std.proofs.Math.Bool.{and-eq-true_iff}
use Rattle.std.proofs.Math.ListN.{get_or-eq_default}
use Rattle.std.specs.Int.Signed.{le_z}
use Rattle.std.specs.Int.{w16}
use Rattle.math_integers.specs.Halves.{P, N, apart, le_or_lt, zar, know, abs_is}
use Rattle.math_integers.specs.Sums.{add_is, scale_is, shr_is}
use Rattle.math_lists.specs.First.{first}
use Rattle.math_lists.specs.Best.{best_within}
use Rattle.math_lists.specs.Tab.{tab, tab_length, tab_at_zero}
use Rattle.math_lists.specs.Every.{every, every_places, every_tab, every_map}
use Rattle.standard.specs.Arithmetic.{clip, modulo, keep, plus, minus, within, ◌>>◌, shl, add, sub, mult, abs, peak, L_squares}
use Rattle.standard.specs.Tables.{◌at◌, NRFAC}
use Rattle.standard.specs.Rpe.{filtered, weighted, Mc, grid, exponent, xmaxc, Amplitude, mantissa, amplitude, xMc}
use Rattle.standard.specs.House.{fit}
use Rattle.law_arithmetic.specs.Within.{within_is}
use Rattle.law_arithmetic.specs.Clip.{clip_is, plus_clip, abs_clip}
use Rattle.law_arithmetic.specs.Shift.{keep_fits, shl_exact}
use Rattle.law_fields.specs.Fit.{fit_yes, fit_is}
use Rattle.law_fields.specs.Amplitudes.{peak_in, peak_covers, top, top_covers, xmaxc_fits}

-- ---- the grid

-- Mc is from 0 to 3
pub grid_in : (x : List ℤ) → Mc x ≤ 3
unfolding Mc
grid_in x =
    let n = tab_length (λ (m : ℕ). L_squares 2 (grid m x)) 0 4 in
    let b = best_within (tab (λ m. L_squares 2 (grid m x)) 0 4) (omega arith) in
    omega arith

-- ---- the pulses

-- the code of one pulse
abbrev pub pulse : Amplitude → ℤ → ℤ
pulse a xM = add (mult (shl w16 xM (sub (pos 6) a.exp)) (NRFAC at a.mant) >> 12) (pos 4)

-- the shift of the greatest xmax that has code c loses nothing, and its product with NRFAC stays below 16384 · 32768
pub record ShiftRoom (c : ℕ) : Type 0 where
  pub shift : ℕ
  factor : ℕ
  pub shift_is : sub (pos 6) (amplitude (pos c)).exp ≡ pos shift
  factor_is : NRFAC at (amplitude (pos c)).mant ≡ pos factor
  pub word : top c * 2 ^ shift ≤ 32767
  product : top c * 2 ^ shift * factor < 536870912

-- the same as a test
has_room : ℕ → Bool
has_room c =
    let a = amplitude (pos c) in
    let s = sub (pos 6) a.exp in
    let f = NRFAC at a.mant in
    let y = top c * 2 ^ nat_abs s in
    le_z (pos 0) s && (le_z (pos 0) f && (leb y 32767 && ltb (y * nat_abs f) 536870912))

-- it holds of all
rooms : every has_room (tab (λ c. c) 0 64) ≡ true
unfolding every tab has_room amplitude mantissa first minus clip NRFAC
rooms = refl

-- so it holds for each code
pub room : (c : ℕ) → c < 64 → ShiftRoom c
unfolding has_room
room c h =
    let a = amplitude (pos c) in
    let s = sub (pos 6) a.exp in
    let f = NRFAC at a.mant in
    let y = top c * 2 ^ nat_abs s in
    let t : has_room c ≡ true = every_tab has_room (λ c. c) 64 c rooms h in
    let (ok-s, u) = (and-eq-true_iff (le_z (pos 0) s) (le_z (pos 0) f && (leb y 32767 && ltb (y * nat_abs f) 536870912))).0 t in
    let (ok_f, v) = (and-eq-true_iff (le_z (pos 0) f) (leb y 32767 && ltb (y * nat_abs f) 536870912)).0 u in
    let (ok-y, w) = (and-eq-true_iff (leb y 32767) (ltb (y * nat_abs f) 536870912)).0 v in
    record {
      shift = nat_abs s;
      factor = nat_abs f;
      shift_is = omega (zar, apart s, abs_is s);
      factor_is = omega (zar, apart f, abs_is f);
      word = leb-true y 32767 ok-y;
      product = ltb-true (y * nat_abs f) 536870912 w;
    }

-- a pulse for which neither the shift nor the product goes too far has a code from 0 to 7
scaled_in : (x : ℤ) (k f : ℕ) → nat_abs x * 2 ^ k ≤ 32767 → nat_abs x * 2 ^ k * f < 536870912
    → fit 3 (add (mult (shl w16 x (pos k)) (pos f) >> 12) (pos 4)) ≡ true
unfolding mult
scaled_in x k f h g =
    let y = x *ℤ pos (2 ^ k) in
    let z = y *ℤ pos f in
    let u = clip w16 (z >> 15) in
    let ys = scale_is x (2 ^ k) in
    let zs = scale_is y f in
    let us = clip_is w16 (z >> 15) in
    let ws = shr_is z 32768 (omega arith) in
    let vs = shr_is u 4096 (omega arith) in
    let p : P y + N y ≡ nat_abs x * 2 ^ k = omega (arith, ap (λ (t : ℕ). t * 2 ^ k) (abs_is x)) in
    let q : P z + N z ≡ nat_abs x * 2 ^ k * f = omega (arith, ap (λ (t : ℕ). t * f) p) in
    let r : (P (u >> 12) ≤ 3) × (N (u >> 12) ≤ 4) = omega arith in
    let s = plus_clip w16 (u >> 12) (pos 4) in
    let t = add_is (u >> 12) (pos 4) in
    rw (shl_exact w16 x k (omega zar))
    (fit_yes 3 (add (u >> 12) (pos 4)) (omega arith) (omega (arith, apart (u >> 12 +ℤ pos 4))))

-- so has a pulse that is not larger in size than the greatest xmax with code c
pulse_in : (c : ℕ) (x : ℤ) → c < 64 → nat_abs x ≤ top c → fit 3 (pulse (amplitude (pos c)) x) ≡ true
pulse_in c x h g =
    let r = room c h in
    let k : nat_abs x * 2 ^ r.shift ≤ top c * 2 ^ r.shift = mul-le-mul_right (2 ^ r.shift) g in
    rw (r.shift_is, r.factor_is)
    (scaled_in x r.shift r.factor (omega (arith, r.word)) (omega (arith, r.product, mul-le-mul_right r.factor k)))

-- and so has the least word, which is larger in size than any xmax: it occurs only where xmax is 32767
least : fit 3 (pulse (amplitude (xmaxc (pos 32767))) (negsuc 32767)) ≡ true
unfolding fit clip modulo keep plus minus shl mult first exponent xmaxc mantissa amplitude NRFAC
least = refl

-- xmaxc as a number from 0 to 63
pub code_in : (xmax : ℤ) → within (pos 0) (pos 32767) xmax ≡ true → let c = nat_abs (xmaxc xmax) in (xmaxc xmax ≡ pos c) × (c < 64)
code_in xmax h =
    let p = fit_is 6 (xmaxc xmax) (xmaxc_fits xmax h) in
    let a = abs_is (xmaxc xmax) in
    (omega zar, omega arith)

-- the code of a pulse that is not larger than xmax is from 0 to 7
pub pulse_fits : (xmax x : ℤ) → within (pos 0) (pos 32767) xmax ≡ true → SFits w16 x → le_z (abs x) xmax ≡ true
    → fit 3 (pulse (amplitude (xmaxc xmax)) x) ≡ true
pulse_fits xmax x h f g = ⊎_elim plain extreme (le_or_lt (N x) 32767)
  where
    plain : N x ≤ 32767 → fit 3 (pulse (amplitude (xmaxc xmax)) x) ≡ true
    plain l =
        let (e, l') = code_in xmax h in
        let t = top_covers xmax h in
        rw e (pulse_in (nat_abs (xmaxc xmax)) x l' (omega (zar, know f, abs_clip x)))

    extreme : 32767 < N x → fit 3 (pulse (amplitude (xmaxc xmax)) x) ≡ true
    extreme l =
        let (a, b) = within_is (pos 0) (pos 32767) xmax h in
        let e : x ≡ negsuc 32767 = omega (zar, know f) in
        let m : xmax ≡ pos 32767 = omega (zar, know f, abs_clip x) in
        rw (e, m) least

-- xMc[0..12] are from 0 to 7, where xM[0..12] are words
pub pulses_fit : (xs : List ℤ)
    → ((k : ℕ) → k < length xs → SFits w16 (xs at k)) → every (fit 3) (xMc (amplitude (xmaxc (peak xs))) xs) ≡ true
unfolding xMc
pulses_fit xs f =
    rw every_map
    (every_places _ xs (pos 0) (λ k h. pulse_fits (peak xs) (xs at k) (peak_in xs) (f k h) (peak_covers xs k h)))

-- ---- the pulses of a sub-frame are words

-- the elements of a table of words are words; beyond it stands 0
table_words : (f : ℕ → ℤ) (n : ℕ) → ((k : ℕ) → SFits w16 (f k)) → (k : ℕ) → SFits w16 (tab f 0 n at k)
table_words f n h k =
    ⊎_elim
    (λ l. rw (get_or-eq_default (tab f 0 n) (pos 0) {n = k} (rw tab_length l)) (omega zar))
    (λ l. rw (tab_at_zero f n k (pos 0) l) (h k))
    (le_or_lt n k)

-- the x are words, whatever is weighted
weighted_words : (e : List ℤ) (k : ℕ) → SFits w16 (weighted e at k)
unfolding weighted filtered
weighted_words e = table_words _ 40 (λ k. keep_fits w16 _)

-- and so are the pulses, for any grid
pub grid_words : (m : ℕ) (e : List ℤ) (k : ℕ) → SFits w16 (grid m (weighted e) at k)
unfolding grid
grid_words m e = table_words _ 13 (λ i. weighted_words e (m + 3 * i))
