-- No left shift of 4.2.15 loses a bit: in the range that occurs in the codec, each is the plain product.
use Rattle.std.specs.Prelude.{ℕ, ◌*◌, ◌^◌, ◌<◌, ◌≤◌, ◌≡◌, true, List, ℤ, pos, ◌*ℤ◌, nat_abs, length}
use Rattle.std.proofs.Common.{ap, ◌∙◌, ⊎_elim, arith, mul-le-mul_right, SFits}
use Rattle.std.specs.Int.Signed.{le_z}
use Rattle.std.specs.Int.{w16}
use Rattle.math_integers.specs.Halves.{P, N, le_or_lt, zar, know, abs_is}
use Rattle.math_integers.specs.Sums.{scale_is}
use Rattle.standard.specs.Arithmetic.{◌<<◌, shl, sub, abs, peak, within}
use Rattle.standard.specs.Tables.{◌at◌}
use Rattle.standard.specs.Rpe.{exponent, xmaxc, amplitude}
use Rattle.law_arithmetic.specs.Clip.{abs_clip}
use Rattle.law_arithmetic.specs.Shift.{keep_plain, shl_exact}
use Rattle.law_fields.specs.Amplitudes.{peak_in, peak_covers, top, top_covers, exp_in}
use Rattle.law_fields.specs.Pulses.{room, code_in}

-- exp << 3, for any xmax
pub exp_up : (xmax : ℤ) → pos (exponent xmax) << 3 ≡ pos (exponent xmax) *ℤ pos 8
exp_up xmax = keep_plain {w = w16} {z = pos (exponent xmax) *ℤ pos 8} (omega (zar, exp_in xmax))

-- a word that is not larger than xmax stays a word after a left shift by n, if the largest amplitude with xmax's code does
pulse_word : (xmax x : ℤ) (n : ℕ) → within (pos 0) (pos 32767) xmax ≡ true → SFits w16 x → le_z (abs x) xmax ≡ true
    → top (nat_abs (xmaxc xmax)) * 2 ^ n ≤ 32767 → SFits w16 (x *ℤ pos (2 ^ n))
pulse_word xmax x n h f g r = ⊎_elim plain extreme (le_or_lt (N x) 32767)
  where
    t : ℕ
    t = top (nat_abs (xmaxc xmax))

    plain : N x ≤ 32767 → SFits w16 (x *ℤ pos (2 ^ n))
    plain l =
        let c = top_covers xmax h in
        let k : nat_abs x * 2 ^ n ≤ t * 2 ^ n = mul-le-mul_right (2 ^ n) (omega (zar, know f, abs_clip x)) in
        omega (zar, scale_is x (2 ^ n), ap (λ (a : ℕ). a * 2 ^ n) (abs_is x))

    -- the least word, −32768, is larger in size than any xmax; it occurs only where the count is 0
    extreme : 32767 < N x → SFits w16 (x *ℤ pos (2 ^ n))
    extreme l =
        let c = top_covers xmax h in
        let k : 32767 * 2 ^ n ≤ t * 2 ^ n = mul-le-mul_right (2 ^ n) (omega (zar, know f, abs_clip x)) in
        let p : N x ≡ 32768 = omega (arith, know f) in
        let q : P x ≡ 0 = omega (arith, know f) in
        omega (zar, scale_is x (2 ^ n), ap (λ (a : ℕ). a * 2 ^ n) p, ap (λ (a : ℕ). a * 2 ^ n) q)

-- xM << temp1, where xM[0..12] are words and xmaxc is the code of their xmax: the count is not negative
pub pulses_up : (xM : List ℤ) → ((k : ℕ) → k < length xM → SFits w16 (xM at k))
    → let temp1 = sub (pos 6) (amplitude (xmaxc (peak xM))).exp in
    (n : ℕ) × (temp1 ≡ pos n) × ((k : ℕ) → k < length xM → shl w16 (xM at k) temp1 ≡ xM at k *ℤ pos (2 ^ n))
pulses_up xM f =
    let xmax = peak xM in
    let (c, l) = code_in xmax (peak_in xM) in
    let r = room (nat_abs (xmaxc xmax)) l in
    let n = r.shift in
    let t : sub (pos 6) (amplitude (xmaxc xmax)).exp ≡ pos n = ap (λ (z : ℤ). sub (pos 6) (amplitude z).exp) c ∙ r.shift_is in
    (n, t, λ k h. rw t (shl_exact w16 (xM at k) n (pulse_word xmax (xM at k) n (peak_in xM) (f k h) (peak_covers xM k h) r.word)))
