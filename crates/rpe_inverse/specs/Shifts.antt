-- No left shift of 4.2.16 loses a bit: in the range that occurs in the codec, each is the plain product.
use Rattle.std.specs.Prelude.{ℕ, ◌^◌, ◌≤◌, ◌≡◌, true, ℤ, pos, ◌-ℤ◌, ◌*ℤ◌, nat_abs}
use Rattle.std.proofs.Common.{arith, pow_mono}
use Rattle.std.specs.Int.Signed.{le_z}
use Rattle.std.specs.Int.{w16}
use Rattle.math_integers.specs.Halves.{P, N, apart, zar, abs_is}
use Rattle.math_integers.specs.Sums.{minus_is, scale_is}
use Rattle.standard.specs.Arithmetic.{◌<<◌, shl, sub}
use Rattle.standard.specs.Rpe.{amplitude}
use Rattle.standard.specs.House.{fit}
use Rattle.law_arithmetic.specs.Clip.{minus_clip, minus_plain}
use Rattle.law_arithmetic.specs.Shift.{keep_plain, shl_exact}
use Rattle.law_fields.specs.Fit.{fit_is}
use Rattle.rpe_quantise.specs.Doubling.{exp_range}

-- xMc << 1, of a code from 0 to 7
pub twice : (xMc : ℤ) → fit 3 xMc ≡ true → xMc << 1 ≡ xMc *ℤ pos 2
twice xMc h = keep_plain {w = w16} {z = xMc *ℤ pos 2} (omega (zar, fit_is 3 xMc h, scale_is xMc 2))

-- then less 7, and << 12
pub raised : (xMc : ℤ) → fit 3 xMc ≡ true → sub (xMc << 1) (pos 7) << 12 ≡ (xMc *ℤ pos 2 -ℤ pos 7) *ℤ pos 4096
raised xMc h =
    let d = xMc *ℤ pos 2 -ℤ pos 7 in
    let b : (P d ≤ 7) × (N d ≤ 7) = omega (arith, fit_is 3 xMc h, scale_is xMc 2, minus_is (xMc *ℤ pos 2) (pos 7), apart d) in
    rw (twice xMc h, minus_plain {w = w16} (xMc *ℤ pos 2) (pos 7) (omega zar))
    (keep_plain {w = w16} {z = d *ℤ pos 4096} (omega (zar, scale_is d 4096)))

-- 1 << (temp2 − 1), the rounding term, at an exponent below 6
pub half_up : (code : ℤ) → fit 6 code ≡ true → le_z (amplitude code).exp (pos 5) ≡ true
    → let temp2 = sub (pos 6) (amplitude code).exp in
    (n : ℕ) × (sub temp2 (pos 1) ≡ pos n) × (shl w16 (pos 1) (sub temp2 (pos 1)) ≡ pos 1 *ℤ pos (2 ^ n))
half_up code h l =
    let e = (amplitude code).exp in
    let n = nat_abs (pos 5 -ℤ e) in
    let s = sub (pos 6) e in
    let (p, q) = exp_range code h in
    let a = apart e in
    let b = apart (pos 5 -ℤ e) in
    let c = minus_is (pos 5) e in
    let d = abs_is (pos 5 -ℤ e) in
    let t : sub s (pos 1) ≡ pos n =
    omega (zar, minus_is (pos 6) e, minus_clip w16 (pos 6) e, minus_is s (pos 1), minus_clip w16 s (pos 1)) in
    let m = pow_mono {i = n} {j = 9} (omega arith) in
    (n, t, rw t (shl_exact w16 (pos 1) n (omega zar)))
