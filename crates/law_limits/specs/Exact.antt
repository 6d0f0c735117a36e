-- What it means that a left shift loses nothing; and this for each left shift of 4.2 whose law is in no stage, in the standard's order.
use Rattle.std.specs.Prelude.{ℕ, ◌-◌, ◌*◌, ◌^◌, ◌<◌, ◌≤◌, ◌≡◌, refl, true, false, ℤ, pos, ◌+ℤ◌, ◌-ℤ◌, ◌*ℤ◌, nat_abs, get_or}
use Rattle.std.proofs.Common.{sym, ap, ◌∙◌, arith, SFits}
use Rattle.std.specs.Int.Signed.{lt_z}
use Rattle.std.specs.Int.{Width, w16, w32}
use Rattle.math_integers.specs.Halves.{P, N, apart, abs_is, eq_is, zar, know}
use Rattle.math_integers.specs.Sums.{add_is, minus_is, scale_is, shr_is}
use Rattle.math_lists.specs.Every.{every}
use Rattle.standard.specs.Arithmetic.{◌>>◌, ◌<<◌, up, shl, add, sub, abs}
use Rattle.standard.specs.Tables.{◌at◌, B, MIC, MAC, LARc_widths}
use Rattle.standard.specs.House.{fit}
use Rattle.law_arithmetic.specs.Clip.{plus_plain, minus_plain, abs_clip}
use Rattle.law_arithmetic.specs.Shift.{keep_plain}
use Rattle.op_tables.specs.Facts.{entry_size, LARc_span}
use Rattle.law_fields.specs.Fit.{fit_is}
use Rattle.rpe_inverse.specs.Shifts.{twice, raised}

-- z << n at width w loses nothing
abbrev pub Exact : Width → ℤ → ℕ → Type 0
Exact w z n = up w z n ≡ z *ℤ pos (2 ^ n)

-- the same, by a count that is computed and is not negative
pub record ExactBy (w : Width) (z n : ℤ) : Type 0 where
  pub count : ℕ
  pub is : n ≡ pos count
  pub exact : shl w z n ≡ z *ℤ pos (2 ^ count)

-- 4.2.1: (sop >> 3) << 2
pub sop_up : (sop : ℤ) → SFits w16 sop → Exact w16 (sop >> 3) 2
sop_up sop f =
    let z = sop >> 3 in
    keep_plain {w = w16} {z = z *ℤ pos 4} (omega (zar, know f, shr_is sop 8 (omega arith), scale_is z 4))

-- 4.2.2: s1 << 15 and msp << 15, of words to long words
pub long_up : (z : ℤ) → SFits w16 z → Exact w32 z 15
long_up z f = keep_plain {w = w32} {z = z *ℤ pos 32768} (omega (zar, know f, scale_is z 32768))

-- 4.2.6: (temp − 26112) << 2, of a size from 31130 on
pub size_up : (r : ℤ) → lt_z (abs r) (pos 31130) ≡ false → Exact w16 (sub (abs r) (pos 26112)) 2
size_up r h =
    let temp = abs r in
    let z = temp -ℤ pos 26112 in
    let b : (P z ≤ 6655) × (N z ≡ 0) = omega (zar, abs_clip r, minus_is temp (pos 26112), apart z) in
    rw (minus_plain {w = w16} temp (pos 26112) (omega (zar, b))) (keep_plain {w = w16} {z = z *ℤ pos 4} (omega (zar, b, scale_is z 4)))

-- the largest sizes in three tables
MIC_in : (i : ℕ) → nat_abs (MIC at i) ≤ 32
unfolding every MIC
MIC_in = entry_size MIC 32 refl

MAC_in : (i : ℕ) → nat_abs (MAC at i) ≤ 31
unfolding every MAC
MAC_in = entry_size MAC 31 refl

B_in : (i : ℕ) → nat_abs (B at i) ≤ 2560
unfolding every B
B_in = entry_size B 2560 refl

-- 4.2.8: (LARc + MIC) << 10, of a code that fits its field
pub code_up : (i : ℕ) (larc : ℤ) → i < 8 → fit (get_or LARc_widths i 0) larc ≡ true → Exact w16 (add larc (MIC at i)) 10
code_up i larc h f =
    let m = MIC at i in
    let M = MAC at i in
    let z = larc +ℤ m in
    let span = eq_is (M -ℤ m) (pos (2 ^ get_or LARc_widths i 0 - 1)) (LARc_span i h) in
    let low = fit_is (get_or LARc_widths i 0) larc f in
    let b : (P z ≤ 31) × (N z ≤ 32) =
    omega (arith, add_is larc m, apart z, minus_is M m, MIC_in i, MAC_in i, abs_is m, abs_is M)
    in
    rw (plus_plain {w = w16} larc m (omega (zar, b))) (keep_plain {w = w16} {z = z *ℤ pos 1024} (omega (zar, b, scale_is z 1024)))

-- 4.2.8: B << 1
pub B_up : (i : ℕ) → Exact w16 (B at i) 1
B_up i = keep_plain {w = w16} {z = B at i *ℤ pos 2} (omega (zar, B_in i, abs_is (B at i), scale_is (B at i) 2))

-- 4.2.9.2: temp << 1, of a size below 11059
pub ratio_up : (LARp : ℤ) → lt_z (abs LARp) (pos 11059) ≡ true → Exact w16 (abs LARp) 1
ratio_up LARp h = keep_plain {w = w16} {z = abs LARp *ℤ pos 2} (omega (zar, abs_clip LARp, scale_is (abs LARp) 2))

-- 4.2.16: temp << 12, of a code from 0 to 7, doubled and 7 less
pub pulse_up : (xMc : ℤ) → fit 3 xMc ≡ true → Exact w16 (sub (xMc << 1) (pos 7)) 12
pulse_up xMc h =
    let z = xMc *ℤ pos 2 in
    let f : SFits w16 (z -ℤ pos 7) = omega (zar, fit_is 3 xMc h, scale_is xMc 2, minus_is z (pos 7)) in
    raised xMc h ∙ ap (λ (y : ℤ). y *ℤ pos 4096) (sym (ap (λ (y : ℤ). sub y (pos 7)) (twice xMc h) ∙ minus_plain z (pos 7) f))
