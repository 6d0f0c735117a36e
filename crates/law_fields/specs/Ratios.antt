-- 4.2.7: a coded Log.-Area Ratio fits its field, whatever the ratio.
use Rattle.std.specs.Prelude.{ℕ, ◌<◌, ◌≡◌, true, ℤ, pos, ◌-ℤ◌, get_or}
use mathlib.Core.List.{List, zip_with}
use Rattle.std.proofs.Common.{arith}
use Rattle.std.specs.Int.Signed.{lt_z, le_z}
use Rattle.std.specs.Int.{w16}
use Rattle.math_integers.specs.Halves.{zar, apart, eq_is}
use Rattle.math_integers.specs.Sums.{minus_is}
use Rattle.math_lists.specs.First.{by_cond}
use Rattle.math_lists.specs.Tab.{tab, tab_length, tab_at_zero, zip_length, zip_at}
use Rattle.math_lists.specs.Every.{every_places}
use Rattle.standard.specs.Arithmetic.{sub}
use Rattle.standard.specs.Tables.{◌at◌, MIC, MAC, LARc_widths}
use Rattle.standard.specs.Lpc.{LAR, clamped, LARc, ratio_codes}
use Rattle.standard.specs.House.{fit}
use Rattle.law_arithmetic.specs.Clip.{minus_clip}
use Rattle.op_tables.specs.Facts.{LARc_span, LARc_fits}
use Rattle.law_fields.specs.Fit.{fit_yes, all_fit}

-- a clamped number lies between the two ends
pub clamped_in : (least most x : ℤ) → le_z least most ≡ true
    → (le_z least (clamped least most x) ≡ true) × (le_z (clamped least most x) most ≡ true)
unfolding clamped
clamped_in least most x h =
    by_cond (λ z. (le_z least z ≡ true) × (le_z z most ≡ true)) (lt_z most x)
    (λ a. (h, omega zar))
    (λ a. by_cond (λ z. (le_z least z ≡ true) × (le_z z most ≡ true)) (lt_z x least) (λ b. (omega zar, h)) (λ b. (omega zar, omega zar)))

-- the end MIC is not above MAC
ends : (i : ℕ) → i < 8 → le_z (MIC at i) (MAC at i) ≡ true
ends i h = omega (zar, eq_is _ _ (LARc_span i h), minus_is (MAC at i) (MIC at i), apart (MAC at i -ℤ MIC at i))

-- so a number between them fits the field once MIC is subtracted
code_fits : (i : ℕ) (temp : ℤ) → i < 8 → fit (get_or LARc_widths i 0) (sub (clamped (MIC at i) (MAC at i) temp) (MIC at i)) ≡ true
code_fits i temp h =
    let c = clamped (MIC at i) (MAC at i) temp in
    let (l, m) = clamped_in (MIC at i) (MAC at i) temp (ends i h) in
    let (p, n) = LARc_fits i c h l m in
    let (p', n') = minus_clip w16 c (MIC at i) in
    fit_yes _ _ (omega arith) (omega arith)

-- LARc[i] fits its field
pub ratio_fits : (i : ℕ) (lar : ℤ) → i < 8 → fit (get_or LARc_widths i 0) (LARc i lar) ≡ true
unfolding LARc
ratio_fits i lar h = code_fits i _ h

-- LARc[1..8] fit theirs, whatever the reflection coefficients
pub ratios_fit : (rs : List ℤ) → all_fit LARc_widths (ratio_codes rs) ≡ true
unfolding ratio_codes LARc_widths
ratios_fit rs =
    let code : ℕ → ℤ = λ i. LARc i (LAR (rs at i)) in
    let n = tab_length code 0 8 in
    every_places (λ b. b) (zip_with fit LARc_widths (tab code 0 8)) true
    (λ i h.
    let l : i < 8 = omega (arith, zip_length fit LARc_widths (tab code 0 8)) in
    rw (zip_at fit LARc_widths (tab code 0 8) i 0 (pos 0) true l (omega arith), tab_at_zero code 8 i (pos 0) l)
    (ratio_fits i (LAR (rs at i)) l))
