-- 4.3.1, 4.3.2: the fields of a received sub-frame, and that its steps, one after the other, give what the definition gives.
use Rattle.std.specs.Prelude.{ℕ, ◌<◌, ◌≡◌, refl, true, ℤ, pos, nat_abs, length, get_or, drop}
use Rattle.std.proofs.Common.{◌∙◌, arith}
use mathlib.Core.List.{List, zip_with}
use Rattle.math_integers.specs.Halves.{P, zar, apart, abs_is}
use Rattle.math_lists.specs.Tab.{zip_at}
use Rattle.standard.specs.Arithmetic.{add}
use Rattle.standard.specs.Tables.{◌at◌}
use Rattle.standard.specs.Frame.{sub_widths, sub_received}
use Rattle.standard.specs.LongTerm.{is_lag, dpp}
use Rattle.standard.specs.Rpe.{amplitude, xMp, ep, reconstructed}
use Rattle.standard.specs.Decoder.{Nr, sub_decoded}
use Rattle.standard.specs.House.{fit}
use Rattle.law_arithmetic.specs.Within.{within_is}
use Rattle.law_lengths.specs.Subframes.{Lag}
use Rattle.law_lengths.specs.Decoding.{range_lag, Nr_range}
use Rattle.law_fields.specs.Fit.{fit_is}
use Rattle.law_fields.specs.Valid.{low_bits, low_bits_fit}
use Rattle.frame_received.specs.Received.{sub_frame, sub_reconstructed}

-- each field fits its width
pub field_fit : (c : List ℤ) (i : ℕ) → length c ≡ 17 → i < 17 → fit (get_or sub_widths i 0) (zip_with low_bits sub_widths c at i) ≡ true
unfolding sub_widths
field_fit c i h l =
    rw (zip_at low_bits sub_widths c i 0 (pos 0) (pos 0) (omega arith) (omega arith)) (low_bits_fit (get_or sub_widths i 0) (c at i))

-- a number that fits a field is an index: it is not negative
pub fit_place : (w : ℕ) (z : ℤ) → fit w z ≡ true → P z ≡ nat_abs z
fit_place w z h = omega (arith, fit_is w z h, abs_is z)

-- so is a lag, and it is from 40 to 120
pub lag_place : (z : ℤ) → is_lag z ≡ true → (P z ≡ nat_abs z) × Lag (P z)
lag_place z h =
    let (l, m) = within_is (pos 40) (pos 120) z h in
    let e : P z ≡ nat_abs z = omega (zar, abs_is z, apart z) in
    (e, rw e (range_lag z h))

-- the steps of a sub-frame: its fields, the lag, the pulses, their positions, the estimate, the sum
pub sub_steps : (drp : List ℤ) (nrp : ℤ) (c v xmp e d y : List ℤ) (lag : ℤ)
    → length c ≡ 17 → is_lag nrp ≡ true → v ≡ zip_with low_bits sub_widths c
    → lag ≡ Nr nrp (v at 0) → xmp ≡ xMp (amplitude (v at 3)) (drop 4 v) → e ≡ ep (P (v at 2)) xmp → d ≡ dpp (P lag) (P (v at 1)) drp
    → y ≡ zip_with add e d
    → (lag ≡ (sub_reconstructed drp nrp c).0.1) × (y ≡ (sub_reconstructed drp nrp c).1)
unfolding sub_reconstructed sub_frame sub_received sub_decoded reconstructed sub_widths
sub_steps drp nrp c v xmp e d y lag h s ev el ex ee ed ey =
    let gain : P (v at 1) ≡ nat_abs (v at 1) = rw ev (fit_place 2 _ (field_fit c 1 h (omega arith))) in
    let grid : P (v at 2) ≡ nat_abs (v at 2) = rw ev (fit_place 2 _ (field_fit c 2 h (omega arith))) in
    let place : P lag ≡ nat_abs lag = (lag_place lag (rw el (Nr_range nrp (v at 0) s))).0 in
    (rw ev at el, ey ∙ rw (ee, ed, ex, grid, gain, place, el, ev) refl)
