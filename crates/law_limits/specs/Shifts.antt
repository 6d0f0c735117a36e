-- House rules, 'Left shifts': over a whole frame only one left shift of 4.2 loses bits, the rescaling in 4.2.4; and what that one loses.
--
-- `FrameShifts` and `SubShifts` have every left shift of 4.2.1 to 4.2.18, and every right shift by a computed count, which would be a left
-- shift if the count were negative. They leave out
--   the << 1 in L_mult (4.1): it is twice the product, and `OffsetSums` and `Inside` (Sums) show that it never meets a limit;
--   xmax >> temp (4.2.15): its count is exp + 5, a natural number (`exponent`);
--   the doublings of 4.2.8 and 4.2.13: they are sums, by add and L_add.
-- exp << 3 and mant << 1 of 4.2.15, which the definition `amplitude` says without a shift, are in `InverseShifts` as the standard's loop
-- has them.
use Rattle.std.specs.Prelude.{ℕ, ◌^◌, ◌<◌, ◌≡◌, true, false, List, ℤ, pos, ◌*ℤ◌, nat_abs, length, get_or}
use Rattle.std.proofs.Common.{arith, SFits}
use Rattle.std.specs.Int.Signed.{lt_z, le_z}
use Rattle.std.specs.Int.{Width, w16, w32}
use Rattle.math_integers.specs.Halves.{apart, abs_is, zar}
use Rattle.math_integers.specs.Sums.{minus_is}
use Rattle.math_lists.specs.Tab.{tab_at_zero, map_at}
use Rattle.math_lists.specs.Every.{every, every_at}
use Rattle.math_lists.specs.Steps.{steps}
use Rattle.standard.specs.Arithmetic.{◌>>◌, ◌<<◌, low, shl, add, sub, mult_r, abs, norm, peak, within}
use Rattle.standard.specs.Tables.{◌at◌, neg, B, MIC, LARc_widths}
use Rattle.standard.specs.Preprocessing.{downscaled}
use Rattle.standard.specs.Lpc.{r, ratio_codes}
use Rattle.standard.specs.LongTerm.{scal}
use Rattle.standard.specs.Rpe.{exponent}
use Rattle.standard.specs.Coder.{Coder, analysis, sub_coded}
use Rattle.standard.specs.House.{fit}
use Rattle.law_arithmetic.specs.Within.{word, word_is, within_is}
use Rattle.law_arithmetic.specs.Clip.{minus_clip, minus_fits, abs_clip}
use Rattle.law_arithmetic.specs.Shift.{keep_fits}
use Rattle.law_arithmetic.specs.Div.{div_turn, div_shifts}
use Rattle.law_lengths.specs.Subframes.{grid_length, sub_coded_lag, sub_coded_pulses}
use Rattle.law_fields.specs.Ratios.{ratio_fits}
use Rattle.law_fields.specs.Amplitudes.{peak_in, peak_up, xmaxc_fits}
use Rattle.law_fields.specs.Pulses.{grid_words, pulses_fit}
use Rattle.lpc_autocorrelation.specs.Scale.{scaled_by, rescaled_exact, rescaled_at_four}
use Rattle.lpc_autocorrelation.specs.Bounds.{ACF_exact}
use Rattle.long_search.specs.Bounds.{scal_range, power_in, gain_exact}
use Rattle.rpe_quantise.specs.Shifts.{exp_up, pulses_up}
use Rattle.law_limits.specs.Signals.{memory, s, scale, small, sums, part, history, lag, L_max, L_pow, e, x, xM, exp}
use Rattle.law_limits.specs.Words.{Carried, s_length, small_length, s_words, history_words, history_length}
use Rattle.law_limits.specs.Sizes.{small_sizes}
use Rattle.law_limits.specs.Exact.{Exact, ExactBy, sop_up, long_up, size_up, code_up, B_up, ratio_up}
use Rattle.law_limits.specs.Inverse.{InverseShifts, inverse_shifts}

-- the left shifts of a frame: they lose nothing, except for the one in `loses`
pub record FrameShifts (c : Coder) (sop : List ℤ) : Type 0 where
  -- 4.2.1: (sop >> 3) << 2
  pub downscaling : (k : ℕ) → k < 160 → Exact w16 (sop at k >> 3) 2
  -- 4.2.2: s1 << 15
  pub s1 : (k : ℕ) → Exact w32 (sub (downscaled sop at k) (memory c sop k).z1) 15
  -- 4.2.2: msp << 15
  pub msp : (k : ℕ) → Exact w32 (low ((memory c sop k).L_z2 >> 15)) 15
  -- 4.2.4: smax << 16
  pub smax : Exact w32 (peak (s c sop)) 16
  -- 4.2.4: the right shift of 16384 by scale − 1 is never a left one
  pub scaling : lt_z (pos 0) (scale c sop) ≡ true → le_z (pos 0) (sub (scale c sop) (pos 1)) ≡ true
  -- 4.2.4, the rescaling, made where the scale is above 0: it loses nothing of a sample below 32760, and nothing at a scale below 4
  pub rescaling : (k : ℕ) → k < 160 → lt_z (pos 0) (scale c sop) ≡ true → (scale c sop ≡ pos 4 → lt_z (s c sop at k) (pos 32760) ≡ true)
      → ExactBy w16 (small c sop at k) (scale c sop)
  -- the one that loses bits: at scale 4 each sample from 32760 to 32767 becomes −32768
  pub loses : (k : ℕ) → k < 160 → scale c sop ≡ pos 4 → le_z (pos 32760) (s c sop at k) ≡ true
      → shl w16 (small c sop at k) (scale c sop) ≡ neg 32768
  -- 4.2.5: the normalisation, which is made where the first sum is above 0
  pub normalisation : (k : ℕ) → k < 9 → lt_z (pos 0) (sums c sop at 0) ≡ true → ExactBy w32 (sums c sop at k) (norm (sums c sop at 0))
  -- 4.2.5: div << 1 and L_num << 1, in iteration k of div( abs( P[1] ), P[0] ), whatever P[1] and a P[0] above 0 are
  pub division : (P0 P1 : ℤ) → lt_z (pos 0) P0 ≡ true → (k : ℕ) → k < 15
      → let t = steps (div_turn P0) k 0 (pos 0, abs P1) in Exact w16 t.0 1 × Exact w32 t.1 1
  -- 4.2.6: (temp − 26112) << 2
  pub areas : (i : ℕ) → let temp = abs (r (sums c sop) at i) in lt_z temp (pos 31130) ≡ false → Exact w16 (sub temp (pos 26112)) 2
  -- 4.2.8: (LARc + MIC) << 10
  pub codes : (i : ℕ) → i < 8 → Exact w16 (add ((analysis c sop).LARc at i) (MIC at i)) 10
  -- 4.2.8: B << 1
  pub bases : (i : ℕ) → Exact w16 (B at i) 1
  -- 4.2.9.2: temp << 1, whatever LARp is
  pub coefficients : (LARp : ℤ) → let temp = abs LARp in lt_z temp (pos 11059) ≡ true → Exact w16 temp 1

-- the left shifts of a sub-frame that starts from dp and d: they lose nothing
pub record SubShifts (dp d : List ℤ) : Type 0 where
  -- 4.2.11: dmax << 16
  pub dmax : Exact w32 (peak d) 16
  -- 4.2.11: the right shifts by scal and by 6 − scal are never left ones
  pub scaling : (within (pos 0) (pos 6) (scal d) ≡ true) × (within (pos 0) (pos 6) (sub (pos 6) (scal d)) ≡ true)
  -- 4.2.11: L_max << temp, where it is made
  pub R : lt_z (pos 0) (L_max dp d) ≡ true → lt_z (L_max dp d) (L_pow dp d) ≡ true → ExactBy w32 (L_max dp d) (norm (L_pow dp d))
  -- 4.2.11: L_power << temp
  pub S : lt_z (pos 0) (L_max dp d) ≡ true → lt_z (L_max dp d) (L_pow dp d) ≡ true → ExactBy w32 (L_pow dp d) (norm (L_pow dp d))
  -- 4.2.15: exp << 3
  pub amplitude : Exact w16 (pos (exponent (peak (xM dp d)))) 3
  -- 4.2.15: xM << temp1
  pub pulses : (k : ℕ) → k < 13 → ExactBy w16 (xM dp d at k) (sub (pos 6) (exp dp d))
  -- 4.2.15 and 4.2.16: those of its codes
  pub inverse : InverseShifts (sub_coded dp d).codes

-- ---- a frame

-- by a count that is not negative
by : (w : Width) (z n : ℤ) → le_z (pos 0) n ≡ true → shl w z n ≡ z *ℤ pos (2 ^ nat_abs n) → ExactBy w z n
by w z n h e = record { count = nat_abs n; is = omega (zar, abs_is n, apart n); exact = e }

-- norm is not negative
norm_above : (z : ℤ) → le_z (pos 0) (norm z) ≡ true
unfolding norm
norm_above z = omega zar

-- the codes fit their fields
code_fits : (c : Coder) (sop : List ℤ) (i : ℕ) → i < 8 → fit (get_or LARc_widths i 0) ((analysis c sop).LARc at i) ≡ true
unfolding analysis ratio_codes
code_fits c sop i h = rw (tab_at_zero _ 8 i (pos 0) h) (ratio_fits i _ h)

module _ (c : Coder) (sop : List ℤ) (l : length sop ≡ 160) (w : every word sop ≡ true) where
  -- there are 160 of s
  there : (k : ℕ) → k < 160 → k < length (s c sop)
  there k h = omega (arith, s_length c sop)

  -- what scale 4 loses
  lost : (k : ℕ) → k < 160
      → scale c sop ≡ pos 4 → le_z (pos 32760) (s c sop at k) ≡ true → shl w16 (small c sop at k) (scale c sop) ≡ neg 32768
  lost k h m g =
      let f : SFits w16 (s c sop at k) = word_is (s c sop at k) (every_at word (s c sop) k (pos 0) (s_words c sop) (there k h)) in
      rw (m, scaled_by 3 (s c sop) (omega arith), map_at (λ x. mult_r x (pos 2048)) (s c sop) k (pos 0) (pos 0) (there k h))
      (rescaled_at_four (s c sop at k) f g)

  -- all of a frame
  pub frame_shifts : FrameShifts c sop
  frame_shifts =
      record {
        downscaling = λ k h. sop_up (sop at k) (word_is (sop at k) (every_at word sop k (pos 0) w (omega arith)));
        s1 = λ k. long_up (sub (downscaled sop at k) (memory c sop k).z1) (minus_fits w16 _ _);
        msp = λ k. long_up (low ((memory c sop k).L_z2 >> 15)) (keep_fits w16 _);
        smax = peak_up (s c sop);
        scaling = λ g. omega (zar, minus_clip w16 (scale c sop) (pos 1), minus_is (scale c sop) (pos 1), apart (scale c sop));
        rescaling = λ k h g o.
            by w16 (small c sop at k) (scale c sop) (omega (zar, g)) (rescaled_exact (s c sop) (s_words c sop) g k (there k h) o);
        loses = lost;
        normalisation = λ k h g.
            by w32 (sums c sop at k) (norm (sums c sop at 0)) (norm_above (sums c sop at 0))
            (ACF_exact (small c sop) (omega (arith, small_length c sop)) (small_sizes c sop) k h g);
        division = λ P0 P1. div_shifts (abs P1) P0 (omega (zar, abs_clip P1)) (omega (zar, abs_clip P1));
        areas = λ i. size_up (r (sums c sop) at i);
        codes = λ i h. code_up i ((analysis c sop).LARc at i) h (code_fits c sop i h);
        bases = B_up;
        coefficients = ratio_up;
      }

-- ---- a sub-frame

-- its pulses are words
pulse_word : (dp d : List ℤ) (k : ℕ) → SFits w16 (xM dp d at k)
pulse_word dp d k = grid_words (nat_abs (sub_coded dp d).codes.Mc) (e dp d) k

-- and their codes have three bits
pulse_code : (dp d : List ℤ) (k : ℕ) → k < 13 → fit 3 ((sub_coded dp d).codes.xMc at k) ≡ true
unfolding sub_coded
pulse_code dp d k h =
    every_at (fit 3) _ k (pos 0) (pulses_fit (xM dp d) (λ k _. pulse_word dp d k)) (omega (arith, sub_coded_pulses dp d))

module _ (dp d : List ℤ) (v : every word dp ≡ true) (n : length dp ≡ 120) where
  -- the power is a long word
  power_fits : SFits w32 (L_pow dp d)
  power_fits =
      let b = within_is (pos 0) (pos 1342177280) (L_pow dp d) (power_in dp v n (lag dp d) (sub_coded_lag dp d)) in
      omega (zar, apart (L_pow dp d))

  -- all of a sub-frame
  pub sub_shifts : SubShifts dp d
  unfolding sub_coded
  sub_shifts =
      record {
        dmax = peak_up d;
        scaling = scal_range d;
        R = λ g h.
            let (m, p, _) = gain_exact (L_max dp d) (L_pow dp d) g h power_fits in
            record { count = m.shifts; is = m.is; exact = p };
        S = λ g h.
            let (m, _, p) = gain_exact (L_max dp d) (L_pow dp d) g h power_fits in
            record { count = m.shifts; is = m.is; exact = p };
        amplitude = exp_up (peak (xM dp d));
        pulses = λ k h.
            let (m, i, p) = pulses_up (xM dp d) (λ k _. pulse_word dp d k) in
            record { count = m; is = i; exact = p k (omega (arith, grid_length (nat_abs (sub_coded dp d).codes.Mc) (x dp d))) };
        inverse = inverse_shifts (sub_coded dp d).codes (xmaxc_fits (peak (xM dp d)) (peak_in (xM dp d))) (pulse_code dp d);
      }

-- ---- all of them

-- of a frame, and of each of its sub-frames from the history and the part of d that it starts from
abbrev pub LeftShifts : Coder → List ℤ → Type 0
LeftShifts c sop = FrameShifts c sop × ((i : ℕ) → i < 4 → SubShifts (history c sop i) (part c sop i))

-- from any state of the code, sound or not
pub left_shifts : (c : Coder) (sop : List ℤ) → Carried c → length sop ≡ 160 → every word sop ≡ true → LeftShifts c sop
left_shifts c sop h l w =
    (frame_shifts c sop l w, λ i k. sub_shifts (history c sop i) (part c sop i) (history_words c sop h i) (history_length c sop h i))
