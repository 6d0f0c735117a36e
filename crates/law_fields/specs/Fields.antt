-- House rules, 'Samples and codewords': every codeword of a coded frame fits its field, and every lag is from 40 to 120.
use Rattle.std.specs.Prelude.{◌≡◌, refl, Bool, true, ℤ, pos, length, replicate}
use Rattle.std.proofs.Common.{sym, arith, le-leb}
use mathlib.Core.List.{List, [], ◌∷◌, map, zip_with, flatten}
use Rattle.std.proofs.Math.Nat.{suc-le-suc_iff}
use Rattle.std.proofs.Math.IntN.{nat_abs}
use Rattle.math_lists.specs.Every.{every, every_cons, every_map}
use Rattle.math_lists.specs.Scan.{run_every}
use Rattle.math_lists.specs.Lengths.{sized_length}
use Rattle.standard.specs.LongTerm.{is_lag}
use Rattle.standard.specs.Tables.{LARc_widths}
use Rattle.standard.specs.Frame.{Subframe, Frame, sub_words, words, sub_widths, widths}
use Rattle.standard.specs.Coder.{Coder, analysis, sub_coded, sub_step, frame, coded}
use Rattle.standard.specs.House.{fit, fits}
use Rattle.law_arithmetic.specs.Within.{within_yes}
use Rattle.law_lengths.specs.Subframes.{full, found_lag, sub_coded_pulses, sub_coded_lag}
use Rattle.law_lengths.specs.Frames.{FrameSizes, sub_words_sized, coded_frame_sizes}
use Rattle.law_fields.specs.Fit.{fit_yes, all_fit, same_width, joined}
use Rattle.law_fields.specs.Ratios.{ratios_fit}
use Rattle.law_fields.specs.Gains.{gain_in}
use Rattle.law_fields.specs.Amplitudes.{peak_in, xmaxc_fits}
use Rattle.law_fields.specs.Pulses.{grid_in, grid_words, pulses_fit}

-- ---- a sub-frame

-- each codeword of a sub-frame fits its field
abbrev pub sub_fits : Subframe → Bool
sub_fits s = all_fit sub_widths (sub_words s)

-- this holds where each part fits and there are thirteen pulses
by_parts : (s : Subframe) → fit 7 s.Nc ≡ true → fit 2 s.bc ≡ true → fit 2 s.Mc ≡ true → fit 6 s.xmaxc ≡ true
    → every (fit 3) s.xMc ≡ true → length s.xMc ≡ 13 → sub_fits s ≡ true
unfolding sub_words sub_widths zip_with every
by_parts s a b c d e l = rw (a, b, c, d) (same_width 13 3 s.xMc l e)

module _ (dp d : List ℤ) where
  -- every codeword that the coder gives for a sub-frame fits, whatever dp and d are
  pub sub_coded_fits : sub_fits (sub_coded dp d).codes ≡ true
  unfolding sub_coded
  sub_coded_fits =
      by_parts (sub_coded dp d).codes
      (fit_yes 7 (sub_coded dp d).codes.Nc (omega (arith, found_lag d dp)) refl)
      (fit_yes 2 _ (suc-le-suc_iff.1 (gain_in _ _)) refl)
      (fit_yes 2 _ (suc-le-suc_iff.1 (grid_in _)) refl)
      (xmaxc_fits _ (peak_in _))
      (pulses_fit _ (λ k _. grid_words _ _ k))
      (sub_coded_pulses dp d)

  -- and the lag is from 40 to 120
  pub sub_coded_within : is_lag (sub_coded dp d).codes.Nc ≡ true
  unfolding sub_coded
  sub_coded_within =
      let n = nat_abs (sub_coded dp d).codes.Nc in
      let l = sub_coded_lag dp d in
      within_yes (pos 40) (pos 120) (pos n) (le-leb 40 n l.least) (le-leb n 120 l.most)

-- ---- a frame

-- sub-frames that follow one another fit where each does
subs_fit : (ss : List Subframe) → every full ss ≡ true → every sub_fits ss ≡ true
    → all_fit (flatten (replicate (length ss) sub_widths)) (flatten (map sub_words ss)) ≡ true
unfolding every zip_with flatten sub_widths
subs_fit [] h k = refl
subs_fit (s ∷ ss) h k =
    let (h₀, h₁) = (every_cons full s ss).0 h in
    let (k₀, k₁) = (every_cons sub_fits s ss).0 k in
    let l = sized_length 17 (sub_words s) (sub_words_sized s h₀) in
    joined sub_widths (flatten (replicate (length ss) sub_widths)) (sub_words s) (flatten (map sub_words ss)) (sym l) k₀ (subs_fit ss h₁ k₁)

-- and a frame fits where its ratios and its sub-frames do
pub frame_fits : (f : Frame)
    → FrameSizes f → all_fit LARc_widths f.LARc ≡ true → every sub_fits f.subframes ≡ true → fits (words f) ≡ true
unfolding words widths fits LARc_widths
frame_fits f s h k =
    let rest = rw s.subframes at (subs_fit f.subframes s.pulses k) in
    joined LARc_widths _ f.LARc (flatten (map sub_words f.subframes)) (sym s.LARc) h rest

-- ---- what the coder gives

module _ (c : Coder) (sop : List ℤ) where
  -- every codeword fits its field
  pub coded_fits : fits (words (frame (coded c sop).1)) ≡ true
  unfolding coded frame analysis sub_step
  coded_fits = frame_fits (frame (coded c sop).1) (coded_frame_sizes c sop) (ratios_fit _)
      (rw every_map (run_every sub_step (λ s. sub_fits s.codes) sub_coded_fits c.dp _))

  -- every lag is from 40 to 120
  pub coded_lags : every (λ f. is_lag f.Nc) (frame (coded c sop).1).subframes ≡ true
  unfolding coded frame sub_step
  coded_lags = rw every_map (run_every sub_step (λ s. is_lag s.codes.Nc) sub_coded_within c.dp _)
