-- The formulas of clause 4 at the values where they change their branch or saturate. The expected values were worked out on plain
-- integers, independently of the definitions.
use Rattle.std.specs.Prelude.{ℕ, ◌≡◌, refl, List, [], ◌∷◌, map, ℤ, pos, replicate}
use Rattle.math_lists.specs.Tab.{tab}
use Rattle.standard.specs.Tables.{neg}
use Rattle.standard.specs.Preprocessing.{downscaled, offset, emphasis}
use Rattle.standard.specs.Lpc.{scalauto, measured, LAR, LARc}
use Rattle.standard.specs.ShortTerm.{ratios, stretches, rp}
use Rattle.standard.specs.LongTerm.{scal, gain_level, bc, residual}
use Rattle.standard.specs.Rpe.{filtered, amplitude, xMc}
use Rattle.standard.specs.Decoder.{de_emphasis, srop}
use Rattle.standard.specs.Opened.{opened}

-- positive numbers, and negative ones
abbrev above : List ℕ → List ℤ
above = map pos

abbrev below : List ℕ → List ℤ
below = map neg

pub record Coding : Type 0 where
  pub input_bits : downscaled (pos 7 ∷ pos 32767 ∷ neg 1 ∷ neg 32768 ∷ []) ≡ pos 0 ∷ pos 16380 ∷ neg 4 ∷ neg 16384 ∷ []
  pub offset_rounds : offset (record { z1 = pos 0; L_z2 = pos 16401 }) (pos 0) ≡ (record { z1 = pos 0; L_z2 = pos 16384 }, pos 1)
  pub emphasis_high : (emphasis (neg 32768) (pos 32767)).1 ≡ pos 32767
  pub emphasis_low : (emphasis (pos 32767) (neg 32768)).1 ≡ neg 32768
  pub scale_of_samples : map (λ x. scalauto (x ∷ [])) (above (0 ∷ 1 ∷ 2047 ∷ 2048 ∷ 32767 ∷ []))
      ≡ pos 0 ∷ neg 10 ∷ pos 0 ∷ pos 1 ∷ pos 4 ∷ []
  pub recursion_clips : measured 2 (pos 32767) (pos 16384 ∷ neg 32768 ∷ []) (pos 32767 ∷ []) ≡ neg 16384 ∷ []
  pub ratio : map LAR (above (22116 ∷ 22119 ∷ 31129 ∷ 31130 ∷ 32767 ∷ [])) ≡ above (11058 ∷ 11060 ∷ 20070 ∷ 20072 ∷ 26620 ∷ [])
  pub ratio_below : map LAR (below (1 ∷ 32768 ∷ [])) ≡ pos 0 ∷ neg 26620 ∷ []
  pub most_codes : tab (λ i. LARc i (pos 32767)) 0 8 ≡ above (63 ∷ 63 ∷ 31 ∷ 31 ∷ 15 ∷ 15 ∷ 7 ∷ 7 ∷ [])
  pub least_codes : tab (λ i. LARc i (neg 32768)) 0 8 ≡ replicate 8 (pos 0)
  pub some_codes : tab (λ i. LARc i (neg 1000)) 0 8 ≡ above (31 ∷ 31 ∷ 19 ∷ 10 ∷ 7 ∷ 4 ∷ 3 ∷ 1 ∷ [])
  pub codes_round : map (LARc 0) (above (409 ∷ 410 ∷ [])) ≡ above (32 ∷ 33 ∷ [])
  pub codes_round_down : map (LARc 0) (below (2868 ∷ [])) ≡ above (28 ∷ [])
  pub scale_of_d : map (λ x. scal (x ∷ [])) (above (0 ∷ 511 ∷ 512 ∷ 32767 ∷ [])) ≡ above (6 ∷ 0 ∷ 1 ∷ 6 ∷ [])
  pub levels_met : map (λ R. gain_level R (pos 16384)) (above (3277 ∷ 8192 ∷ 13107 ∷ [])) ≡ 0 ∷ 1 ∷ 2 ∷ []
  pub levels_passed : map (λ R. gain_level R (pos 16384)) (above (3278 ∷ 8193 ∷ 13108 ∷ [])) ≡ 1 ∷ 2 ∷ 3 ∷ []
  pub level_unrounded : gain_level (pos 3278) (pos 16387) ≡ 1
  pub gain_none : bc (pos 0) (pos 5) ≡ 0
  pub gain_most : bc (pos 5) (pos 5) ≡ 3
  pub gain_between : bc (pos 3) (pos 5) ≡ 2
  pub residual_clips : residual (pos 32767 ∷ neg 32768 ∷ []) (neg 1 ∷ pos 1 ∷ []) ≡ pos 32767 ∷ neg 32768 ∷ []
  pub weight_rounds : filtered (neg 2 ∷ pos 3 ∷ pos 0 ∷ pos 8 ∷ neg 2 ∷ []) ≡ pos 1
  pub weight_high : filtered (replicate 11 (pos 32767)) ≡ pos 32767
  pub weight_low : filtered (replicate 11 (neg 32768)) ≡ neg 32768
  pub pulse_ends : xMc (amplitude (pos 63)) (neg 32768 ∷ pos 32767 ∷ []) ≡ pos 0 ∷ pos 7 ∷ []

pub coding : Coding
unfolding opened
coding = record {
  input_bits = refl;
  offset_rounds = refl;
  emphasis_high = refl;
  emphasis_low = refl;
  scale_of_samples = refl;
  recursion_clips = refl;
  ratio = refl;
  ratio_below = refl;
  most_codes = refl;
  least_codes = refl;
  some_codes = refl;
  codes_round = refl;
  codes_round_down = refl;
  scale_of_d = refl;
  levels_met = refl;
  levels_passed = refl;
  level_unrounded = refl;
  gain_none = refl;
  gain_most = refl;
  gain_between = refl;
  residual_clips = refl;
  weight_rounds = refl;
  weight_high = refl;
  weight_low = refl;
  pulse_ends = refl;
}

pub record Decoding : Type 0 where
  pub least_ratios : ratios (replicate 8 (pos 0)) ≡ below (26214 ∷ 26214 ∷ 16384 ∷ 9012 ∷ 9832 ∷ 4916 ∷ 6554 ∷ 3278 ∷ [])
  pub most_ratios : ratios (above (63 ∷ 63 ∷ 31 ∷ 31 ∷ 15 ∷ 15 ∷ 7 ∷ 7 ∷ []))
      ≡ above (25394 ∷ 25394 ∷ 9012 ∷ 16384 ∷ 8190 ∷ 11468 ∷ 7206 ∷ 9718 ∷ [])
  pub stretch_lengths : map (λ t. t.0) stretches ≡ 13 ∷ 14 ∷ 13 ∷ 120 ∷ []
  pub interpolated : map (λ t. t.1 (neg 32768) (pos 32767)) stretches ≡ neg 16385 ∷ neg 1 ∷ pos 16382 ∷ pos 32767 ∷ []
  pub coefficient : map rp (above (11058 ∷ 11060 ∷ 20069 ∷ 20071 ∷ 32767 ∷ [])) ≡ above (22116 ∷ 22119 ∷ 31128 ∷ 31129 ∷ 32767 ∷ [])
  pub coefficient_below : map rp (below (1 ∷ 32768 ∷ [])) ≡ neg 2 ∷ neg 32767 ∷ []
  pub de_emphasis_high : (de_emphasis (pos 32767) (pos 32767)).1 ≡ pos 32767
  pub de_emphasis_low : (de_emphasis (neg 32768) (neg 32768)).1 ≡ neg 32768
  pub doubled : map srop (pos 20000 ∷ neg 20000 ∷ pos 1 ∷ neg 1 ∷ pos 5 ∷ []) ≡ pos 32760 ∷ neg 32768 ∷ pos 0 ∷ neg 8 ∷ pos 8 ∷ []

pub decoding : Decoding
unfolding opened
decoding = record {
  least_ratios = refl;
  most_ratios = refl;
  stretch_lengths = refl;
  interpolated = refl;
  coefficient = refl;
  coefficient_below = refl;
  de_emphasis_high = refl;
  de_emphasis_low = refl;
  doubled = refl;
}
