-- House rules, 'Samples and codewords': the sub-frames that are read from a frame's codewords, each from its own seventeen; and what
-- 4.3.1 and 4.3.2 make of them.
use Rattle.std.specs.Prelude.{◌≡◌, true, ℤ, length, take, drop}
use mathlib.Core.List.{List, ◌++◌, map, zip_with, flatten}
use Rattle.std.proofs.Common.{arith, length-drop}
use Rattle.standard.specs.Tables.{LARc_widths}
use Rattle.standard.specs.Frame.{Subframe, places, sub_widths, widths, valid, sub_received, received}
use Rattle.standard.specs.Decoder.{sub_decoded}
use Rattle.math_lists.specs.Scan.{run}
use Rattle.math_lists.specs.Tab.{zip_length, zip_take, zip_drop}
use Rattle.math_lists.specs.Lengths.{sized_yes}
use Rattle.law_lengths.specs.Subframes.{full}
use Rattle.law_fields.specs.Valid.{low_bits}

-- the sub-frame that seventeen codewords hold
unfoldable pub sub_frame : List ℤ → Subframe
sub_frame c = sub_received (zip_with low_bits sub_widths c)

-- it has thirteen pulses
pub sub_frame_full : (c : List ℤ) → length c ≡ 17 → full (sub_frame c) ≡ true
unfolding sub_frame sub_received sub_widths
sub_frame_full c h = sized_yes 13 (drop 4 (zip_with low_bits sub_widths c)) (simp (length-drop, zip_length) (omega arith))

-- the four of a frame
unfoldable pub sub_frames : List ℤ → List Subframe
sub_frames c = map (λ p. sub_frame (take 17 (drop p c))) places

-- and its ratios
unfoldable pub ratio_words : List ℤ → List ℤ
ratio_words c = zip_with low_bits LARc_widths (take 8 c)

-- they are the frame that is received
pub received_is : (c : List ℤ) → received c ≡ record { LARc = ratio_words c; subframes = sub_frames c }
unfolding received places valid sub_frame sub_frames ratio_words widths sub_widths LARc_widths flatten
received_is c = simp (zip_take, zip_drop)

-- ---- 4.3.1, 4.3.2 of what is received

-- a sub-frame: the history and the lag after it, and the 40 samples that it adds
unfoldable pub sub_reconstructed : List ℤ → ℤ → List ℤ → (List ℤ × ℤ) × List ℤ
sub_reconstructed drp nrp c = sub_decoded (drp, nrp) (sub_frame c)

-- and the four of a frame
unfoldable pub frame_reconstructed : List ℤ → ℤ → List ℤ → (List ℤ × ℤ) × List (List ℤ)
frame_reconstructed drp nrp c = run sub_decoded (drp, nrp) (sub_frames c)

-- the lag in use after a sub-frame, and the history drp with the 40 new samples after it
abbrev pub sub_lag : List ℤ → ℤ → List ℤ → ℤ
sub_lag drp nrp c = (sub_reconstructed drp nrp c).0.1

abbrev pub sub_extended : List ℤ → ℤ → List ℤ → List ℤ
sub_extended drp nrp c = drp ++ (sub_reconstructed drp nrp c).1

-- the lag in use after a frame, and the history drp with the 160 new samples after it
abbrev pub frame_lag : List ℤ → ℤ → List ℤ → ℤ
frame_lag drp nrp c = (frame_reconstructed drp nrp c).0.1

abbrev pub frame_extended : List ℤ → ℤ → List ℤ → List ℤ
frame_extended drp nrp c = drp ++ flatten (frame_reconstructed drp nrp c).1
