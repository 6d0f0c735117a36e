-- A frame, and the states of both ends: their lists have their lengths, and keep them.
use Rattle.std.specs.Prelude.{ℕ, ◌+◌, ◌≡◌, refl, true, leb, ℤ, length, take, drop, replicate}
use Rattle.std.proofs.Common.{◌∙◌, arith, length-append, length-take, length-drop, leb-true}
use mathlib.Core.List.{List, map, flatten}
use Rattle.std.proofs.lemmas.List.{length-map}
use Rattle.math_lists.specs.Tab.{zip_length}
use Rattle.math_lists.specs.Scan.{run_length}
use Rattle.math_lists.specs.Cut.{cut, cut_count}
use Rattle.math_lists.specs.Every.{every, every_so, every_map, every_pairs}
use Rattle.math_lists.specs.Lengths.{sized, sized_yes, sized_length, flatten_sized, cut_sized, pairs_length}
use Rattle.standard.specs.Tables.{LARc_widths}
use Rattle.standard.specs.Frame.{Subframe, Frame, sub_words, words, places, sub_widths, widths, valid, sub_received, received}
use Rattle.standard.specs.ShortTerm.{ratios}
use Rattle.standard.specs.Coder.{Coder, analysis, frame, coded}
use Rattle.standard.specs.Decoder.{Decoder, decoded}
use Rattle.standard.specs.House.{home_coder, home_decoder, sound_decoder}
use Rattle.law_lengths.specs.Analysis.{ratios_length, coefficients_length, coefficients_sized}
use Rattle.law_lengths.specs.Analysis.{analysis_codes_length, analysis_ratios_length, analysis_d_length, analysis_u_length}
use Rattle.law_lengths.specs.Subframes.{full, sub_steps_full, sub_steps_length}
use Rattle.law_lengths.specs.Decoding.{Start, sub_decodes_range, sub_decodes_length, sub_decodes_samples, synthesised_all_length}

-- ---- a frame and its codewords

-- eight LARc, and four sub-frames of thirteen pulses
pub record FrameSizes (f : Frame) : Type 0 where
  pub LARc : length f.LARc ≡ 8
  pub subframes : length f.subframes ≡ 4
  pub pulses : every full f.subframes ≡ true

-- a sub-frame of thirteen pulses is 17 codewords
pub sub_words_sized : (g : Subframe) → full g ≡ true → sized 17 (sub_words g) ≡ true
unfolding sub_words
sub_words_sized g e = sized_yes 17 (sub_words g) (omega (arith, sized_length 13 g.xMc e))

-- such a frame is 76
pub words_length : (f : Frame) → FrameSizes f → length (words f) ≡ 76
unfolding words
words_length f h =
    let parts = map sub_words f.subframes in
    let each : every (sized 17) parts ≡ true = rw every_map (every_so full _ sub_words_sized f.subframes h.pulses) in
    simp length-append (omega (arith, h, flatten_sized 17 parts each, length-map f.subframes sub_words))

-- of 76 codewords the valid bits are 76 codewords
pub valid_length : (c : List ℤ) → length c ≡ 76 → length (valid c) ≡ 76
unfolding valid widths sub_widths LARc_widths flatten
valid_length c h = zip_length _ widths c ∙ omega arith

-- and of 17 a sub-frame has thirteen pulses
sub_received_full : (c : List ℤ) → length c ≡ 17 → full (sub_received c) ≡ true
unfolding sub_received
sub_received_full c h = sized_yes 13 (drop 4 c) (simp length-drop (omega arith))

-- so 76 codewords, whatever they are, are received as such a frame
pub received_sizes : (c : List ℤ) → length c ≡ 76 → FrameSizes (received c)
unfolding received places every
received_sizes c h =
    record {
      LARc = simp length-take (omega (arith, valid_length c h));
      subframes = refl;
      pulses = rw every_map (every_so (λ p. leb (p + 17) 76) _ each places refl);
    }
  where
    each : (p : ℕ) → leb (p + 17) 76 ≡ true → full (sub_received (take 17 (drop p (valid c)))) ≡ true
    each p e =
        sub_received_full (take 17 (drop p (valid c)))
        (simp (length-take, length-drop) (omega (arith, valid_length c h, leb-true (p + 17) 76 e)))

-- ---- the coder

-- what the coder keeps in memory has its lengths
pub record CoderSizes (c : Coder) : Type 0 where
  pub LARpp : length c.LARpp ≡ 8
  pub u : length c.u ≡ 8
  pub dp : length c.dp ≡ 120

-- home has them
pub home_coder_sizes : CoderSizes home_coder
unfolding home_coder
home_coder_sizes = record { LARpp = refl; u = refl; dp = refl }

module _ (c : Coder) (s : List ℤ) where
  -- for 160 samples each sub-frame is coded from 40 samples of d
  pub parts_sized : length s ≡ 160 → every (sized 40) (cut (replicate 4 40) (analysis c s).d) ≡ true
  parts_sized h = cut_sized 4 40 (analysis c s).d (omega (arith, analysis_d_length c s))

  -- there are four sub-frames
  pub coded_subframes : length (coded c s).1.subframes ≡ 4
  unfolding coded
  coded_subframes = simp (run_length, cut_count)

  -- the frame has its sizes, whatever the coder and the samples are
  pub coded_frame_sizes : FrameSizes (frame (coded c s).1)
  unfolding coded frame
  coded_frame_sizes =
      record {
        LARc = analysis_codes_length c s;
        subframes = simp (length-map, coded_subframes);
        pulses = rw every_map (sub_steps_full c.dp _);
      }

  -- so it is 76 codewords
  pub coded_words_length : length (words (frame (coded c s).1)) ≡ 76
  coded_words_length = words_length (frame (coded c s).1) coded_frame_sizes

  -- the coder keeps its sizes, whatever the samples are
  pub coded_sizes : CoderSizes c → CoderSizes (coded c s).0
  unfolding coded
  coded_sizes h =
      record {
        LARpp = analysis_ratios_length c s;
        u = analysis_u_length c s h.LARpp h.u;
        dp = sub_steps_length c.dp _ h.dp;
      }

-- ---- the decoder

-- what the decoder keeps in memory has its lengths
pub record DecoderSizes (m : Decoder) : Type 0 where
  pub drp : length m.drp ≡ 120
  pub LARpp : length m.LARpp ≡ 8
  pub v : length m.v ≡ 8

-- home has them
pub home_decoder_sizes : DecoderSizes home_decoder
unfolding home_decoder
home_decoder_sizes = record { drp = refl; LARpp = refl; v = refl }

-- and its lag is from 40 to 120
pub home_decoder_sound : sound_decoder home_decoder ≡ true
unfolding home_decoder sound_decoder
home_decoder_sound = refl

module _ (m : Decoder) (f : Frame) (sound : sound_decoder m ≡ true) where
  -- what its first sub-frame starts from
  start : length m.drp ≡ 120 → Start (m.drp, m.nrp)
  unfolding sound_decoder
  start h = record { drp = h; nrp = sound }

  -- the lag stays from 40 to 120, whatever the frame is
  pub decoded_sound : sound_decoder (decoded m f).0 ≡ true
  unfolding decoded sound_decoder
  decoded_sound = sub_decodes_range (m.drp, m.nrp) f.subframes sound

  -- the decoder keeps its sizes
  pub decoded_sizes : DecoderSizes m → FrameSizes f → DecoderSizes (decoded m f).0
  unfolding decoded
  decoded_sizes h p =
      let each = coefficients_sized m.LARpp (ratios f.LARc) h.LARpp (ratios_length f.LARc) in
      record {
        drp = sub_decodes_length (m.drp, m.nrp) f.subframes (start h.drp) p.pulses;
        LARpp = ratios_length f.LARc;
        v = synthesised_all_length m.v _ h.v (every_pairs (sized 8) _ _ each);
      }

  -- and gives 160 samples
  pub decoded_length : length m.drp ≡ 120 → FrameSizes f → length (decoded m f).1 ≡ 160
  unfolding decoded
  decoded_length h p =
      simp (length-map, run_length, pairs_length, coefficients_length)
      (omega (arith, p, sub_decodes_samples (m.drp, m.nrp) f.subframes (start h) p.pulses))
