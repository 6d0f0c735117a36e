-- Sound states stay sound: over a frame, over any number of frames, and over the calls.
use Rattle.std.specs.Prelude.{◌≡◌, refl, true, List, ℤ, length}
use Rattle.math_lists.specs.Scan.{run, run_keeps, run_same}
use Rattle.math_lists.specs.Every.{every, every_map, every_so, every_all}
use Rattle.standard.specs.Frame.{Frame, received}
use Rattle.standard.specs.Preprocessing.{downscaled, Offset, offset}
use Rattle.standard.specs.Coder.{Coder, analysis, coded}
use Rattle.standard.specs.Decoder.{Decoder, decoded}
use Rattle.standard.specs.House.{home_coder, home_decoder, sound_coder, sound_decoder, encode_refusal, decode_refusal}
use Rattle.standard.specs.Answers.{Encoded, encode, Decoded, decode}
use Rattle.law_arithmetic.specs.Within.{word, word_is}
use Rattle.law_refusals.specs.Rows.{by_answer}
use Rattle.law_refusals.specs.Calls.{encode_exactly, decode_exactly}
use Rattle.law_lengths.specs.Frames.{home_decoder_sound, decoded_sound}
use Rattle.law_soundness.specs.Ranges.{so_range, sof_range}
use Rattle.law_soundness.specs.Offset.{downscaled_in, sound_offset, plain_offset, offset_plain, offset_sound, offset_in}

-- ---- 4.2.1 and 4.2.2 over a frame

-- words are downscaled to the range of so
pub downscaled_range : (s : List ℤ) → every word s ≡ true → every so_range (downscaled s) ≡ true
unfolding downscaled
downscaled_range s h = rw every_map (every_so word _ (λ x e. downscaled_in x (word_is x e)) s h)

module _ (m : Offset) (s : List ℤ) (h : sound_offset m ≡ true) (w : every word s ≡ true) where
  -- both of the laws below
  kept : (sound_offset (run offset m (downscaled s)).0 ≡ true) × (every sof_range (run offset m (downscaled s)).1 ≡ true)
  kept =
      run_keeps offset (λ m. sound_offset m ≡ true) so_range sof_range (λ m so h k. (offset_sound m so h k, offset_in m so h k))
      m (downscaled s) h (downscaled_range s w)

  -- the state stays sound
  pub offset_all_sound : sound_offset (run offset m (downscaled s)).0 ≡ true
  offset_all_sound = kept.0

  -- and each sof is from −32764 to 32764
  pub offset_all_in : every sof_range (run offset m (downscaled s)).1 ≡ true
  offset_all_in = kept.1

-- so the filter does not saturate and loses no bit over a frame
pub offset_all_plain : (m : Offset) (s : List ℤ) → sound_offset m ≡ true → every word s ≡ true
    → run offset m (downscaled s) ≡ run plain_offset m (downscaled s)
offset_all_plain m s h w =
    run_same offset plain_offset (λ m. sound_offset m ≡ true) so_range (λ m so h k. (offset_sound m so h k, offset_plain m so h k))
    m (downscaled s) h (downscaled_range s w)

-- ---- the coder

-- home is sound
pub home_coder_sound : sound_coder home_coder ≡ true
unfolding home_coder sound_coder
home_coder_sound = refl

-- a sound coder that has coded words is still sound
pub coded_sound : (c : Coder) (s : List ℤ) → sound_coder c ≡ true → every word s ≡ true → sound_coder (coded c s).0 ≡ true
unfolding sound_coder coded analysis
coded_sound c s h w = offset_all_sound (record { z1 = c.z1; L_z2 = c.L_z2 }) s h w

-- and so after any number of frames
coded_all_sound : (c : Coder) (frames : List (List ℤ))
    → sound_coder c ≡ true → every (every word) frames ≡ true → sound_coder (run coded c frames).0 ≡ true
coded_all_sound c frames h w =
    (run_keeps coded (λ c. sound_coder c ≡ true) (every word) (λ t. true) (λ c s h w. (coded_sound c s h w, refl)) c frames h w).0

-- the state that encode returns is sound too, whether the call is refused or not
pub encode_sound : (c : Coder) (s w : List ℤ) → sound_coder c ≡ true → every word s ≡ true → sound_coder (encode c s w).state ≡ true
unfolding encode
encode_sound c s w h e =
    by_answer (λ (t : Encoded). sound_coder t.state ≡ true) (encode_refusal c s w) (λ _. coded_sound c s h e) (λ _. h)

module _ (frames : List (List ℤ)) (h : every (every word) frames ≡ true) where
  -- every coder that came from home by frames of words is sound
  pub coded_from_home : sound_coder (run coded home_coder frames).0 ≡ true
  coded_from_home = coded_all_sound home_coder frames home_coder_sound h

  -- so encode never refuses it for its state
  pub encode_from_home : (s w : List ℤ) → length s ≡ 160 → length w ≡ 76 → encode_refusal (run coded home_coder frames).0 s w ≡ 0
  encode_from_home s w l k = (encode_exactly (run coded home_coder frames).0 s w).allows l k coded_from_home

-- ---- the decoder

-- a sound decoder is sound after any number of frames, whatever they are
decoded_all_sound : (m : Decoder) (frames : List Frame) → sound_decoder m ≡ true → sound_decoder (run decoded m frames).0 ≡ true
decoded_all_sound m frames h =
    (run_keeps decoded (λ m. sound_decoder m ≡ true) (λ f. true) (λ s. true) (λ m f h _. (decoded_sound m f h, refl))
    m frames h (every_all _ (λ f. refl) frames)).0

-- the state that decode returns is sound too, whether the call is refused or not
pub decode_sound : (m : Decoder) (w s : List ℤ) → sound_decoder m ≡ true → sound_decoder (decode m w s).state ≡ true
unfolding decode
decode_sound m w s h =
    by_answer (λ (t : Decoded). sound_decoder t.state ≡ true) (decode_refusal m w s) (λ _. decoded_sound m (received w) h) (λ _. h)

module _ (frames : List Frame) where
  -- every decoder that came from home is sound
  decoded_from_home : sound_decoder (run decoded home_decoder frames).0 ≡ true
  decoded_from_home = decoded_all_sound home_decoder frames home_decoder_sound

  -- so decode never refuses it for its state
  pub decode_from_home : (w s : List ℤ) → length s ≡ 160 → length w ≡ 76 → decode_refusal (run decoded home_decoder frames).0 w s ≡ 0
  decode_from_home w s l k = (decode_exactly (run decoded home_decoder frames).0 w s).allows l k decoded_from_home
