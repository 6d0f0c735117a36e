-- What holds of both ends at every moment, whether a frame waits to be handed over or not; and that each call keeps it.
use Prim.Native.Nat.{ℕ, zero, suc}
use Rattle.std.specs.Prelude.{◌≡◌, refl, true, List, map, ℤ}
use Rattle.std.proofs.Common.{sym, ap, ◌∙◌}
use Rattle.std.proofs.Math.Option
use Rattle.std.proofs.Math.Option.{Option, none, some, some-injective, none-ne-some}
use Rattle.math_lists.specs.Every.{every, every_map}
use Rattle.standard.specs.Frame.{words, valid, received}
use Rattle.standard.specs.LongTerm.{is_lag}
use Rattle.standard.specs.Coder.{Coder, frame, coded}
use Rattle.standard.specs.Decoder.{Decoder, decoded}
use Rattle.standard.specs.House.{home_coder, home_decoder, sound_coder, fits, encode_refusal, decode_refusal}
use Rattle.standard.specs.Answers.{answer, encode, decode}
use Rattle.law_arithmetic.specs.Within.{word}
use Rattle.law_refusals.specs.Calls.{encode_exactly, encode_number, encode_done, encode_refused, decode_done, decode_refused}
use Rattle.law_fields.specs.Fields.{coded_fits, coded_lags}
use Rattle.law_fields.specs.Valid.{received_valid, received_coded}
use Rattle.law_soundness.specs.States.{home_coder_sound, coded_sound}
use Rattle.law_limits.specs.Words.{Carried, home_carried, coded_carried}
use Rattle.law_limits.specs.Sums.{SixSums}
use Rattle.law_limits.proofs.Whole.{six_sums}
use Rattle.law_ends.specs.Agree.{Agree, same_words}

-- the decoder, once it has decoded the frame that waits
unfoldable pub caught_up : Decoder → Option (List ℤ) → Decoder
caught_up m none = m
caught_up m (some sent) = (decoded m (received sent)).0

-- the coder is as its types say and sound, and it agrees with the decoder that has decoded the frame that waits
pub record Holds (c : Coder) (m : Decoder) (waiting : Option (List ℤ)) : Type 0 where
  pub carried : Carried c
  pub sound : sound_coder c ≡ true
  pub agree : Agree c (caught_up m waiting)

-- it holds at home, where no frame waits
pub home_holds : Holds home_coder home_decoder none
unfolding caught_up home_coder home_decoder
home_holds = record { carried = home_carried; sound = home_coder_sound; agree = record { history = refl; ratios = refl } }

-- ---- encode

module _ (c : Coder) (m : Decoder) (waiting : Option (List ℤ)) (samples codewords : List ℤ)
    (h : Holds c m waiting) (w : every word samples ≡ true) where
  -- a frame that is coded waits from then on
  coded_holds : waiting ≡ none → Holds (coded c samples).0 m (some (words (frame (coded c samples).1)))
  unfolding caught_up
  coded_holds e =
      record {
        carried = coded_carried c samples h.carried;
        sound = coded_sound c samples h.sound w;
        agree = same_words c m samples (rw e at h.agree);
      }

  encode_keeps : (n : ℕ) → encode_refusal c samples codewords ≡ n → let r = encode c samples codewords in
      (r.number ≡ 0 → waiting ≡ none) → Holds r.state m (answer r.number (some r.codewords) (λ _. waiting))
  unfolding answer
  encode_keeps zero e k =
      let d = encode_done c samples codewords e in
      rw d (coded_holds (k (rw d refl)))
  encode_keeps (suc n) e k = rw (encode_refused c samples codewords n e) h

  -- a call of encode, refused or not
  pub encode_holds : let r = encode c samples codewords in
      (r.number ≡ 0 → waiting ≡ none) → Holds r.state m (answer r.number (some r.codewords) (λ _. waiting))
  encode_holds = encode_keeps (encode_refusal c samples codewords) refl

  -- and what is shown of one that is not refused
  pub encode_shows : let r = encode c samples codewords in
      r.number ≡ 0
      → (fits r.codewords ≡ true) × (every is_lag (map (λ f. f.Nc) (received r.codewords).subframes) ≡ true) × SixSums c samples
  encode_shows n =
      let e = sym (encode_number c samples codewords) ∙ n in
      let (l, _, _) = (encode_exactly c samples codewords).allowed e in
      rw (encode_done c samples codewords e, received_coded c samples, every_map)
      (coded_fits c samples, coded_lags c samples, six_sums c samples h.carried h.sound l w)

-- ---- decode

-- the decoder that has decoded the waiting frame is the one that decodes the frame handed over, whatever bits stand beside the valid ones
caught : (m : Decoder) (waiting : Option (List ℤ)) (codewords : List ℤ) → Option.map valid waiting ≡ some (valid codewords)
    → caught_up m waiting ≡ (decoded m (received codewords)).0
unfolding caught_up
caught m none codewords e = absurd (none-ne-some (valid codewords) e)
caught m (some sent) codewords e =
    ap (λ f. (decoded m f).0) (received_valid sent codewords (some-injective (valid sent) (valid codewords) e))

module _ (c : Coder) (m : Decoder) (waiting : Option (List ℤ)) (codewords samples : List ℤ) (h : Holds c m waiting) where
  decode_keeps : (n : ℕ) → decode_refusal m codewords samples ≡ n → let r = decode m codewords samples in
      (r.number ≡ 0 → Option.map valid waiting ≡ some (valid codewords)) → Holds c r.state (answer r.number none (λ _. waiting))
  unfolding answer caught_up
  decode_keeps zero e k =
      let d = decode_done m codewords samples e in
      rw d (record { carried = h.carried; sound = h.sound; agree = rw (caught m waiting codewords (k (rw d refl))) at h.agree })
  decode_keeps (suc n) e k = rw (decode_refused m codewords samples n e) h

  -- a call of decode, refused or not
  pub decode_holds : let r = decode m codewords samples in
      (r.number ≡ 0 → Option.map valid waiting ≡ some (valid codewords)) → Holds c r.state (answer r.number none (λ _. waiting))
  decode_holds = decode_keeps (decode_refusal m codewords samples) refl

  -- and what is shown of one that is not refused
  pub decode_shows : let r = decode m codewords samples in
      (r.number ≡ 0 → Option.map valid waiting ≡ some (valid codewords)) → r.number ≡ 0 → Agree c r.state
  unfolding answer caught_up
  decode_shows k n = rw n at (decode_holds k).agree
