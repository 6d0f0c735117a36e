-- House rules, 'Refusals', for each call: exactly when it gives each number, and what a refusal returns.
use Rattle.std.specs.Prelude.{◌≡◌, List, map, ℕ, zero, suc, eqb, ℤ, length, replicate}
use Rattle.std.proofs.Math.Path.{refl}
use Rattle.std.proofs.Common.{◌∙◌}
use Rattle.std.proofs.Math.Option.{none, some}
use Rattle.math_lists.specs.Every.{every}
use Rattle.standard.specs.Coder.{Coder, coded, frame}
use Rattle.standard.specs.Frame.{words, received}
use Rattle.standard.specs.Decoder.{Decoder, decoded}
use Rattle.standard.specs.Packed.{packed, unpacked, spare}
use Rattle.standard.specs.Alaw.{alaw_octets}
use Rattle.standard.specs.House.{mark, sound_coder, sound_decoder, fits, encode_refusal, decode_refusal, decode_alaw_refusal, pack_refusal, unpack_refusal}
use Rattle.standard.specs.Answers.{answer, Encoded, encode, Decoded, decode, DecodedOctets, decode_alaw, Packed, pack, Unpacked, unpack}
use Rattle.law_refusals.specs.Rows.{Exactly, three, answer_number}

module _ (c : Coder) (s w : List ℤ) where
  -- 1, 2 and 3 exactly when the samples are not 160, the codewords are not 76, the state is unsound; the lowest number of several
  pub encode_exactly : Exactly (encode_refusal c s w) 160 76 1 2 3 s w (sound_coder c)
  unfolding encode_refusal
  encode_exactly = three 160 76 0 1 2 s w (sound_coder c)

  -- the number answered is this one
  pub encode_number : (encode c s w).number ≡ encode_refusal c s w
  unfolding encode
  encode_number = answer_number (λ (r : Encoded). r.number) (encode_refusal c s w) refl (λ k. refl)

  -- what is not refused is coded
  pub encode_done : encode_refusal c s w ≡ 0 → let t = coded c s in
      encode c s w
      ≡ record {
        number = 0;
        state = t.0;
        ending = some t.1.ending;
        marks = map (λ x. some (mark x)) t.1.subframes;
        codewords = words (frame t.1);
      }
  unfolding encode answer
  encode_done e = rw e

  -- refused: the state as it was passed in, no ending, no marks, the codewords that were there before
  pub encode_refused : (n : ℕ) → encode_refusal c s w ≡ suc n
      → encode c s w ≡ record { number = suc n; state = c; ending = none; marks = replicate 4 none; codewords = w }
  unfolding encode answer
  encode_refused n e = rw e

module _ (m : Decoder) (w s : List ℤ) where
  -- the same for decode
  pub decode_exactly : Exactly (decode_refusal m w s) 160 76 1 2 3 s w (sound_decoder m)
  unfolding decode_refusal
  decode_exactly = three 160 76 0 1 2 s w (sound_decoder m)

  -- the number answered is this one
  pub decode_number : (decode m w s).number ≡ decode_refusal m w s
  unfolding decode
  decode_number = answer_number (λ (r : Decoded). r.number) (decode_refusal m w s) refl (λ k. refl)

  -- what is not refused is decoded
  pub decode_done : decode_refusal m w s ≡ 0 → let t = decoded m (received w) in
      decode m w s ≡ record { number = 0; state = t.0; samples = t.1 }
  unfolding decode answer
  decode_done e = rw e

  -- refused: the state as it was passed in, the samples that were there before
  pub decode_refused : (n : ℕ) → decode_refusal m w s ≡ suc n → decode m w s ≡ record { number = suc n; state = m; samples = s }
  unfolding decode answer
  decode_refused n e = rw e

module _ (m : Decoder) (w : List ℤ) (o : List ℕ) where
  -- and for decode_alaw, where number 1 counts octets
  pub decode_alaw_exactly : Exactly (decode_alaw_refusal m w o) 160 76 1 2 3 o w (sound_decoder m)
  unfolding decode_alaw_refusal
  decode_alaw_exactly = three 160 76 0 1 2 o w (sound_decoder m)

  -- for as many octets as samples it gives the number that decode gives
  pub decode_alaw_like : (s : List ℤ) → length o ≡ length s → decode_alaw_refusal m w o ≡ decode_refusal m w s
  unfolding decode_alaw_refusal decode_refusal
  decode_alaw_like s l = rw l

  -- the number answered is this one
  pub decode_alaw_number : (decode_alaw m w o).number ≡ decode_alaw_refusal m w o
  unfolding decode_alaw
  decode_alaw_number = answer_number (λ (r : DecodedOctets). r.number) (decode_alaw_refusal m w o) refl (λ k. refl)

  -- what is not refused is decoded
  pub decode_alaw_done : decode_alaw_refusal m w o ≡ 0 → let t = decoded m (received w) in
      decode_alaw m w o ≡ record { number = 0; state = t.0; octets = alaw_octets t.1 }
  unfolding decode_alaw answer
  decode_alaw_done e = rw e

  -- refused: the state as it was passed in, the octets that were there before
  pub decode_alaw_refused : (n : ℕ) → decode_alaw_refusal m w o ≡ suc n
      → decode_alaw m w o ≡ record { number = suc n; state = m; octets = o }
  unfolding decode_alaw answer
  decode_alaw_refused n e = rw e

  -- number and state are those of decode for as many samples
  pub decode_alaw_as : (s : List ℤ) → length o ≡ length s
      → ((decode_alaw m w o).number ≡ (decode m w s).number) × ((decode_alaw m w o).state ≡ (decode m w s).state)
  decode_alaw_as s l = by_number (decode_refusal m w s) refl
    where
      by_number : (n : ℕ) → decode_refusal m w s ≡ n
          → ((decode_alaw m w o).number ≡ (decode m w s).number) × ((decode_alaw m w o).state ≡ (decode m w s).state)
      by_number zero e = rw (decode_alaw_done (decode_alaw_like s l ∙ e), decode_done m w s e) (refl, refl)
      by_number (suc n) e = rw (decode_alaw_refused n (decode_alaw_like s l ∙ e), decode_refused m w s n e) (refl, refl)

module _ (c : List ℤ) (b : List ℕ) where
  -- 2, 4 and 5 exactly when the codewords are not 76, the bytes are not 33, a codeword does not fit its field
  pub pack_exactly : Exactly (pack_refusal c b) 76 33 2 4 5 c b (fits c)
  unfolding pack_refusal
  pack_exactly = three 76 33 1 3 4 c b (fits c)

  -- the number answered is this one
  pub pack_number : (pack c b).number ≡ pack_refusal c b
  unfolding pack
  pack_number = answer_number (λ (r : Packed). r.number) (pack_refusal c b) refl (λ k. refl)

  -- what is not refused is packed
  pub pack_done : pack_refusal c b ≡ 0 → pack c b ≡ record { number = 0; bytes = packed c }
  unfolding pack answer
  pack_done e = rw e

  -- refused: the bytes that were there before
  pub pack_refused : (n : ℕ) → pack_refusal c b ≡ suc n → pack c b ≡ record { number = suc n; bytes = b }
  unfolding pack answer
  pack_refused n e = rw e

module _ (b : List ℕ) (w : List ℤ) where
  -- 2, 4 and 6 exactly when the codewords are not 76, the bytes are not 33, a spare bit is not 0
  pub unpack_exactly : Exactly (unpack_refusal b w) 76 33 2 4 6 w b (every (eqb 0) (spare b))
  unfolding unpack_refusal
  unpack_exactly = three 76 33 1 3 5 w b (every (eqb 0) (spare b))

  -- the number answered is this one
  pub unpack_number : (unpack b w).number ≡ unpack_refusal b w
  unfolding unpack
  unpack_number = answer_number (λ (r : Unpacked). r.number) (unpack_refusal b w) refl (λ k. refl)

  -- what is not refused is unpacked
  pub unpack_done : unpack_refusal b w ≡ 0 → unpack b w ≡ record { number = 0; codewords = unpacked b }
  unfolding unpack answer
  unpack_done e = rw e

  -- refused: the codewords that were there before
  pub unpack_refused : (n : ℕ) → unpack_refusal b w ≡ suc n → unpack b w ≡ record { number = suc n; codewords = w }
  unfolding unpack answer
  unpack_refused n e = rw e
