-- Demands 1 and 2 (house rules, 'What counts as shown'), for any outcome that keeps a call's promise; demand 3 is `together`. That every
-- call ends has no statement here: the check itself refuses a function that might not end.
use Rattle.std.specs.Prelude.{ℕ, suc, ◌<◌, ◌≡◌, List, map, eqb, ℤ, length}
use Rattle.std.proofs.Common.{sym, ◌∙◌}
use Rattle.std.proofs.Math.Path.{ap}
use Rattle.std.proofs.Math.Option.{Option, none, some}
use Rattle.std.proofs.Math.ListN.{get_or}
use Rattle.math_lists.specs.Every.{every}
use Rattle.math_lists.specs.Tab.{map_at}
use Rattle.standard.specs.Frame.{Subframe, words, received}
use Rattle.standard.specs.Coder.{Coder, Subcoded, sub_coded, coded, frame}
use Rattle.standard.specs.Decoder as standard
use Rattle.standard.specs.Packed.{packed, unpacked, spare}
use Rattle.standard.specs.Alaw.{alaw_samples, alaw_octets}
use Rattle.standard.specs.House.{sound_coder, sound_decoder, fits, decode_alaw_refusal, pack_refusal, unpack_refusal}
use Rattle.standard.specs.House as house
use Rattle.law_refusals.specs.Rows.{Exactly, exactly_as, answer_done}
use Rattle.law_refusals.specs.Calls.{encode_exactly, encode_done, decode_exactly, decode_done, decode_alaw_exactly, decode_alaw_number, decode_alaw_done}
use Rattle.law_refusals.specs.Calls.{pack_exactly, pack_number, pack_done, unpack_exactly, unpack_number, unpack_done}
use Rattle.law_lengths.specs.Frames.{coded_subframes}
use Rattle.law_fields.specs.Valid.{received_coded}
use Rattle.law_fields.specs.Marks.{Told, told}
use Rattle.law_limits.specs.Signals.{part, history, subframe_is}
use Rattle.pcm_alaw.specs.Facts.{samples_length}
use Rattle.encoder.specs.declared.Encoder.{Encoder}
use Rattle.encoder.specs.Promise.{coder, Encodes}
use Rattle.encoder.specs.Promise as encoder
use Rattle.encoder.specs.Calls as encoder-calls
use Rattle.decoder.specs.declared.Decoder.{Decoder}
use Rattle.decoder.specs.Promise.{memory, Decodes, DecodesAlaw}
use Rattle.decoder.specs.Promise as decoder
use Rattle.decoder.specs.Calls as decoder-calls
use Rattle.packing.specs.Promise.{Packs, packing_refused, Unpacks, unpacking_refused}

-- ---- encode

-- house rules, 'Marks': sub-frame i of a frame, counted from 0, has a mark. The mark tells what the search found for its 40 samples of d in
-- the history before it, and what that means for its codewords as they are received
abbrev pub Marked : Coder → List ℤ → List (Option house.Mark) → List ℤ → ℕ → Type 0
Marked c samples ms left i =
    (m : house.Mark) × (get_or ms i none ≡ some m)
    × ((z : Subframe) → Told m (history c samples i) (part c samples i) (get_or (received left).subframes i z))

-- a value g of each sub-frame of a frame, at sub-frame i
read_at : (c : Coder) (samples : List ℤ) (i : ℕ) → i < 4 → {B : Type 0} (g : Subcoded → B) (z : B)
    → get_or (map g (coded c samples).1.subframes) i z ≡ g (sub_coded (history c samples i) (part c samples i))
read_at c samples i l g z =
    let s = sub_coded (history c samples i) (part c samples i) in
    let n : i < length (coded c samples).1.subframes = rw (coded_subframes c samples) l in
    map_at g (coded c samples).1.subframes i s z n ∙ ap g (subframe_is c samples i s l)

module _ (e : Encoder) (samples lent : List ℤ) (a : encoder.Answer) (left : List ℤ) (p : Encodes e samples lent a left) where
  -- demand 1: 1, 2 and 3 exactly when the house rules say ('Refusals'), the lowest of several, and 0 exactly when nothing is wrong
  pub encode_refuses : Exactly (encoder.number a) 160 76 1 2 3 samples lent (sound_coder (coder e))
  encode_refuses = rw (encoder-calls.number_is e samples lent a left p) (encode_exactly (coder e) samples lent)

  -- a refusal returns the state as it was, no ending and no marks, and writes nothing
  pub encode_hands_back : (n : ℕ) → encoder.number a ≡ suc n → (a ≡ encoder.refused (suc n) e) × (left ≡ lent)
  encode_hands_back n h = encoder.one_refusal e samples lent n (sym (encoder-calls.number_is e samples lent a left p) ∙ h) a left p

  -- demand 2: otherwise the state, the 76 codewords, the ending and the marks are those of the definitions (4.2)
  pub encode_equals : encoder.number a ≡ 0 → let t = coded (coder e) samples in
      (coder (encoder.state a) ≡ t.0) × (left ≡ words (frame t.1))
      × (encoder.ending a ≡ some t.1.ending) × (encoder.marks a ≡ map (λ s. some (house.mark s)) t.1.subframes)
  encode_equals h =
      let d = encode_done (coder e) samples lent (sym (encoder-calls.number_is e samples lent a left p) ∙ h) in
      (rw d at p.state, rw d at p.codewords, rw d at p.ending, rw d at p.marks)

  -- each mark tells what was measured
  pub encode_marks : encoder.number a ≡ 0 → (i : ℕ) → i < 4 → Marked (coder e) samples (encoder.marks a) left i
  unfolding frame
  encode_marks h i l =
      let dp = history (coder e) samples i in
      let d = part (coder e) samples i in
      let (_, w, _, ms) = encode_equals h in
      let frames : received left ≡ frame (coded (coder e) samples).1 = ap received w ∙ received_coded (coder e) samples in
      let sent : (z : Subframe) → get_or (received left).subframes i z ≡ (sub_coded dp d).codes
      = λ z. ap (λ f. get_or f.subframes i z) frames ∙ read_at (coder e) samples i l (λ s. s.codes) z
      in
      let mark = ap (λ x. get_or x i none) ms ∙ read_at (coder e) samples i l (λ s. some (house.mark s)) none in
      (house.mark (sub_coded dp d), mark, λ z. rw (sent z) (told dp d))

-- encode_alaw: the same over the samples that the octets stand for; number 1 counts octets
module _ (e : Encoder) (octets : List ℕ) (lent : List ℤ) (a : encoder.Answer) (left : List ℤ)
    (p : Encodes e (alaw_samples octets) lent a left) where
  pub encode_alaw_refuses : Exactly (encoder.number a) 160 76 1 2 3 octets lent (sound_coder (coder e))
  encode_alaw_refuses =
      exactly_as (encoder.number a) 160 76 1 2 3 (alaw_samples octets) octets lent _ (sym (samples_length octets))
      (encode_refuses e (alaw_samples octets) lent a left p)

  pub encode_alaw_hands_back : (n : ℕ) → encoder.number a ≡ suc n → (a ≡ encoder.refused (suc n) e) × (left ≡ lent)
  encode_alaw_hands_back = encode_hands_back e (alaw_samples octets) lent a left p

  pub encode_alaw_equals : encoder.number a ≡ 0 → let t = coded (coder e) (alaw_samples octets) in
      (coder (encoder.state a) ≡ t.0) × (left ≡ words (frame t.1))
      × (encoder.ending a ≡ some t.1.ending) × (encoder.marks a ≡ map (λ s. some (house.mark s)) t.1.subframes)
  encode_alaw_equals = encode_equals e (alaw_samples octets) lent a left p

  pub encode_alaw_marks : encoder.number a ≡ 0 → (i : ℕ) → i < 4 → Marked (coder e) (alaw_samples octets) (encoder.marks a) left i
  encode_alaw_marks = encode_marks e (alaw_samples octets) lent a left p

-- ---- decode

module _ (m : Decoder) (codewords lent : List ℤ) (a : decoder.Answer) (left : List ℤ) (p : Decodes m codewords lent a left) where
  -- demand 1
  pub decode_refuses : Exactly (decoder.number a) 160 76 1 2 3 lent codewords (sound_decoder (memory m))
  decode_refuses = rw (decoder-calls.number_is m codewords lent a left p) (decode_exactly (memory m) codewords lent)

  pub decode_hands_back : (n : ℕ) → decoder.number a ≡ suc n → (a ≡ decoder.refused (suc n) m) × (left ≡ lent)
  decode_hands_back n h = decoder.one_refusal m codewords lent n (sym (decoder-calls.number_is m codewords lent a left p) ∙ h) a left p

  -- demand 2: the state and the 160 samples are those of 4.3
  pub decode_equals : decoder.number a ≡ 0 → let t = standard.decoded (memory m) (received codewords) in
      (memory (decoder.state a) ≡ t.0) × (left ≡ t.1)
  decode_equals h =
      let d = decode_done (memory m) codewords lent (sym (decoder-calls.number_is m codewords lent a left p) ∙ h) in
      (rw d at p.state, rw d at p.samples)

module _ (m : Decoder) (codewords : List ℤ) (lent : List ℕ) (a : decoder.Answer) (left : List ℕ)
    (p : DecodesAlaw m codewords lent a left) where
  is_decode_alaw's : decoder.number a ≡ decode_alaw_refusal (memory m) codewords lent
  is_decode_alaw's = p.number ∙ decode_alaw_number (memory m) codewords lent

  -- demand 1, where number 1 counts octets
  pub decode_alaw_refuses : Exactly (decoder.number a) 160 76 1 2 3 lent codewords (sound_decoder (memory m))
  decode_alaw_refuses = rw is_decode_alaw's (decode_alaw_exactly (memory m) codewords lent)

  pub decode_alaw_hands_back : (n : ℕ) → decoder.number a ≡ suc n → (a ≡ decoder.refused (suc n) m) × (left ≡ lent)
  decode_alaw_hands_back n h = decoder.one_octets_refusal m codewords lent n (sym is_decode_alaw's ∙ h) a left p

  -- demand 2: the state is 4.3's, the octets are those of 4.3's samples
  pub decode_alaw_equals : decoder.number a ≡ 0 → let t = standard.decoded (memory m) (received codewords) in
      (memory (decoder.state a) ≡ t.0) × (left ≡ alaw_octets t.1)
  decode_alaw_equals h =
      let d = decode_alaw_done (memory m) codewords lent (sym is_decode_alaw's ∙ h) in
      (rw d at p.state, rw d at p.octets)

  -- the two decodes agree: from the same state and frame, with as many octets as samples, they give the same answer, and the octets are
  -- those of the samples
  pub octets_of_samples : (samples : List ℤ) (b : decoder.Answer) (heard : List ℤ)
      → length lent ≡ length samples → Decodes m codewords samples b heard
      → (a ≡ b) × (decoder.number a ≡ 0 → left ≡ alaw_octets heard)
  octets_of_samples samples b heard l q =
      let (same, all) = decoder.one_octets m codewords lent a b left _ p (decoder.octets_keep m codewords samples b heard q lent l) in
      (same, λ n. all ∙ answer_done (decoder.number b) (alaw_octets heard) (λ _. lent) (rw same at n))

-- ---- pack and unpack

module _ (codewords : List ℤ) (lent : List ℕ) (n : ℕ) (left : List ℕ) (p : Packs codewords lent n left) where
  is_pack's : n ≡ pack_refusal codewords lent
  is_pack's = p.number ∙ pack_number codewords lent

  -- demand 1
  pub pack_refuses : Exactly n 76 33 2 4 5 codewords lent (fits codewords)
  pack_refuses = rw is_pack's (pack_exactly codewords lent)

  pub pack_hands_back : (k : ℕ) → n ≡ suc k → left ≡ lent
  pack_hands_back k h = (packing_refused codewords lent k n left (sym is_pack's ∙ h) p).1

  -- demand 2: the 33 bytes are those of table 1.1
  pub pack_equals : n ≡ 0 → left ≡ packed codewords
  pack_equals h = rw (pack_done codewords lent (sym is_pack's ∙ h)) at p.bytes

module _ (bytes : List ℕ) (lent : List ℤ) (n : ℕ) (left : List ℤ) (p : Unpacks bytes lent n left) where
  is_unpack's : n ≡ unpack_refusal bytes lent
  is_unpack's = p.number ∙ unpack_number bytes lent

  -- demand 1
  pub unpack_refuses : Exactly n 76 33 2 4 6 lent bytes (every (eqb 0) (spare bytes))
  unpack_refuses = rw is_unpack's (unpack_exactly bytes lent)

  pub unpack_hands_back : (k : ℕ) → n ≡ suc k → left ≡ lent
  unpack_hands_back k h = (unpacking_refused bytes lent k n left (sym is_unpack's ∙ h) p).1

  -- demand 2
  pub unpack_equals : n ≡ 0 → left ≡ unpacked bytes
  unpack_equals h = rw (unpack_done bytes lent (sym is_unpack's ∙ h)) at p.codewords
