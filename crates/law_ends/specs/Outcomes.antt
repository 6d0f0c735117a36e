-- Each promise can be kept, whatever is passed in: the answer of the definitions, written in the types of the code, keeps it.
use Rattle.std.specs.Prelude.{ℕ, zero, suc, ◌≡◌, Bool, true, List, [], ◌∷◌, map, ℤ, Ok}
use Rattle.std.proofs.Common.{ap}
use Rattle.std.proofs.Math.Path.{refl}
use Rattle.std.proofs.Math.Option.{some}
use Rattle.math_lists.specs.Every.{every, every_cons}
use Rattle.standard.specs.Lpc as lpc
use Rattle.standard.specs.Alaw.{alaw_samples}
use Rattle.standard.specs.Frame.{received}
use Rattle.standard.specs.Coder.{Subcoded, coded}
use Rattle.standard.specs.Decoder.{decoded as heard}
use Rattle.standard.specs.House as house
use Rattle.standard.specs.House.{encode_refusal, decode_refusal, decode_alaw_refusal}
use Rattle.standard.specs.Answers as answers
use Rattle.standard.specs.Answers.{answer}
use Rattle.law_arithmetic.specs.Within.{word}
use Rattle.law_refusals.specs.Calls.{encode_done, encode_refused, decode_done, decode_refused, decode_alaw_done, decode_alaw_refused}
use Rattle.refusals.specs.Numbers as refusals
use Rattle.refusals.specs.Numbers.{number_of, refusal_of}
use Rattle.lpc_reflection.specs.Promise.{ended}
use Rattle.encoder.specs.declared.Encoder.{Encoder}
use Rattle.encoder.specs.declared.Encoded.{Encoded}
use Rattle.encoder.specs.Promise as encoder
use Rattle.encoder.specs.Promise.{coder, mark, Encodes, encoder_of, ending_of, mark_of, marks_of}
use Rattle.decoder.specs.declared.Decoder.{Decoder}
use Rattle.decoder.specs.Promise as decoder
use Rattle.decoder.specs.Promise.{memory, Decodes, DecodesAlaw, decoder_of}
use Rattle.law_ends.specs.Together.{Call, encodes, encodes_alaw, decodes, decodes_alaw, Ends, after, Made, Along}

-- all that an answer is read by, to be unfolded together
unfoldable pub answered : Unit {0}
unfolding number_of refusals.number refusal_of encoder.state encoder.refused decoder.state decoder.refused
answered = tt

-- ---- encode

-- an ending of the definitions, written in the type of the code, stands for the same ending
ending_stands : (e : lpc.Ending) → ended (ending_of e) ≡ e
unfolding ended
ending_stands lpc.silent = refl
ending_stands (lpc.stopped n) = refl
ending_stands lpc.complete = refl

-- so does a mark
mark_stands : (m : house.Mark) → mark (mark_of (some m)) ≡ some m
unfolding mark
mark_stands house.rule = refl
mark_stands house.found = refl

-- and so do the marks of sub-frames
marks_stand : (ss : List Subcoded) → let ms = map (λ s. some (house.mark s)) ss in map mark (marks_of ms) ≡ ms
marks_stand [] = refl
marks_stand (s ∷ ss) = rw (mark_stands (house.mark s), marks_stand ss)

module _ (e : Encoder) (samples codewords : List ℤ) where
  abbrev encoded : answers.Encoded
  encoded = answers.encode (coder e) samples codewords

  -- a frame that is coded, written in the types of the code
  abbrev written : Encoded
  written =
      let t = coded (coder e) samples in
      record {
        state = encoder_of t.0;
        ending = ending_of t.1.ending;
        marks = marks_of (map (λ s. some (house.mark s)) t.1.subframes);
      }

  -- what encode answers
  abbrev pub encode_answers : encoder.Answer
  encode_answers = answer (encode_refusal (coder e) samples codewords) (Ok written) (λ n. encoder.refused n e)

  by_number : (n : ℕ) → encode_refusal (coder e) samples codewords ≡ n
      → Encodes e samples codewords (answer n (Ok written) (λ k. encoder.refused k e)) encoded.codewords
  unfolding coder answer
  by_number zero h =
      let t = (coded (coder e) samples).1 in
      encoder.done_keeps e samples codewords h written encoded.codewords refl (ending_stands t.ending) (marks_stand t.subframes)
      (ap (λ r. r.codewords) (encode_done (coder e) samples codewords h))
  by_number (suc n) h =
      rw (ap (λ r. r.codewords) (encode_refused (coder e) samples codewords n h)) (encoder.refusal_keeps e samples codewords n h)

  -- and that it keeps the promise
  pub encode_can : Encodes e samples codewords encode_answers encoded.codewords
  encode_can = by_number (encode_refusal (coder e) samples codewords) refl

-- ---- decode

module _ (d : Decoder) (codewords samples : List ℤ) where
  abbrev decoded : answers.Decoded
  decoded = answers.decode (memory d) codewords samples

  -- what decode answers
  abbrev pub decode_answers : decoder.Answer
  decode_answers =
      answer (decode_refusal (memory d) codewords samples) (Ok (decoder_of (heard (memory d) (received codewords)).0))
      (λ n. decoder.refused n d)

  by_number_too : (n : ℕ) → decode_refusal (memory d) codewords samples ≡ n
      → let done : decoder.Answer = Ok (decoder_of (heard (memory d) (received codewords)).0) in
      Decodes d codewords samples (answer n done (λ k. decoder.refused k d)) decoded.samples
  unfolding memory answer
  by_number_too zero h =
      decoder.done_keeps d codewords samples (decoder_of (heard (memory d) (received codewords)).0) decoded.samples h refl
      (ap (λ r. r.samples) (decode_done (memory d) codewords samples h))
  by_number_too (suc n) h =
      rw (ap (λ r. r.samples) (decode_refused (memory d) codewords samples n h)) (decoder.refusal_keeps d codewords samples n h)

  -- and that it keeps the promise
  pub decode_can : Decodes d codewords samples decode_answers decoded.samples
  decode_can = by_number_too (decode_refusal (memory d) codewords samples) refl

-- ---- decode_alaw. (encode_alaw's promise is encode's, over the samples that the octets stand for)

module _ (d : Decoder) (codewords : List ℤ) (octets : List ℕ) where
  abbrev decoded_alaw : answers.DecodedOctets
  decoded_alaw = answers.decode_alaw (memory d) codewords octets

  -- what decode_alaw answers
  abbrev pub decode_alaw_answers : decoder.Answer
  decode_alaw_answers =
      answer (decode_alaw_refusal (memory d) codewords octets) (Ok (decoder_of (heard (memory d) (received codewords)).0))
      (λ n. decoder.refused n d)

  by_octets : (n : ℕ) → decode_alaw_refusal (memory d) codewords octets ≡ n
      → let done : decoder.Answer = Ok (decoder_of (heard (memory d) (received codewords)).0) in
      DecodesAlaw d codewords octets (answer n done (λ k. decoder.refused k d)) decoded_alaw.octets
  unfolding memory answer decoder.state number_of
  by_octets zero h =
      let r = decode_alaw_done (memory d) codewords octets h in
      record { number = rw r; state = rw r; octets = refl }
  by_octets (suc n) h =
      rw (ap (λ r. r.octets) (decode_alaw_refused (memory d) codewords octets n h)) (decoder.refusal_keeps_octets d codewords octets n h)

  -- and that it keeps the promise
  pub decode_alaw_can : DecodesAlaw d codewords octets decode_alaw_answers decoded_alaw.octets
  decode_alaw_can = by_octets (decode_alaw_refusal (memory d) codewords octets) refl

-- ---- all of them, one call after another

-- a call that is asked for
pub data Ask : Type 0 where
  encode : (samples codewords : List ℤ) → Ask
  encode_alaw : (octets : List ℕ) (codewords : List ℤ) → Ask
  decode : (codewords samples : List ℤ) → Ask
  decode_alaw : (codewords : List ℤ) (octets : List ℕ) → Ask

-- the call as it is made then
unfoldable pub call : Ends → Ask → Call
call t (encode samples codewords) =
    encodes samples codewords (encode_answers t.encoder samples codewords) (encoded t.encoder samples codewords).codewords
call t (encode_alaw octets codewords) =
    let samples = alaw_samples octets in
    encodes_alaw octets codewords (encode_answers t.encoder samples codewords) (encoded t.encoder samples codewords).codewords
call t (decode codewords samples) =
    decodes codewords samples (decode_answers t.decoder codewords samples) (decoded t.decoder codewords samples).samples
call t (decode_alaw codewords octets) =
    decodes_alaw codewords octets (decode_alaw_answers t.decoder codewords octets) (decoded_alaw t.decoder codewords octets).octets

-- all of them
unfoldable pub calls : Ends → List Ask → List Call
calls t [] = []
calls t (a ∷ rest) = call t a ∷ calls (after t (call t a)) rest

-- samples are words, by their type
unfoldable pub of_words : Ask → Bool
of_words (encode samples codewords) = every word samples
of_words (encode_alaw octets codewords) = true
of_words (decode codewords samples) = true
of_words (decode_alaw codewords octets) = true

-- each keeps its promise
call_made : (t : Ends) (a : Ask) → of_words a ≡ true → Made t (call t a)
unfolding call Made of_words
call_made t (encode samples codewords) w = (encode_can t.encoder samples codewords, w)
call_made t (encode_alaw octets codewords) w = encode_can t.encoder (alaw_samples octets) codewords
call_made t (decode codewords samples) w = decode_can t.decoder codewords samples
call_made t (decode_alaw codewords octets) w = decode_alaw_can t.decoder codewords octets

-- so for any calls that are asked for, and from any states, there are calls that demand 3 speaks of
pub calls_made : (t : Ends) (asks : List Ask) → every of_words asks ≡ true → Along Made t (calls t asks)
unfolding calls Along
calls_made t [] w = tt
calls_made t (a ∷ rest) w =
    let (v, ws) = (every_cons of_words a rest).0 w in
    (call_made t a v, calls_made (after t (call t a)) rest ws)
