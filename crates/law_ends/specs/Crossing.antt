-- A call from C is one of the calls that the demands speak of: what C gets is an answer that keeps the promise inside, written in numbers.
-- (pack and unpack promise the same to C as inside.)
use Rattle.std.specs.Prelude.{◌≡◌, List, ℕ, ℤ}
use Rattle.encoder.specs.declared.Encoder.{Encoder}
use Rattle.encoder.specs.Promise as encoder
use Rattle.encoder.specs.Promise.{coder, Encodes}
use Rattle.decoder.specs.declared.Decoder.{Decoder}
use Rattle.decoder.specs.Promise as decoder
use Rattle.decoder.specs.Promise.{memory, Decodes, DecodesAlaw}
use Rattle.boundary.specs.declared.EncodeAnswer.{EncodeAnswer}
use Rattle.boundary.specs.declared.DecodeAnswer.{DecodeAnswer}
use Rattle.boundary.specs.Promise as from-c
use Rattle.boundary.specs.Promise.{encode_answer, decode_answer}
use Rattle.law_ends.specs.Outcomes.{encode_answers, encode_can, decode_answers, decode_can, decode_alaw_answers, decode_alaw_can}

module _ (e : Encoder) (samples lent : List ℤ) (b : EncodeAnswer) (left : List ℤ) (p : from-c.Encodes e samples lent b left) where
  -- the answer inside
  abbrev pub inside : encoder.Answer
  inside = encode_answers e samples lent

  -- it keeps encode's promise, with the codewords that were left
  pub inside_keeps : Encodes e samples lent inside left
  inside_keeps = rw p.codewords (encode_can e samples lent)

  -- and what C gets is this answer
  pub inside_crosses : b ≡ encode_answer (encoder.number inside) (coder (encoder.state inside)) (encoder.ending inside)
      (encoder.marks inside)
  inside_crosses =
      let c = encode_can e samples lent in
      cc (p.answer, c.number, c.state, c.ending, c.marks)

-- the same of decode
module _ (d : Decoder) (codewords lent : List ℤ) (b : DecodeAnswer) (left : List ℤ) (p : from-c.Decodes d codewords lent b left) where
  abbrev pub inside_decode : decoder.Answer
  inside_decode = decode_answers d codewords lent

  pub decode_keeps : Decodes d codewords lent inside_decode left
  decode_keeps = rw p.samples (decode_can d codewords lent)

  pub decode_crosses : b ≡ decode_answer (decoder.number inside_decode) (memory (decoder.state inside_decode))
  decode_crosses = let c = decode_can d codewords lent in cc (p.answer, c.number, c.state)

-- and of decode_alaw
module _ (d : Decoder) (codewords : List ℤ) (lent : List ℕ) (b : DecodeAnswer) (left : List ℕ)
    (p : from-c.DecodesAlaw d codewords lent b left) where
  abbrev pub inside_alaw : decoder.Answer
  inside_alaw = decode_alaw_answers d codewords lent

  pub alaw_keeps : DecodesAlaw d codewords lent inside_alaw left
  alaw_keeps = rw p.octets (decode_alaw_can d codewords lent)

  pub alaw_crosses : b ≡ decode_answer (decoder.number inside_alaw) (memory (decoder.state inside_alaw))
  alaw_crosses = let c = decode_alaw_can d codewords lent in cc (p.answer, c.number, c.state)
