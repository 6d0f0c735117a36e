-- What encode and decode promise where they are called from C: the answer is that of the definition `encode`, `decode` or
-- `decode_alaw` (`standard`, Answers) as a plain struct, with a number for the refusal, for the ending and for each mark; what is left
-- in the buffer is the definition's. The other calls promise what they promise inside.
use Rattle.std.specs.Prelude.{ℕ, ◌+◌, ◌≡◌, List, map, ℤ}
use Rattle.std.proofs.Math.Option.{Option, none, some}
use Rattle.standard.specs.Lpc as lpc
use Rattle.standard.specs.House as house
use Rattle.standard.specs.Coder as standard
use Rattle.standard.specs.Decoder as standard-decoder
use Rattle.standard.specs.Answers as answers
use Rattle.encoder.specs.declared.Encoder.{Encoder}
use Rattle.encoder.specs.Promise.{coder, encoder_of}
use Rattle.decoder.specs.declared.Decoder.{Decoder}
use Rattle.decoder.specs.Promise.{memory, decoder_of}
use Rattle.boundary.specs.declared.EncodeAnswer.{EncodeAnswer}
use Rattle.boundary.specs.declared.DecodeAnswer.{DecodeAnswer}

-- ---- the struct that a caller in C gets

-- the number of an ending: 0 where there is none
unfoldable pub ending_number : Option lpc.Ending → ℕ
ending_number none = 0
ending_number (some lpc.silent) = 1
ending_number (some lpc.complete) = 2
ending_number (some (lpc.stopped n)) = 16 + n

-- the number of a lag's mark: 0 where there is none
unfoldable pub mark_number : Option house.Mark → ℕ
mark_number none = 0
mark_number (some house.rule) = 1
mark_number (some house.found) = 2

-- the answer with this number, this state, this ending and these marks
unfoldable pub encode_answer : ℕ → standard.Coder → Option lpc.Ending → List (Option house.Mark) → EncodeAnswer
encode_answer number state ending marks =
    record { state = encoder_of state; number = number; ending = ending_number ending; marks = map mark_number marks }

-- what decode answers, with this number and this state
unfoldable pub decode_answer : ℕ → standard-decoder.Decoder → DecodeAnswer
decode_answer number state = record { state = decoder_of state; number = number }

-- ---- the promise

-- the state, the samples, the codewords that were passed as a buffer, the answer, and the codewords left in the buffer. For
-- encode_alaw the samples are those that the octets stand for
pub record Encodes (e : Encoder) (samples lent : List ℤ) (a : EncodeAnswer) (left : List ℤ) : Type 0 where
  pub answer : let r = answers.encode (coder e) samples lent in a ≡ encode_answer r.number r.state r.ending r.marks
  pub codewords : left ≡ (answers.encode (coder e) samples lent).codewords

-- decode, with the samples in the place of the codewords
pub record Decodes (d : Decoder) (codewords lent : List ℤ) (a : DecodeAnswer) (left : List ℤ) : Type 0 where
  pub answer : let r = answers.decode (memory d) codewords lent in a ≡ decode_answer r.number r.state
  pub samples : left ≡ (answers.decode (memory d) codewords lent).samples

-- decode_alaw, with octets in the place of the samples
pub record DecodesAlaw (d : Decoder) (codewords : List ℤ) (lent : List ℕ) (a : DecodeAnswer) (left : List ℕ) : Type 0 where
  pub answer : let r = answers.decode_alaw (memory d) codewords lent in a ≡ decode_answer r.number r.state
  pub octets : left ≡ (answers.decode_alaw (memory d) codewords lent).octets
