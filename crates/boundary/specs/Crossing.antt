-- Nothing is lost where an answer crosses to C: the call inside keeps its promise, so the struct keeps the promise here.
use Rattle.std.specs.Prelude.{◌≡◌, List, ℕ, ℤ}
use Rattle.encoder.specs.declared.Encoder.{Encoder}
use Rattle.encoder.specs.Promise as encoder
use Rattle.encoder.specs.Promise.{coder}
use Rattle.decoder.specs.declared.Decoder.{Decoder}
use Rattle.decoder.specs.Promise as decoder
use Rattle.decoder.specs.Promise.{memory}
use Rattle.boundary.specs.declared.EncodeAnswer.{EncodeAnswer}
use Rattle.boundary.specs.declared.DecodeAnswer.{DecodeAnswer}
use Rattle.boundary.specs.Promise.{encode_answer, decode_answer, Encodes, Decodes, DecodesAlaw}

-- for encode and encode_alaw
pub encode_crosses : {e : Encoder} {samples lent : List ℤ} {a : encoder.Answer} {left : List ℤ} {b : EncodeAnswer}
    → encoder.Encodes e samples lent a left
    → b ≡ encode_answer (encoder.number a) (coder (encoder.state a)) (encoder.ending a) (encoder.marks a) → Encodes e samples lent b left
encode_crosses p q =
    record { answer = cc (q, p.number, p.state, p.ending, p.marks); codewords = p.codewords }

-- for decode
pub decode_crosses : {d : Decoder} {codewords lent : List ℤ} {a : decoder.Answer} {left : List ℤ} {b : DecodeAnswer}
    → decoder.Decodes d codewords lent a left
    → b ≡ decode_answer (decoder.number a) (memory (decoder.state a)) → Decodes d codewords lent b left
decode_crosses p q = record { answer = cc (q, p.number, p.state); samples = p.samples }

-- and for decode_alaw
pub decode_alaw_crosses : {d : Decoder} {codewords : List ℤ} {lent : List ℕ} {a : decoder.Answer} {left : List ℕ} {b : DecodeAnswer}
    → decoder.DecodesAlaw d codewords lent a left
    → b ≡ decode_answer (decoder.number a) (memory (decoder.state a)) → DecodesAlaw d codewords lent b left
decode_alaw_crosses p q = record { answer = cc (q, p.number, p.state); octets = p.octets }
