-- House rules, 'Refusals': what each call answers, and what it leaves in the buffer that it may alter, by its number.
use Rattle.std.specs.Prelude.{ℕ, zero, suc, List, map, ℤ, replicate}
use Rattle.std.proofs.Math.Option.{Option, none, some}
use Rattle.standard.specs.Frame.{words, received}
use Rattle.standard.specs.Lpc.{Ending}
use Rattle.standard.specs.Coder.{Coder, frame, coded}
use Rattle.standard.specs.Decoder.{Decoder, decoded}
use Rattle.standard.specs.Packed.{packed, unpacked}
use Rattle.standard.specs.Alaw.{alaw_octets}
use Rattle.standard.specs.House.{Mark, mark, encode_refusal, decode_refusal, decode_alaw_refusal, pack_refusal, unpack_refusal}

-- 0 means done; any other number is a refusal
unfoldable pub answer : {A : Type 0} → ℕ → A → (ℕ → A) → A
answer zero done refused = done
answer (suc n) done refused = refused (suc n)

-- all that encode answers, with the codewords that it leaves in the buffer
pub record Encoded : Type 0 where
  pub number : ℕ
  pub state : Coder
  pub ending : Option Ending
  pub marks : List (Option Mark)
  pub codewords : List ℤ

-- refused: the state as it was passed in, no ending of the recursion, no lag marks, the codewords that were there before
unfoldable pub encode : Coder → List ℤ → List ℤ → Encoded
encode c samples codewords =
    let t = coded c samples in
    answer (encode_refusal c samples codewords)
    (record {
      number = 0;
      state = t.0;
      ending = some t.1.ending;
      marks = map (λ s. some (mark s)) t.1.subframes;
      codewords = words (frame t.1);
    })
    (λ n. record { number = n; state = c; ending = none; marks = replicate 4 none; codewords = codewords })

-- all that decode answers, with the samples that it leaves in the buffer
pub record Decoded : Type 0 where
  pub number : ℕ
  pub state : Decoder
  pub samples : List ℤ

unfoldable pub decode : Decoder → List ℤ → List ℤ → Decoded
decode m codewords samples =
    let t = decoded m (received codewords) in
    answer (decode_refusal m codewords samples)
    (record { number = 0; state = t.0; samples = t.1 })
    (λ n. record { number = n; state = m; samples = samples })

-- House rules, 'A-law': decode_alaw leaves octets where decode leaves samples. What encode_alaw answers is `encode` of the samples that
-- the octets stand for
pub record DecodedOctets : Type 0 where
  pub number : ℕ
  pub state : Decoder
  pub octets : List ℕ

unfoldable pub decode_alaw : Decoder → List ℤ → List ℕ → DecodedOctets
decode_alaw m codewords octets =
    let t = decoded m (received codewords) in
    answer (decode_alaw_refusal m codewords octets)
    (record { number = 0; state = t.0; octets = alaw_octets t.1 })
    (λ n. record { number = n; state = m; octets = octets })

-- what pack answers, with the bytes that it leaves in the buffer
pub record Packed : Type 0 where
  pub number : ℕ
  pub bytes : List ℕ

unfoldable pub pack : List ℤ → List ℕ → Packed
pack codewords bytes =
    answer (pack_refusal codewords bytes)
    (record { number = 0; bytes = packed codewords })
    (λ n. record { number = n; bytes = bytes })

-- what unpack answers, with the codewords that it leaves in the buffer
pub record Unpacked : Type 0 where
  pub number : ℕ
  pub codewords : List ℤ

unfoldable pub unpack : List ℕ → List ℤ → Unpacked
unpack bytes codewords =
    answer (unpack_refusal bytes codewords)
    (record { number = 0; codewords = unpacked bytes })
    (λ n. record { number = n; codewords = codewords })
