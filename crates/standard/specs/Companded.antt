-- House rules, 'A-law', tried at the edges: the ends of each segment; what the calls on octets refuse and return then.
use Rattle.std.specs.Prelude.{ℕ, ◌≡◌, refl, List, [], ◌∷◌, map, ℤ, pos, replicate}
use Rattle.standard.specs.Tables.{neg}
use Rattle.standard.specs.Alaw.{expanded, compressed, alaw_samples, alaw_octets}
use Rattle.standard.specs.House.{home_coder, home_decoder, encode_refusal, decode_alaw_refusal}
use Rattle.standard.specs.Answers.{decode_alaw}
use Rattle.standard.specs.Opened.{opened}
use Rattle.standard.specs.Refused.{coder_with, decoder_with}

-- ---- codes and values

-- the codes of the first and of the last step of each segment, from segment 0 upwards
unfoldable pub positive_codes : List ℕ
positive_codes = 213 ∷ 218 ∷ 197 ∷ 202 ∷ 245 ∷ 250 ∷ 229 ∷ 234 ∷ 149 ∷ 154 ∷ 133 ∷ 138 ∷ 181 ∷ 186 ∷ 165 ∷ 170 ∷ []

unfoldable pub negative_codes : List ℕ
negative_codes = 85 ∷ 90 ∷ 69 ∷ 74 ∷ 117 ∷ 122 ∷ 101 ∷ 106 ∷ 21 ∷ 26 ∷ 5 ∷ 10 ∷ 53 ∷ 58 ∷ 37 ∷ 42 ∷ []

-- the magnitudes that they stand for
unfoldable pub magnitudes : List ℕ
magnitudes = 1 ∷ 31 ∷ 33 ∷ 63 ∷ 66 ∷ 126 ∷ 132 ∷ 252 ∷ 264 ∷ 504 ∷ 528 ∷ 1008 ∷ 1056 ∷ 2016 ∷ 2112 ∷ 4032 ∷ []

-- the least and the greatest value of each segment, and the negative ones that count as them
unfoldable pub edges : List ℤ
edges = map pos (0 ∷ 31 ∷ 32 ∷ 63 ∷ 64 ∷ 127 ∷ 128 ∷ 255 ∷ 256 ∷ 511 ∷ 512 ∷ 1023 ∷ 1024 ∷ 2047 ∷ 2048 ∷ 4095 ∷ [])

unfoldable pub edges_below : List ℤ
edges_below = map neg (1 ∷ 32 ∷ 33 ∷ 64 ∷ 65 ∷ 128 ∷ 129 ∷ 256 ∷ 257 ∷ 512 ∷ 513 ∷ 1024 ∷ 1025 ∷ 2048 ∷ 2049 ∷ 4096 ∷ [])

pub record Codes : Type 0 where
  pub expands : map expanded positive_codes ≡ map pos magnitudes
  pub expands_below : map expanded negative_codes ≡ map neg magnitudes
  pub compresses : map compressed edges ≡ positive_codes
  pub compresses_below : map compressed edges_below ≡ negative_codes
  pub beyond : map compressed (pos 4096 ∷ pos 32767 ∷ neg 4097 ∷ neg 32768 ∷ []) ≡ 170 ∷ 170 ∷ 42 ∷ 42 ∷ []
  pub samples : alaw_samples (213 ∷ 85 ∷ 170 ∷ 42 ∷ []) ≡ pos 8 ∷ neg 8 ∷ pos 32256 ∷ neg 32256 ∷ []
  pub octets : alaw_octets (pos 0 ∷ pos 15 ∷ pos 16 ∷ neg 8 ∷ neg 16 ∷ neg 24 ∷ pos 32760 ∷ neg 32768 ∷ [])
      ≡ 213 ∷ 213 ∷ 212 ∷ 85 ∷ 85 ∷ 84 ∷ 170 ∷ 42 ∷ []

pub codes : Codes
unfolding opened positive_codes negative_codes magnitudes edges edges_below
codes = record {
  expands = refl;
  expands_below = refl;
  compresses = refl;
  compresses_below = refl;
  beyond = refl;
  samples = refl;
  octets = refl;
}

-- ---- refusals: 1 counts octets in these calls, and keeps its place in the order; where several apply, the lowest is given

abbrev lent : ℕ → List ℤ
lent n = replicate n (pos 0)

pub record RefusedOctets : Type 0 where
  pub encode_1 : encode_refusal (coder_with (pos 16381) (pos 0)) (alaw_samples (replicate 159 213)) (lent 75) ≡ 1
  pub encode_1_more : encode_refusal home_coder (alaw_samples (replicate 161 213)) (lent 76) ≡ 1
  pub encode_2 : encode_refusal (coder_with (pos 16381) (pos 0)) (alaw_samples (replicate 160 213)) (lent 77) ≡ 2
  pub encode_3 : encode_refusal (coder_with (pos 16381) (pos 0)) (alaw_samples (replicate 160 213)) (lent 76) ≡ 3
  pub encode_0 : encode_refusal home_coder (alaw_samples (replicate 160 213)) (lent 76) ≡ 0
  pub decode_1 : decode_alaw_refusal (decoder_with (pos 39)) (lent 75) (replicate 161 213) ≡ 1
  pub decode_1_fewer : decode_alaw_refusal home_decoder (lent 76) (replicate 159 213) ≡ 1
  pub decode_2 : decode_alaw_refusal (decoder_with (pos 39)) (lent 75) (replicate 160 213) ≡ 2
  pub decode_3 : decode_alaw_refusal (decoder_with (pos 121)) (lent 76) (replicate 160 213) ≡ 3
  pub decode_0 : decode_alaw_refusal home_decoder (lent 76) (replicate 160 213) ≡ 0
  pub hands_back : decode_alaw home_decoder [] (7 ∷ []) ≡ record { number = 1; state = home_decoder; octets = 7 ∷ [] }

pub refused_octets : RefusedOctets
unfolding opened
refused_octets = record {
  encode_1 = refl;
  encode_1_more = refl;
  encode_2 = refl;
  encode_3 = refl;
  encode_0 = refl;
  decode_1 = refl;
  decode_1_fewer = refl;
  decode_2 = refl;
  decode_3 = refl;
  decode_0 = refl;
  hands_back = refl;
}
