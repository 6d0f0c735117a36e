-- House rules, 'Refusals', 'Soundness' and 'Listing', tried at the edges: each number, the ends of soundness, the lister's last line.
use Rattle.std.specs.Prelude.{ℕ, ◌≡◌, refl, true, false, List, [], ◌∷◌, ◌++◌, map, ℤ, pos, replicate}
use Rattle.std.proofs.Math.Option.{none}
use Rattle.standard.specs.Tables.{neg}
use Rattle.standard.specs.Lpc.{stopped}
use Rattle.standard.specs.Coder.{Coder}
use Rattle.standard.specs.Decoder.{Decoder}
use Rattle.standard.specs.House.{home_coder, home_decoder, sound_coder, encode_refusal, decode_refusal, pack_refusal, unpack_refusal}
use Rattle.standard.specs.Answers.{encode, decode, pack, unpack}
use Rattle.standard.specs.Listing.{text, ending_text, E_line}
use Rattle.standard.specs.Opened.{opened}
use Rattle.standard.specs.Easy.{zeros}

-- home, except for these values
abbrev pub coder_with : ℤ → ℤ → Coder
coder_with z1 L_z2 = record { z1 = z1; L_z2 = L_z2; mp = pos 0; LARpp = zeros 8; u = zeros 8; dp = zeros 120 }

abbrev pub decoder_with : ℤ → Decoder
decoder_with nrp = record { drp = zeros 120; nrp = nrp; LARpp = zeros 8; v = zeros 8; msr = pos 0 }

-- where several apply, the lowest number is given
pub record Refused : Type 0 where
  pub encode_1 : encode_refusal (coder_with (pos 16381) (pos 0)) (zeros 159) (zeros 75) ≡ 1
  pub encode_1_more : encode_refusal home_coder (zeros 161) (zeros 76) ≡ 1
  pub encode_2 : encode_refusal (coder_with (pos 16381) (pos 0)) (zeros 160) (zeros 77) ≡ 2
  pub encode_2_fewer : encode_refusal home_coder (zeros 160) (zeros 75) ≡ 2
  pub encode_3 : encode_refusal (coder_with (pos 16381) (pos 0)) (zeros 160) (zeros 76) ≡ 3
  pub encode_0 : encode_refusal home_coder (zeros 160) (zeros 76) ≡ 0
  pub decode_1 : decode_refusal (decoder_with (pos 39)) (zeros 75) (zeros 161) ≡ 1
  pub decode_1_fewer : decode_refusal home_decoder (zeros 76) (zeros 159) ≡ 1
  pub decode_2 : decode_refusal (decoder_with (pos 39)) (zeros 75) (zeros 160) ≡ 2
  pub decode_2_more : decode_refusal home_decoder (zeros 77) (zeros 160) ≡ 2
  pub decode_3 : decode_refusal (decoder_with (pos 39)) (zeros 76) (zeros 160) ≡ 3
  pub decode_3_above : decode_refusal (decoder_with (pos 121)) (zeros 76) (zeros 160) ≡ 3
  pub decode_0 : decode_refusal (decoder_with (pos 120)) (zeros 76) (zeros 160) ≡ 0
  pub decode_0_home : decode_refusal home_decoder (zeros 76) (zeros 160) ≡ 0
  pub pack_2 : pack_refusal (pos 64 ∷ zeros 76) (replicate 32 0) ≡ 2
  pub pack_2_fewer : pack_refusal (zeros 75) (replicate 33 0) ≡ 2
  pub pack_4 : pack_refusal (pos 64 ∷ zeros 75) (replicate 32 0) ≡ 4
  pub pack_4_more : pack_refusal (zeros 76) (replicate 34 0) ≡ 4
  pub pack_5 : pack_refusal (pos 64 ∷ zeros 75) (replicate 33 0) ≡ 5
  pub pack_5_negative : pack_refusal (zeros 75 ++ (neg 1 ∷ [])) (replicate 33 0) ≡ 5
  pub pack_0 : pack_refusal (pos 63 ∷ zeros 75) (replicate 33 255) ≡ 0
  pub unpack_2 : unpack_refusal (replicate 32 255) (zeros 75) ≡ 2
  pub unpack_2_more : unpack_refusal (replicate 33 0) (zeros 77) ≡ 2
  pub unpack_4 : unpack_refusal (replicate 34 255) (zeros 76) ≡ 4
  pub unpack_4_fewer : unpack_refusal (replicate 32 0) (zeros 76) ≡ 4
  pub unpack_6 : unpack_refusal (replicate 32 0 ++ (16 ∷ [])) (zeros 76) ≡ 6
  pub unpack_6_last : unpack_refusal (replicate 32 0 ++ (128 ∷ [])) (zeros 76) ≡ 6
  pub unpack_0 : unpack_refusal (replicate 32 255 ++ (15 ∷ [])) (zeros 76) ≡ 0

pub refused : Refused
unfolding opened
refused = record {
  encode_1 = refl;
  encode_1_more = refl;
  encode_2 = refl;
  encode_2_fewer = refl;
  encode_3 = refl;
  encode_0 = refl;
  decode_1 = refl;
  decode_1_fewer = refl;
  decode_2 = refl;
  decode_2_more = refl;
  decode_3 = refl;
  decode_3_above = refl;
  decode_0 = refl;
  decode_0_home = refl;
  pack_2 = refl;
  pack_2_fewer = refl;
  pack_4 = refl;
  pack_4_more = refl;
  pack_5 = refl;
  pack_5_negative = refl;
  pack_0 = refl;
  unpack_2 = refl;
  unpack_2_more = refl;
  unpack_4 = refl;
  unpack_4_fewer = refl;
  unpack_6 = refl;
  unpack_6_last = refl;
  unpack_0 = refl;
}

-- what a refusal returns
pub record HandsBack : Type 0 where
  pub of_encode : encode home_coder [] (pos 1 ∷ [])
      ≡ record { number = 1; state = home_coder; ending = none; marks = replicate 4 none; codewords = pos 1 ∷ [] }
  pub of_decode : decode home_decoder [] (pos 1 ∷ []) ≡ record { number = 1; state = home_decoder; samples = pos 1 ∷ [] }
  pub of_pack : pack [] (1 ∷ []) ≡ record { number = 2; bytes = 1 ∷ [] }
  pub of_unpack : unpack (1 ∷ []) (pos 1 ∷ []) ≡ record { number = 2; codewords = pos 1 ∷ [] }

pub hands_back : HandsBack
unfolding opened
hands_back = record {
  of_encode = refl;
  of_decode = refl;
  of_pack = refl;
  of_unpack = refl;
}

pub record Sound : Type 0 where
  pub z1_least : sound_coder (coder_with (neg 16384) (neg 536870912)) ≡ true
  pub z1_below : sound_coder (coder_with (neg 16385) (neg 536903680)) ≡ false
  pub z1_most : sound_coder (coder_with (pos 16380) (pos 536739840)) ≡ true
  pub z1_above : sound_coder (coder_with (pos 16381) (pos 536772608)) ≡ false
  pub L_z2_least : sound_coder (coder_with (pos 1) (neg 536707569)) ≡ true
  pub L_z2_below : sound_coder (coder_with (pos 1) (neg 536707570)) ≡ false
  pub L_z2_most : sound_coder (coder_with (pos 1) (pos 536904177)) ≡ true
  pub L_z2_above : sound_coder (coder_with (pos 1) (pos 536904178)) ≡ false

pub sound : Sound
unfolding opened
sound = record {
  z1_least = refl;
  z1_below = refl;
  z1_most = refl;
  z1_above = refl;
  L_z2_least = refl;
  L_z2_below = refl;
  L_z2_most = refl;
  L_z2_above = refl;
}

pub record Lines : Type 0 where
  pub stops : map (λ n. ending_text (stopped n)) (1 ∷ 8 ∷ []) ≡ text "stop1" ∷ text "stop8" ∷ []
  pub nothing : E_line 0 ≡ text "E\t0\t0\t0\tend\n"
  pub no_frame : E_line 319 ≡ text "E\t0\t159\t1\tend\n"
  pub two_frames : E_line 641 ≡ text "E\t2\t0\t1\tend\n"
  pub last_frame : E_line 320000000 ≡ text "E\t1000000\t0\t0\tend\n"
  pub limit : E_line 320000001 ≡ text "E\t1000000\t0\t0\tlimit\n"

pub lines : Lines
unfolding opened
lines = record {
  stops = refl;
  nothing = refl;
  no_frame = refl;
  two_frames = refl;
  last_frame = refl;
  limit = refl;
}
