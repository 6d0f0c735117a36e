-- What 160 zero samples give from home: the codewords, their 33 bytes, the history after the frame; and the lister's text for 323 zero
-- bytes (house rules, 'Listing').
use Rattle.std.specs.Prelude.{ℕ, ◌≡◌, refl, ℤ, pos, replicate}
use Rattle.std.proofs.Math.Option.{some}
use mathlib.Core.List.{List, [], ◌∷◌, ◌++◌, map, flatten}
use Rattle.standard.specs.Frame.{received}
use Rattle.standard.specs.Lpc.{silent}
use Rattle.standard.specs.Decoder.{decoded}
use Rattle.standard.specs.House.{home_coder, home_decoder, rule}
use Rattle.standard.specs.Answers.{Encoded, encode, pack, unpack}
use Rattle.standard.specs.Listing.{text, listing}
use Rattle.standard.specs.Opened.{opened}

-- encode's whole answer; the codewords that were there before are 1
unfoldable pub answered : Encoded
answered = encode home_coder (replicate 160 (pos 0)) (replicate 76 (pos 1))

unfoldable pub zero_frame : List ℤ
unfolding flatten
zero_frame =
    map pos (32 ∷ 32 ∷ 20 ∷ 11 ∷ 8 ∷ 5 ∷ 3 ∷ 2 ∷ flatten (replicate 4 (40 ∷ 0 ∷ 0 ∷ 0 ∷ replicate 13 4)))

-- 4 at index 0, 3, .., 36 of each 40, and 0 elsewhere
unfoldable pub zero_history : List ℤ
unfolding flatten
zero_history = map pos (flatten (replicate 3 (flatten (replicate 13 (4 ∷ 0 ∷ 0 ∷ [])) ++ (0 ∷ []))))

unfoldable pub zero_bytes : List ℕ
zero_bytes =
    32 ∷ 72 ∷ 23 ∷ 214 ∷ 132
    ∷ 2 ∷ 128 ∷ 36 ∷ 73 ∷ 146 ∷ 36 ∷ 137
    ∷ 2 ∷ 128 ∷ 36 ∷ 73 ∷ 146 ∷ 36 ∷ 137
    ∷ 2 ∷ 128 ∷ 36 ∷ 73 ∷ 146 ∷ 36 ∷ 137
    ∷ 2 ∷ 128 ∷ 36 ∷ 73 ∷ 146 ∷ 36 ∷ 9 ∷ []

pub record ZeroFrame : Type 0 where
  pub number : answered.number ≡ 0
  pub codewords : answered.codewords ≡ zero_frame
  pub ending : answered.ending ≡ some silent
  pub marks : answered.marks ≡ replicate 4 (some rule)
  pub history : answered.state.dp ≡ zero_history
  pub decoder_history : (decoded home_decoder (received zero_frame)).0.drp ≡ zero_history
  pub packs : pack zero_frame (replicate 33 1) ≡ record { number = 0; bytes = zero_bytes }
  pub unpacks : unpack zero_bytes (replicate 76 (pos 1)) ≡ record { number = 0; codewords = zero_frame }
  pub lists : listing (replicate 323 0)
      ≡ text "RPELTP\t1\n"
      ++ text "F\t1\tsilent\t32\t32\t20\t11\t8\t5\t3\t2\n"
      ++ text "S\t1\t1\trule\t40\t0\t0\t0\t4\t4\t4\t4\t4\t4\t4\t4\t4\t4\t4\t4\t4\n"
      ++ text "S\t1\t2\trule\t40\t0\t0\t0\t4\t4\t4\t4\t4\t4\t4\t4\t4\t4\t4\t4\t4\n"
      ++ text "S\t1\t3\trule\t40\t0\t0\t0\t4\t4\t4\t4\t4\t4\t4\t4\t4\t4\t4\t4\t4\n"
      ++ text "S\t1\t4\trule\t40\t0\t0\t0\t4\t4\t4\t4\t4\t4\t4\t4\t4\t4\t4\t4\t4\n"
      ++ text "E\t1\t1\t1\tend\n"

pub zero_frames : ZeroFrame
unfolding opened answered zero_frame zero_history zero_bytes
zero_frames = record {
  number = refl;
  codewords = refl;
  ending = refl;
  marks = refl;
  history = refl;
  decoder_history = refl;
  packs = refl;
  unpacks = refl;
  lists = refl;
}
