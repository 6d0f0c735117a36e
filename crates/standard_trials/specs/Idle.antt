-- An idle A-law line (request W-204): code D5 over and over, which is sample 8 and not 0; and what the zero frame is heard as.
use Rattle.std.specs.Prelude.{◌≡◌, refl, ℤ, pos, replicate, take}
use Rattle.std.proofs.Math.Option.{some}
use mathlib.Core.List.{List, ◌∷◌, [], ◌++◌, map, flatten}
use Rattle.standard.specs.Lpc.{complete}
use Rattle.standard.specs.Alaw.{alaw_samples}
use Rattle.standard.specs.House.{home_coder, home_decoder, rule}
use Rattle.standard.specs.Answers.{Encoded, encode, decode_alaw}
use Rattle.standard.specs.Opened.{opened}
use Rattle.standard.specs.ZeroFrame.{zero_frame}

-- what encode_alaw answers from home; the codewords that were there before are 1
unfoldable pub idle : Encoded
idle = encode home_coder (alaw_samples (replicate 160 213)) (replicate 76 (pos 1))

unfoldable pub idle_frame : List ℤ
unfolding flatten
idle_frame =
    map pos
    (9 ∷ 23 ∷ 15 ∷ 8 ∷ 7 ∷ 3 ∷ 3 ∷ 2
    ∷ flatten (replicate 3 (40 ∷ 0 ∷ 0 ∷ 0 ∷ replicate 13 4)) ++ (40 ∷ 0 ∷ 0 ∷ 0 ∷ 4 ∷ 4 ∷ 4 ∷ 4 ∷ 3 ∷ replicate 8 4))

pub record Idle : Type 0 where
  pub number : idle.number ≡ 0
  pub codewords : idle.codewords ≡ idle_frame
  pub ending : idle.ending ≡ some complete
  pub marks : idle.marks ≡ replicate 4 (some rule)
  pub first_heard : take 12 (decode_alaw home_decoder zero_frame (replicate 160 1)).octets
      ≡ replicate 6 213 ++ (212 ∷ 213 ∷ 213 ∷ 212 ∷ 212 ∷ 213 ∷ [])

pub idles : Idle
unfolding opened idle idle_frame zero_frame
idles = record { number = refl; codewords = refl; ending = refl; marks = refl; first_heard = refl }
