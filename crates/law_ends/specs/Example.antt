-- Demand 3 is not empty: calls that meet its condition, with what they give, computed; and calls that do not, after which the two ends
-- differ.
use Rattle.std.specs.Prelude.{ℕ, ◌≡◌, refl, ℤ, pos, nat_abs, drop, replicate}
use Rattle.std.proofs.Common.{ap, suc-ne-zero, arith}
use Rattle.std.proofs.Math.Option.{Option, none, some, some-ne-none}
use mathlib.Core.List.{List, [], ◌∷◌, map, flatten}
use Rattle.standard.specs.Arithmetic.{peak}
use Rattle.standard.specs.Tables.{neg, ◌at◌}
use Rattle.standard.specs.House.{home_coder, home_decoder}
use Rattle.standard.specs.Easy.{zeros, pulse}
use Rattle.standard.specs.Answers as answers
use Rattle.standard.specs.Opened.{opened}
use Rattle.encoder.specs.Promise.{coder, encoder_of}
use Rattle.decoder.specs.Promise.{memory, decoder_of}
use Rattle.law_ends.specs.Together.{Ends, after, Handed, Shown, Along, at_home, together}
use Rattle.law_ends.specs.Soundly.{number}
use Rattle.law_ends.specs.Outcomes.{answered, Ask, encode, encode_alaw, decode, decode_alaw, call, calls, of_words, calls_made}

-- a pulse every 40 samples
unfoldable pub pulses : List ℤ
unfolding flatten
pulses = flatten (replicate 4 (pulse (pos 8000)))

-- its frame from home
unfoldable pub first_frame : List ℤ
first_frame =
    map pos
    (42 ∷ 38 ∷ 25 ∷ 15 ∷ 10 ∷ 6 ∷ 4 ∷ 3
    ∷ 40 ∷ 0 ∷ 0 ∷ 31 ∷ 7 ∷ 2 ∷ 4 ∷ 3 ∷ 3 ∷ 4 ∷ 4 ∷ 4 ∷ 4 ∷ 4 ∷ 4 ∷ 4 ∷ 4
    ∷ 40 ∷ 3 ∷ 0 ∷ 32 ∷ 7 ∷ 4 ∷ 2 ∷ 3 ∷ 4 ∷ 3 ∷ 3 ∷ 3 ∷ 3 ∷ 3 ∷ 3 ∷ 3 ∷ 3
    ∷ 40 ∷ 3 ∷ 0 ∷ 5 ∷ 5 ∷ 7 ∷ 7 ∷ 2 ∷ 2 ∷ 4 ∷ 4 ∷ 4 ∷ 4 ∷ 4 ∷ 4 ∷ 4 ∷ 4
    ∷ 40 ∷ 3 ∷ 2 ∷ 3 ∷ 2 ∷ 0 ∷ 2 ∷ 5 ∷ 3 ∷ 3 ∷ 3 ∷ 3 ∷ 3 ∷ 3 ∷ 3 ∷ 3 ∷ 3 ∷ [])

-- the same with stray bits beside the valid ones
unfoldable pub strayed : List ℤ
strayed =
    pos 106 ∷ neg 26 ∷ pos 121 ∷ neg 241 ∷ pos 1610 ∷ neg 4090 ∷ pos 2044 ∷ pos 11
    ∷ neg 88 ∷ pos 12 ∷ neg 32 ∷ pos 6431 ∷ neg 2041 ∷ pos 2042 ∷ pos 12 ∷ neg 5
    ∷ pos 27 ∷ neg 60 ∷ pos 804 ∷ neg 2044 ∷ pos 2044 ∷ pos 12 ∷ neg 4 ∷ pos 28 ∷ neg 60
    ∷ pos 12840 ∷ neg 1021 ∷ pos 1020 ∷ pos 96 ∷ neg 1 ∷ pos 28 ∷ neg 62 ∷ pos 803
    ∷ neg 2044 ∷ pos 2043 ∷ pos 11 ∷ neg 5 ∷ pos 27 ∷ neg 61 ∷ pos 803 ∷ neg 2045 ∷ pos 2043
    ∷ pos 168 ∷ neg 1 ∷ pos 12 ∷ neg 507 ∷ pos 805 ∷ neg 2041 ∷ pos 2047 ∷ pos 10
    ∷ neg 6 ∷ pos 28 ∷ neg 60 ∷ pos 804 ∷ neg 2044 ∷ pos 2044 ∷ pos 12 ∷ neg 4 ∷ pos 28
    ∷ neg 984 ∷ pos 403 ∷ neg 1022 ∷ pos 16323 ∷ pos 10 ∷ neg 8 ∷ pos 26 ∷ neg 59
    ∷ pos 803 ∷ neg 2045 ∷ pos 2043 ∷ pos 11 ∷ neg 5 ∷ pos 27 ∷ neg 61 ∷ pos 803 ∷ neg 2045 ∷ []

-- the frame of silence after it
unfoldable pub second_frame : List ℤ
second_frame =
    map pos
    (1 ∷ 28 ∷ 19 ∷ 11 ∷ 8 ∷ 2 ∷ 4 ∷ 1
    ∷ 117 ∷ 0 ∷ 1 ∷ 12 ∷ 4 ∷ 4 ∷ 4 ∷ 3 ∷ 3 ∷ 4 ∷ 4 ∷ 4 ∷ 4 ∷ 4 ∷ 4 ∷ 4 ∷ 0
    ∷ 118 ∷ 0 ∷ 2 ∷ 12 ∷ 4 ∷ 4 ∷ 4 ∷ 4 ∷ 4 ∷ 4 ∷ 4 ∷ 4 ∷ 4 ∷ 4 ∷ 4 ∷ 4 ∷ 0
    ∷ 40 ∷ 0 ∷ 2 ∷ 0 ∷ 3 ∷ 3 ∷ 3 ∷ 3 ∷ 3 ∷ 3 ∷ 3 ∷ 3 ∷ 3 ∷ 3 ∷ 3 ∷ 3 ∷ 3
    ∷ 108 ∷ 0 ∷ 1 ∷ 0 ∷ 4 ∷ 3 ∷ 3 ∷ 3 ∷ 3 ∷ 3 ∷ 3 ∷ 3 ∷ 3 ∷ 4 ∷ 3 ∷ 4 ∷ 3 ∷ [])

-- code D5 of A-law over and over: a line on which nobody speaks
abbrev pub idle : ℕ → List ℕ
idle n = replicate n 213

-- the frame of such a line after the pulses
unfoldable pub idle_frame : List ℤ
idle_frame =
    map pos
    (8 ∷ 25 ∷ 17 ∷ 10 ∷ 8 ∷ 4 ∷ 3 ∷ 2
    ∷ 118 ∷ 0 ∷ 2 ∷ 12 ∷ 4 ∷ 4 ∷ 4 ∷ 3 ∷ 4 ∷ 4 ∷ 4 ∷ 4 ∷ 4 ∷ 4 ∷ 4 ∷ 4 ∷ 0
    ∷ 40 ∷ 0 ∷ 2 ∷ 0 ∷ 4 ∷ 4 ∷ 3 ∷ 4 ∷ 3 ∷ 3 ∷ 3 ∷ 3 ∷ 3 ∷ 3 ∷ 3 ∷ 3 ∷ 3
    ∷ 106 ∷ 0 ∷ 1 ∷ 0 ∷ 4 ∷ 4 ∷ 4 ∷ 4 ∷ 4 ∷ 4 ∷ 4 ∷ 4 ∷ 4 ∷ 4 ∷ 4 ∷ 3 ∷ 4
    ∷ 40 ∷ 0 ∷ 0 ∷ 0 ∷ 4 ∷ 4 ∷ 4 ∷ 4 ∷ 4 ∷ 4 ∷ 4 ∷ 4 ∷ 4 ∷ 4 ∷ 4 ∷ 4 ∷ 4 ∷ [])

abbrev home : Ends
home = at_home (encoder_of home_coder) (decoder_of home_decoder)

-- the pulses are coded; a decode_alaw into 159 octets is refused; the frame is handed over with its stray bits, and decoded to octets; an
-- encode into 75 codewords is refused; octets of an idle line are coded; their frame is handed over, and decoded to samples
abbrev pub asks : List Ask
asks =
    encode pulses (zeros 76) ∷ decode_alaw (zeros 76) (idle 159) ∷ decode_alaw strayed (idle 160)
    ∷ encode pulses (zeros 75) ∷ encode_alaw (idle 160) (zeros 76) ∷ decode idle_frame (zeros 160) ∷ []

-- two of them are refused, and no other
pub numbers : map number (calls home asks) ≡ 0 ∷ 1 ∷ 0 ∷ 2 ∷ 0 ∷ 0 ∷ []
unfolding opened answered calls call after number coder memory pulses strayed idle_frame
numbers = refl

-- these calls meet the condition
pub meets : Along Handed home (calls home asks)
unfolding opened answered Along calls call after Handed coder memory pulses strayed idle_frame
meets = (λ _. refl, (λ n. absurd (suc-ne-zero 0 n), (λ _. refl, (λ _. refl, (λ _. refl, (λ _. refl, tt))))))

-- so demand 3 speaks of them
pub shown : Along Shown home (calls home asks)
unfolding coder memory opened answered of_words pulses
shown = together (encoder_of home_coder) (decoder_of home_decoder) refl refl (calls home asks) (calls_made home asks refl) meets

-- what both hold after the first frame is not silence
pub loudest : peak (answers.encode home_coder pulses (zeros 76)).state.dp ≡ pos 3880
unfolding opened pulses
loudest = refl

-- ---- the condition is needed

-- the first frame is never handed over
abbrev pub lost : List Ask
lost = encode pulses (zeros 76) ∷ encode (zeros 160) (zeros 76) ∷ decode second_frame (zeros 160) ∷ []

-- so the second encode breaks the condition
pub breaks : ¬ Along Handed home (calls home lost)
unfolding opened answered Along calls call after Handed coder memory pulses second_frame
breaks h = some-ne-none _ (h.1.0 refl)

-- and the ends differ: the second sample of the history is −31 at one end and 0 at the other
pub apart : ¬ Along Shown home (calls home lost)
unfolding opened answered Along calls call after Shown coder memory pulses second_frame
apart s = suc-ne-zero 30 (ap (λ l. nat_abs (l at 1)) (s.1.1.0 refl).0)

-- a valid bit of the first codeword is turned over on the way
abbrev pub changed : List Ask
changed = encode pulses (zeros 76) ∷ decode (pos 43 ∷ drop 1 first_frame) (zeros 160) ∷ []

-- the first codeword of a frame, if there is one
first_word : Option (List ℤ) → ℕ
first_word none = 0
first_word (some c) = nat_abs (c at 0)

-- so the decode breaks the condition
pub breaks_changed : ¬ Along Handed home (calls home changed)
unfolding opened answered Along calls call after Handed coder memory pulses first_frame first_word
breaks_changed h =
    let same : ◌≡◌ {A = ℕ} 42 43 = ap first_word (h.1.0 refl) in
    absurd (omega arith)

-- and the ends differ in their first ratio
pub apart_changed : ¬ Along Shown home (calls home changed)
unfolding opened answered Along calls call after Shown coder memory pulses first_frame
apart_changed s =
    let same : ◌≡◌ {A = ℕ} 8192 9012 = ap (λ l. nat_abs (l at 0)) (s.1.0 refl).1 in
    absurd (omega arith)
