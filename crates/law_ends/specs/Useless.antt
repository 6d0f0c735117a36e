-- House rules, 'What counts as shown' (c): useless versions, and that none of them keeps the promises.
use Rattle.std.specs.Prelude.{ℕ, zero, suc, ◌≡◌, refl, Bool, true, false, List, ◌∷◌, ℤ, nat_abs, length, replicate}
use Rattle.std.proofs.Common.{arith, ◌∙◌}
use Rattle.std.proofs.Math.Path.{sym, ap, subst}
use Rattle.std.proofs.Math.Bool.{true≢false}
use Rattle.std.proofs.Math.Option.{Option, none, some}
use Rattle.std.proofs.Math.IntN.{pos}
use Rattle.std.proofs.Math.ListN.{get_or, drop}
use Rattle.standard.specs.Tables.{◌at◌}
use Rattle.standard.specs.Lpc as lpc
use Rattle.standard.specs.Alaw.{alaw_samples}
use Rattle.standard.specs.House as house
use Rattle.standard.specs.House.{home_coder, home_decoder, sound_coder, sound_decoder}
use Rattle.standard.specs.Answers as answers
use Rattle.standard.specs.Opened.{opened}
use Rattle.standard.specs.Easy.{zeros}
use Rattle.standard.specs.ZeroFrame.{zero_frame}
use Rattle.law_refusals.specs.Rows.{Exactly}
use Rattle.law_refusals.specs.Calls.{encode_exactly, decode_exactly}
use Rattle.encoder.specs.declared.Encoder.{Encoder}
use Rattle.encoder.specs.Promise as encoder
use Rattle.encoder.specs.Promise.{coder, ending, marks, Encodes, refused}
use Rattle.encoder.specs.Calls as encoder-calls
use Rattle.decoder.specs.declared.Decoder.{Decoder}
use Rattle.decoder.specs.Promise.{memory, Decodes, DecodesAlaw}
use Rattle.decoder.specs.Promise as decoder
use Rattle.decoder.specs.Calls as decoder-calls
use Rattle.law_ends.specs.Example.{idle, pulses, first_frame, second_frame}
use Rattle.law_ends.specs.Demands.{encode_refuses, encode_hands_back, encode_alaw_refuses, decode_refuses, decode_alaw_refuses}

-- two numbers that are not the same
unlike : (m n : ℕ) → ¬ (m ≡ n) → ¬ (pos m ≡ pos n)
unlike m n h e = h (ap nat_abs e)

-- an ending that does not say complete
NotComplete : Option lpc.Ending → Type 0
NotComplete none = Unit {0}
NotComplete (some lpc.silent) = Unit {0}
NotComplete (some (lpc.stopped n)) = Unit {0}
NotComplete (some lpc.complete) = ⊥

-- an ending that is there
NotAbsent : Option lpc.Ending → Type 0
NotAbsent none = ⊥
NotAbsent (some e) = Unit {0}

-- an ending that is no stop
NotStopped : Option lpc.Ending → Type 0
NotStopped none = Unit {0}
NotStopped (some lpc.silent) = Unit {0}
NotStopped (some (lpc.stopped n)) = ⊥
NotStopped (some lpc.complete) = Unit {0}

-- a mark that says found
says_found : Option house.Mark → Bool
says_found none = false
says_found (some house.rule) = false
says_found (some house.found) = true

-- in a list of marks "rule" none says found
none_found : (n i : ℕ) → says_found (get_or (replicate n (some house.rule)) i none) ≡ false
unfolding says_found
none_found zero i = refl
none_found (suc n) zero = refl
none_found (suc n) (suc i) = none_found n i

-- ---- refusing everything: what the house rules do not refuse is done

pub refuses_samples : (e : Encoder) (samples lent : List ℤ) (a : encoder.Answer) (left : List ℤ)
    → length samples ≡ 160 → length lent ≡ 76 → sound_coder (coder e) ≡ true → ¬ (encoder.number a ≡ 0) → ¬ Encodes e samples lent a left
refuses_samples e samples lent a left l k s n p =
    n (encoder-calls.number_is e samples lent a left p ∙ (encode_exactly (coder e) samples lent).allows l k s)

pub refuses_frames : (d : Decoder) (codewords lent : List ℤ) (a : decoder.Answer) (left : List ℤ)
    → length lent ≡ 160 → length codewords ≡ 76 → sound_decoder (memory d) ≡ true → ¬ (decoder.number a ≡ 0)
    → ¬ Decodes d codewords lent a left
refuses_frames d codewords lent a left l k s n p =
    n (decoder-calls.number_is d codewords lent a left p ∙ (decode_exactly (memory d) codewords lent).allows l k s)

-- the same for octets
pub refuses_octets : (e : Encoder) (octets : List ℕ) (lent : List ℤ) (a : encoder.Answer) (left : List ℤ)
    → length octets ≡ 160 → length lent ≡ 76 → sound_coder (coder e) ≡ true → ¬ (encoder.number a ≡ 0)
    → ¬ Encodes e (alaw_samples octets) lent a left
refuses_octets e octets lent a left l k s n p = n ((encode_alaw_refuses e octets lent a left p).allows l k s)

pub refuses_heard : (d : Decoder) (codewords : List ℤ) (lent : List ℕ) (a : decoder.Answer) (left : List ℕ)
    → length lent ≡ 160 → length codewords ≡ 76 → sound_decoder (memory d) ≡ true → ¬ (decoder.number a ≡ 0)
    → ¬ DecodesAlaw d codewords lent a left
refuses_heard d codewords lent a left l k s n p = n ((decode_alaw_refuses d codewords lent a left p).allows l k s)

-- ---- an unsound state taken: what 0 answers was sound

taken : {A B : Type 0} (n : ℕ) (xs : List A) (ys : List B) (good : Bool) → Exactly n 160 76 1 2 3 xs ys good → good ≡ false → ¬ (n ≡ 0)
taken n xs ys good x h e = true≢false (sym (x.allowed e).2 ∙ h)

pub unsound_coded : (e : Encoder) (samples lent : List ℤ) (a : encoder.Answer) (left : List ℤ)
    → sound_coder (coder e) ≡ false → encoder.number a ≡ 0 → ¬ Encodes e samples lent a left
unsound_coded e samples lent a left h n p = taken (encoder.number a) samples lent _ (encode_refuses e samples lent a left p) h n

pub unsound_decoded : (d : Decoder) (codewords lent : List ℤ) (a : decoder.Answer) (left : List ℤ)
    → sound_decoder (memory d) ≡ false → decoder.number a ≡ 0 → ¬ Decodes d codewords lent a left
unsound_decoded d codewords lent a left h n p = taken (decoder.number a) lent codewords _ (decode_refuses d codewords lent a left p) h n

-- ---- the codewords counted before the samples or the octets: number 2 where the samples or the octets are already wrong

second_first : {A B : Type 0} (n : ℕ) (xs : List A) (ys : List B) (good : Bool)
    → Exactly n 160 76 1 2 3 xs ys good → ¬ (length xs ≡ 160) → ¬ (n ≡ 2)
second_first n xs ys good x h e = let first = x.first h in absurd (omega arith)

pub codewords_first : (e : Encoder) (samples lent : List ℤ) (a : encoder.Answer) (left : List ℤ)
    → ¬ (length samples ≡ 160) → encoder.number a ≡ 2 → ¬ Encodes e samples lent a left
codewords_first e samples lent a left h n p = second_first (encoder.number a) samples lent _ (encode_refuses e samples lent a left p) h n

pub codewords_first_octets : (e : Encoder) (octets : List ℕ) (lent : List ℤ) (a : encoder.Answer) (left : List ℤ)
    → ¬ (length octets ≡ 160) → encoder.number a ≡ 2 → ¬ Encodes e (alaw_samples octets) lent a left
codewords_first_octets e octets lent a left h n p = second_first (encoder.number a) octets lent _
    (encode_alaw_refuses e octets lent a left p) h n

pub codewords_first_heard : (d : Decoder) (codewords lent : List ℤ) (a : decoder.Answer) (left : List ℤ)
    → ¬ (length lent ≡ 160) → decoder.number a ≡ 2 → ¬ Decodes d codewords lent a left
codewords_first_heard d codewords lent a left h n p =
    second_first (decoder.number a) lent codewords _ (decode_refuses d codewords lent a left p) h n

pub codewords_first_heard_octets : (d : Decoder) (codewords : List ℤ) (lent : List ℕ) (a : decoder.Answer) (left : List ℕ)
    → ¬ (length lent ≡ 160) → decoder.number a ≡ 2 → ¬ DecodesAlaw d codewords lent a left
codewords_first_heard_octets d codewords lent a left h n p =
    second_first (decoder.number a) lent codewords _ (decode_alaw_refuses d codewords lent a left p) h n

-- ---- from home: what pulses, silence and their frames give, computed

pub record Computed : Type 0 where
  pub frame : (answers.encode home_coder pulses (zeros 76)).codewords ≡ first_frame
  pub ending : (answers.encode home_coder pulses (zeros 76)).ending ≡ some lpc.complete
  pub marks : (answers.encode home_coder pulses (zeros 76)).marks ≡ some house.rule ∷ replicate 3 (some house.found)
  pub oldest : (answers.encode home_coder pulses (zeros 76)).state.dp at 0 ≡ pos 3808
  pub silence : (answers.encode home_coder (zeros 160) (zeros 76)).codewords ≡ zero_frame
  pub silent_ending : (answers.encode home_coder (zeros 160) (zeros 76)).ending ≡ some lpc.silent
  pub silent_marks : (answers.encode home_coder (zeros 160) (zeros 76)).marks ≡ replicate 4 (some house.rule)
  pub decoded_oldest : (answers.decode home_decoder first_frame (zeros 160)).state.drp at 0 ≡ pos 3808
  pub first_sample : (answers.decode home_decoder first_frame (zeros 160)).samples at 0 ≡ pos 3584
  pub other_sample : (answers.decode home_decoder second_frame (zeros 160)).samples at 0 ≡ pos 0
  pub first_octet : get_or (answers.decode_alaw home_decoder first_frame (idle 160)).octets 0 0 ≡ 153
  pub other_octet : get_or (answers.decode_alaw home_decoder second_frame (idle 160)).octets 0 0 ≡ 213
  pub idle_ratio : (answers.encode home_coder (alaw_samples (idle 160)) (zeros 76)).codewords at 0 ≡ pos 9

computed : Computed
unfolding opened pulses first_frame second_frame zero_frame
computed = record {
  frame = refl;
  ending = refl;
  marks = refl;
  oldest = refl;
  silence = refl;
  silent_ending = refl;
  silent_marks = refl;
  decoded_oldest = refl;
  first_sample = refl;
  other_sample = refl;
  first_octet = refl;
  other_octet = refl;
  idle_ratio = refl;
}

-- ---- so no outcome that keeps the promise is one of these

module _ (e : Encoder) (h : coder e ≡ home_coder) where
  -- a home whose mp is positive
  pub emphasised_home : (n : ℕ) → ¬ (e.mp ≡ pos (suc n))
  unfolding coder home_coder
  emphasised_home n p = unlike (suc n) 0 (omega arith) (sym p ∙ ap (λ c. c.mp) h)

  -- a home whose L_z2 is positive
  pub offset_home : (n : ℕ) → ¬ (e.l_z2 ≡ pos (suc n))
  unfolding coder home_coder
  offset_home n p = unlike (suc n) 0 (omega arith) (sym p ∙ ap (λ c. c.L_z2) h)

module _ (d : Decoder) (h : memory d ≡ home_decoder) where
  -- a home that remembers another lag than 40
  pub lagless_home : (n : ℕ) → ¬ (n ≡ 40) → ¬ (d.nrp ≡ pos n)
  unfolding memory home_decoder
  lagless_home n k p = unlike n 40 k (sym p ∙ ap (λ m. m.nrp) h)

  -- a home with a history
  pub filled_home : (n : ℕ) → ¬ (d.drp at 0 ≡ pos (suc n))
  unfolding memory home_decoder
  filled_home n p = unlike (suc n) 0 (omega arith) (sym p ∙ ap (λ m. m.drp at 0) h)

-- a refusal that gives an ending: it says silent
pub refused_as_silent : (e : Encoder) (samples lent : List ℤ) (a : encoder.Answer) (left : List ℤ) → Encodes e samples lent a left
    → (n : ℕ) → encoder.number a ≡ suc n → ¬ (ending a ≡ some lpc.silent)
unfolding ending refused NotAbsent
refused_as_silent e samples lent a left p n h s =
    let none_said : ending a ≡ none = ap ending (encode_hands_back e samples lent a left p n h).0 in
    subst NotAbsent (sym s ∙ none_said) tt

module _ (e : Encoder) (h : coder e ≡ home_coder) (a : encoder.Answer) (w : List ℤ) (p : Encodes e pulses (zeros 76) a w) where
  -- the frame is the one computed
  own : w ≡ first_frame
  own = p.codewords ∙ ap (λ c. (answers.encode c pulses (zeros 76)).codewords) h ∙ computed.frame

  -- one constant frame: silence gives another frame than the pulses
  pub constant_frame : (b : encoder.Answer) → ¬ Encodes e (zeros 160) (zeros 76) b w
  unfolding first_frame zero_frame
  constant_frame b q =
      let same : first_frame ≡ zero_frame
      = sym own ∙ q.codewords ∙ ap (λ c. (answers.encode c (zeros 160) (zeros 76)).codewords) h ∙ computed.silence
      in
      unlike 42 32 (omega arith) (ap (λ c. c at 0) same)

  -- a coder left untouched
  pub untouched_coder : ¬ (encoder.state a ≡ e)
  unfolding home_coder
  untouched_coder s =
      let moved : (coder (encoder.state a)).dp at 0 ≡ pos 3808
      = ap (λ c. c.dp at 0) p.state ∙ ap (λ c. (answers.encode c pulses (zeros 76)).state.dp at 0) h ∙ computed.oldest
      in
      unlike 3808 0 (omega arith) (sym moved ∙ ap (λ c. c.dp at 0) (ap coder s ∙ h))

  -- sub-frame 1 coded, and 40 0 0 0 with fours after it
  pub first_only : ¬ (drop 25 w ≡ drop 25 zero_frame)
  unfolding first_frame zero_frame
  first_only z = unlike 3 0 (omega arith) (ap (λ c. c at 1) (sym (ap (drop 25) own) ∙ z))

  -- sub-frame 1 coded again instead of sub-frame 2
  pub first_again : ¬ (drop 25 w at 1 ≡ drop 8 w at 1)
  unfolding first_frame
  first_again z = unlike 3 0 (omega arith) (sym (ap (λ c. drop 25 c at 1) own) ∙ (z ∙ ap (λ c. drop 8 c at 1) own))

  -- an invented stop: the recursion is complete
  pub invented_stop : (n : ℕ) → ¬ (ending a ≡ some (lpc.stopped n))
  unfolding NotStopped
  invented_stop n s =
      let whole : ending a ≡ some lpc.complete
      = p.ending ∙ ap (λ c. (answers.encode c pulses (zeros 76)).ending) h ∙ computed.ending
      in
      subst NotStopped (sym whole ∙ s) tt

  -- every lag marked "rule": that of the second pulse is found
  pub dropped_found : ¬ (get_or (marks a) 1 none ≡ some house.rule)
  unfolding says_found
  dropped_found s =
      let measured : get_or (marks a) 1 none ≡ some house.found
      = ap (λ ms. get_or ms 1 none) (p.marks ∙ ap (λ c. (answers.encode c pulses (zeros 76)).marks) h ∙ computed.marks)
      in
      true≢false (ap says_found (sym measured ∙ s))

-- another stop number, or none: where the recursion stopped at n, the answer says so
pub stop_said : (e : Encoder) (samples lent : List ℤ) (a : encoder.Answer) (left : List ℤ) → Encodes e samples lent a left
    → (n : ℕ) → (answers.encode (coder e) samples lent).ending ≡ some (lpc.stopped n) → ending a ≡ some (lpc.stopped n)
stop_said e samples lent a left p n s = p.ending ∙ s

-- every lag marked "found": in silence none is
pub invented_found : (e : Encoder) → coder e ≡ home_coder → (a : encoder.Answer) (w : List ℤ) → Encodes e (zeros 160) (zeros 76) a w
    → (i : ℕ) → ¬ (get_or (marks a) i none ≡ some house.found)
unfolding says_found
invented_found e h a w p i s =
    let none-measured : marks a ≡ replicate 4 (some house.rule)
    = p.marks ∙ ap (λ c. (answers.encode c (zeros 160) (zeros 76)).marks) h ∙ computed.silent_marks
    in
    true≢false (sym (ap says_found (ap (λ ms. get_or ms i none) (sym none-measured) ∙ s)) ∙ none_found 4 i)

-- the ending dropped: silence answered as complete
pub dropped_ending : (e : Encoder) → coder e ≡ home_coder → (a : encoder.Answer) (w : List ℤ) → Encodes e (zeros 160) (zeros 76) a w
    → ¬ (ending a ≡ some lpc.complete)
unfolding NotComplete
dropped_ending e h a w p s =
    let none-measured : ending a ≡ some lpc.silent
    = p.ending ∙ ap (λ c. (answers.encode c (zeros 160) (zeros 76)).ending) h ∙ computed.silent_ending
    in
    subst NotComplete (sym none-measured ∙ s) tt

module _ (d : Decoder) (h : memory d ≡ home_decoder) (a : decoder.Answer) (w : List ℤ) (p : Decodes d first_frame (zeros 160) a w) where
  -- the same samples for every frame
  pub constant_samples : (b : decoder.Answer) → ¬ Decodes d second_frame (zeros 160) b w
  constant_samples b q =
      let own : w at 0 ≡ pos 3584
      = ap (λ c. c at 0) (p.samples ∙ ap (λ m. (answers.decode m first_frame (zeros 160)).samples) h) ∙ computed.first_sample
      in
      let other : w at 0 ≡ pos 0
      = ap (λ c. c at 0) (q.samples ∙ ap (λ m. (answers.decode m second_frame (zeros 160)).samples) h) ∙ computed.other_sample
      in
      unlike 3584 0 (omega arith) (sym own ∙ other)

  -- a decoder left untouched
  pub untouched_decoder : ¬ (decoder.state a ≡ d)
  unfolding home_decoder
  untouched_decoder s =
      let moved : (memory (decoder.state a)).drp at 0 ≡ pos 3808
      = ap (λ m. m.drp at 0) p.state ∙ ap (λ m. (answers.decode m first_frame (zeros 160)).state.drp at 0) h ∙ computed.decoded_oldest
      in
      unlike 3808 0 (omega arith) (sym moved ∙ ap (λ m. m.drp at 0) (ap memory s ∙ h))

-- the same octets for every frame
pub constant_octets : (d : Decoder) → memory d ≡ home_decoder → (a b : decoder.Answer) (w : List ℕ)
    → DecodesAlaw d first_frame (idle 160) a w → ¬ DecodesAlaw d second_frame (idle 160) b w
constant_octets d h a b w p q =
    let own : get_or w 0 0 ≡ 153
    = ap (λ o. get_or o 0 0) (p.octets ∙ ap (λ m. (answers.decode_alaw m first_frame (idle 160)).octets) h) ∙ computed.first_octet
    in
    let other : get_or w 0 0 ≡ 213
    = ap (λ o. get_or o 0 0) (q.octets ∙ ap (λ m. (answers.decode_alaw m second_frame (idle 160)).octets) h) ∙ computed.other_octet
    in
    absurd (omega arith)

-- the frame of silence for an idle line: D5 is sample 8
pub idle_as_silence : (e : Encoder) → coder e ≡ home_coder → (a : encoder.Answer)
    → ¬ Encodes e (alaw_samples (idle 160)) (zeros 76) a zero_frame
unfolding zero_frame
idle_as_silence e h a p =
    let own : zero_frame at 0 ≡ pos 9
    = ap (λ c. c at 0) (p.codewords ∙ ap (λ c. (answers.encode c (alaw_samples (idle 160)) (zeros 76)).codewords) h) ∙ computed.idle_ratio
    in
    unlike 32 9 (omega arith) own
