-- Demand 1 over any sequence of calls, whether frames are handed over in order or not: a state that came from home, or from a sound state,
-- is never refused as unsound.
use Rattle.std.specs.Prelude.{ℕ, ◌≡◌, Bool, true, List, [], ◌∷◌, eqb, length}
use Rattle.std.proofs.Common.{⊎_elim, arith, eqb-true}
use Rattle.std.proofs.lemmas.Bool.{eqb-false}
use Rattle.math_integers.specs.Halves.{either}
use Rattle.standard.specs.Alaw.{alaw_samples}
use Rattle.standard.specs.House.{home_coder, home_decoder, sound_coder, sound_decoder}
use Rattle.law_refusals.specs.Rows.{Exactly}
use Rattle.pcm_alaw.specs.Facts.{samples_words}
use Rattle.encoder.specs.declared.Encoder.{Encoder}
use Rattle.encoder.specs.Promise.{coder}
use Rattle.encoder.specs.Promise as encoder
use Rattle.encoder.specs.Calls as encoder-calls
use Rattle.decoder.specs.declared.Decoder.{Decoder}
use Rattle.decoder.specs.Promise.{memory, octets_decode}
use Rattle.decoder.specs.Promise as decoder
use Rattle.decoder.specs.Calls as decoder-calls
use Rattle.law_ends.specs.Together.{Call, encodes, encodes_alaw, decodes, decodes_alaw, Ends, after, Made, Along, at_home}
use Rattle.law_ends.specs.Demands.{encode_refuses, encode_alaw_refuses, decode_refuses, decode_alaw_refuses}

-- a call's number
unfoldable pub number : Call → ℕ
number (encodes _ _ a _) = encoder.number a
number (encodes_alaw _ _ a _) = encoder.number a
number (decodes _ _ a _) = decoder.number a
number (decodes_alaw _ _ a _) = decoder.number a

-- both states are sound
pub record Sound (t : Ends) : Type 0 where
  pub encoder : sound_coder (coder t.encoder) ≡ true
  pub decoder : sound_decoder (memory t.decoder) ≡ true

-- 3 is not given for a sound state, whatever the lengths are
not_third : {A B : Type 0} (n l m : ℕ) (xs : List A) (ys : List B) (good : Bool) → Exactly n l m 1 2 3 xs ys good → good ≡ true → ¬ (n ≡ 3)
not_third n l m xs ys good x g e =
    ⊎_elim
    (λ p.
    ⊎_elim
    (λ q. let done = x.allows (eqb-true (length xs) l p) (eqb-true (length ys) m q) g in absurd (omega arith))
    (λ q. let second = x.second (eqb-true (length xs) l p) (eqb-false (length ys) m q) in absurd (omega arith))
    (either (eqb (length ys) m)))
    (λ p. let first = x.first (eqb-false (length xs) l p) in absurd (omega arith))
    (either (eqb (length xs) l))

-- so no call gives 3
not_3 : (t : Ends) → Sound t → (c : Call) → Made t c → ¬ (number c ≡ 3)
unfolding Made number
not_3 t s (encodes samples codewords a left) (p, w) =
    not_third (encoder.number a) 160 76 samples codewords _ (encode_refuses t.encoder samples codewords a left p) s.encoder
not_3 t s (encodes_alaw octets codewords a left) p =
    not_third (encoder.number a) 160 76 octets codewords _ (encode_alaw_refuses t.encoder octets codewords a left p) s.encoder
not_3 t s (decodes codewords samples a left) p =
    not_third (decoder.number a) 160 76 samples codewords _ (decode_refuses t.decoder codewords samples a left p) s.decoder
not_3 t s (decodes_alaw codewords octets a left) p =
    not_third (decoder.number a) 160 76 octets codewords _ (decode_alaw_refuses t.decoder codewords octets a left p) s.decoder

-- and each call returns sound states
still_sound : (t : Ends) → Sound t → (c : Call) → Made t c → Sound (after t c)
unfolding Made after
still_sound t s (encodes samples codewords a left) (p, w) =
    record { encoder = encoder-calls.state_sound t.encoder samples codewords a left p s.encoder w; decoder = s.decoder }
still_sound t s (encodes_alaw octets codewords a left) p =
    record {
      encoder = encoder-calls.state_sound t.encoder (alaw_samples octets) codewords a left p s.encoder (samples_words octets);
      decoder = s.decoder;
    }
still_sound t s (decodes codewords samples a left) p =
    record { encoder = s.encoder; decoder = decoder-calls.state_sound t.decoder codewords samples a left p s.decoder }
still_sound t s (decodes_alaw codewords octets a left) p =
    let q = octets_decode t.decoder codewords octets a left p in
    record { encoder = s.encoder; decoder = decoder-calls.state_sound t.decoder codewords _ a _ q s.decoder }

-- from sound states on, whatever calls are made
pub never_unsound : (t : Ends) → Sound t → (calls : List Call) → Along Made t calls → Along (λ _ c. ¬ (number c ≡ 3)) t calls
unfolding Along
never_unsound t s [] made = tt
never_unsound t s (c ∷ calls) (m, made) = (not_3 t s c m, never_unsound (after t c) (still_sound t s c m) calls made)

-- so from home
pub never_unsound_from_home : (e : Encoder) (d : Decoder) → coder e ≡ home_coder → memory d ≡ home_decoder → (calls : List Call)
    → Along Made (at_home e d) calls → Along (λ _ c. ¬ (number c ≡ 3)) (at_home e d) calls
never_unsound_from_home e d p q =
    never_unsound (at_home e d) (record { encoder = encoder-calls.home_sound e p; decoder = decoder-calls.home_sound d q })
