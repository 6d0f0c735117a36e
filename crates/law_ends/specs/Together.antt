-- Demand 3: both ends stay together.
--
-- Take any finite sequence of calls of encode and decode, on samples or on octets of A-law, in any order and on any buffers. Both ends
-- start from home. Refused calls may stand anywhere in the sequence. The samples of octets are those that the octets stand for.
-- If (`Handed`)
--   no frame is coded while the one before it still waits to be handed over, and
--   what is decoded is the frame that waits, its valid bits intact, whatever the other bits are,
-- then (`Shown`)
--   every codeword of every frame fits its field, every lag is from 40 to 120, and none of the six sums saturates at any step;
--   after each frame that was handed over both ends hold the same 120 residual samples and the same eight decoded ratios.
-- A call that breaks the condition is not covered, nor are the calls after it. The calls before it are covered: they are a sequence of
-- their own.
use Rattle.std.specs.Prelude.{ℕ, ◌≡◌, true, List, [], ◌∷◌, map, ℤ}
use Rattle.std.proofs.Math.Option
use Rattle.std.proofs.Math.Option.{Option, none, some}
use Rattle.math_lists.specs.Every.{every}
use Rattle.standard.specs.Frame.{valid, received}
use Rattle.standard.specs.LongTerm.{is_lag}
use Rattle.standard.specs.Alaw.{alaw_samples}
use Rattle.standard.specs.House.{home_coder, home_decoder, fits}
use Rattle.standard.specs.Answers.{answer}
use Rattle.law_arithmetic.specs.Within.{word}
use Rattle.pcm_alaw.specs.Facts.{samples_words}
use Rattle.law_limits.specs.Sums.{SixSums}
use Rattle.encoder.specs.declared.Encoder.{Encoder}
use Rattle.encoder.specs.Promise as encoder
use Rattle.encoder.specs.Promise.{coder, Encodes}
use Rattle.decoder.specs.declared.Decoder.{Decoder}
use Rattle.decoder.specs.Promise as decoder
use Rattle.decoder.specs.Promise.{memory, Decodes, DecodesAlaw, octets_decode}
use Rattle.law_ends.specs.Holds.{Holds, home_holds, encode_holds, encode_shows, decode_holds, decode_shows}

-- a call as it was made: the two buffers passed, the answer, and what was left in the buffer that the call may alter
pub data Call : Type 0 where
  encodes : (samples codewords : List ℤ) (a : encoder.Answer) (left : List ℤ) → Call
  encodes_alaw : (octets : List ℕ) (codewords : List ℤ) (a : encoder.Answer) (left : List ℤ) → Call
  decodes : (codewords samples : List ℤ) (a : decoder.Answer) (left : List ℤ) → Call
  decodes_alaw : (codewords : List ℤ) (octets : List ℕ) (a : decoder.Answer) (left : List ℕ) → Call

-- both ends, and the frame that was returned and is not yet handed over
pub record Ends : Type 0 where
  pub encoder : Encoder
  pub decoder : Decoder
  pub waiting : Option (List ℤ)

-- after a call: the state that it returns; a frame waits once it is coded, and none waits once a frame is decoded
abbrev pub sent : Ends → encoder.Answer → List ℤ → Ends
sent t a left = record { encoder = encoder.state a; decoder = t.decoder; waiting = answer (encoder.number a) (some left) (λ _. t.waiting) }

abbrev pub heard : Ends → decoder.Answer → Ends
heard t a = record { encoder = t.encoder; decoder = decoder.state a; waiting = answer (decoder.number a) none (λ _. t.waiting) }

unfoldable pub after : Ends → Call → Ends
after t (encodes _ _ a left) = sent t a left
after t (encodes_alaw _ _ a left) = sent t a left
after t (decodes _ _ a _) = heard t a
after t (decodes_alaw _ _ a _) = heard t a

-- this much is true of every call: it keeps its promise; and samples are words, by their type (`limits` promises this of any samples)
unfoldable pub Made : Ends → Call → Type 0
Made t (encodes samples codewords a left) = Encodes t.encoder samples codewords a left × (every word samples ≡ true)
Made t (encodes_alaw octets codewords a left) = Encodes t.encoder (alaw_samples octets) codewords a left
Made t (decodes codewords samples a left) = Decodes t.decoder codewords samples a left
Made t (decodes_alaw codewords octets a left) = DecodesAlaw t.decoder codewords octets a left

-- the condition, which the caller has to meet
abbrev pub MaySend : Ends → encoder.Answer → Type 0
MaySend t a = encoder.number a ≡ 0 → t.waiting ≡ none

abbrev pub MayHear : Ends → List ℤ → decoder.Answer → Type 0
MayHear t codewords a = decoder.number a ≡ 0 → Option.map valid t.waiting ≡ some (valid codewords)

unfoldable pub Handed : Ends → Call → Type 0
Handed t (encodes _ _ a _) = MaySend t a
Handed t (encodes_alaw _ _ a _) = MaySend t a
Handed t (decodes codewords _ a _) = MayHear t codewords a
Handed t (decodes_alaw codewords _ a _) = MayHear t codewords a

-- the lags of a frame, as the decoder reads them
unfoldable pub lags : List ℤ → List ℤ
lags codewords = map (λ f. f.Nc) (received codewords).subframes

-- what is shown of a frame that was coded, and of one that was decoded
abbrev pub Fitting : Ends → List ℤ → encoder.Answer → List ℤ → Type 0
Fitting t samples a left = encoder.number a ≡ 0 → (fits left ≡ true) × (every is_lag (lags left) ≡ true) × SixSums (coder t.encoder) samples

abbrev pub Same : Ends → decoder.Answer → Type 0
Same t a = decoder.number a ≡ 0 → ((coder t.encoder).dp ≡ (memory (decoder.state a)).drp)
    × ((coder t.encoder).LARpp ≡ (memory (decoder.state a)).LARpp)

unfoldable pub Shown : Ends → Call → Type 0
Shown t (encodes samples _ a left) = Fitting t samples a left
Shown t (encodes_alaw octets _ a left) = Fitting t (alaw_samples octets) a left
Shown t (decodes _ _ a _) = Same t a
Shown t (decodes_alaw _ _ a _) = Same t a

-- P at each call of a sequence
unfoldable pub Along : (Ends → Call → Type 0) → Ends → List Call → Type 0
Along P t [] = Unit {0}
Along P t (c ∷ calls) = P t c × Along P (after t c) calls

-- both ends at the start, where no frame waits yet
abbrev pub at_home : Encoder → Decoder → Ends
at_home e d = record { encoder = e; decoder = d; waiting = none }

-- demand 3
pub together : (e : Encoder) (d : Decoder) → coder e ≡ home_coder → memory d ≡ home_decoder
    → (calls : List Call) → let start = at_home e d in Along Made start calls → Along Handed start calls → Along Shown start calls
unfolding after Made Handed Shown lags Along
together e d p q = along_calls (at_home e d) (rw (p, q) home_holds)
  where
    -- what holds of both ends
    Held : Ends → Type 0
    Held t = Holds (coder t.encoder) (memory t.decoder) t.waiting

    -- a frame that is coded, or refused, keeps it
    kept_sent : (t : Ends) (samples codewords : List ℤ) (a : encoder.Answer) (left : List ℤ)
        → Encodes t.encoder samples codewords a left → every word samples ≡ true → MaySend t a → Held t → Held (sent t a left)
    kept_sent t samples codewords a left m w k h =
        rw (m.state, m.number, m.codewords) (encode_holds _ _ _ samples codewords h w (rw m.number at k))

    -- and is as it is shown
    shown_sent : (t : Ends) (samples codewords : List ℤ) (a : encoder.Answer) (left : List ℤ)
        → Encodes t.encoder samples codewords a left → every word samples ≡ true → Held t → Fitting t samples a left
    shown_sent t samples codewords a left m w h =
        λ n. rw m.codewords (encode_shows _ _ _ samples codewords h w (rw m.number at n))

    -- so is one that is decoded
    kept_heard : (t : Ends) (codewords samples : List ℤ) (a : decoder.Answer) (left : List ℤ)
        → Decodes t.decoder codewords samples a left → MayHear t codewords a → Held t → Held (heard t a)
    kept_heard t codewords samples a left m k h = rw (m.state, m.number) (decode_holds _ _ _ codewords samples h (rw m.number at k))

    shown_heard : (t : Ends) (codewords samples : List ℤ) (a : decoder.Answer) (left : List ℤ)
        → Decodes t.decoder codewords samples a left → MayHear t codewords a → Held t → Same t a
    shown_heard t codewords samples a left m k h =
        λ n.
        let g = decode_shows _ _ _ codewords samples h (rw m.number at k) (rw m.number at n) in
        rw m.state (g.history, g.ratios)

    -- a call on octets is one on samples: those that they stand for, or as many as they are
    kept : (t : Ends) (c : Call) → Made t c → Handed t c → Held t → Held (after t c)
    kept t (encodes samples codewords a left) (m, w) k h = kept_sent t samples codewords a left m w k h
    kept t (encodes_alaw octets codewords a left) m k h = kept_sent t (alaw_samples octets) codewords a left m (samples_words octets) k h
    kept t (decodes codewords samples a left) m k h = kept_heard t codewords samples a left m k h
    kept t (decodes_alaw codewords octets a left) m k h = kept_heard t codewords _ a _ (octets_decode _ codewords octets a left m) k h

    shown : (t : Ends) (c : Call) → Made t c → Handed t c → Held t → Shown t c
    shown t (encodes samples codewords a left) (m, w) k h = shown_sent t samples codewords a left m w h
    shown t (encodes_alaw octets codewords a left) m k h = shown_sent t (alaw_samples octets) codewords a left m (samples_words octets) h
    shown t (decodes codewords samples a left) m k h = shown_heard t codewords samples a left m k h
    shown t (decodes_alaw codewords octets a left) m k h = shown_heard t codewords _ a _ (octets_decode _ codewords octets a left m) k h

    -- one call after the other
    along_calls : (t : Ends) → Held t → (calls : List Call) → Along Made t calls → Along Handed t calls → Along Shown t calls
    along_calls t h [] made handed = tt
    along_calls t h (c ∷ calls) (m, made) (k, handed) = (shown t c m k h, along_calls (after t c) (kept t c m k h) calls made handed)
