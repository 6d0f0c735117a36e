-- What decode and decode_alaw promise: their answer and the samples or the octets that they leave, read as values of the
-- definitions, are what the definitions `decode` and `decode_alaw` (`standard`, Answers) give.
use Prim.Native.Nat.{ℕ, zero, suc}
use Rattle.std.specs.Prelude.{◌≤◌, ◌≡◌, refl, List, map, ℤ, pos, length, Result, Ok, Err}
use Rattle.std.proofs.Common.{sym, ap, arith, ◌∙◌}
use Rattle.std.proofs.Math.Path.{subst}
use Rattle.std.proofs.lemmas.List.{length-map}
use Rattle.refusals.specs.declared.Refusal.{Refusal}
use Rattle.refusals.specs.declared.Refused.{Refused}
use Rattle.refusals.specs.Numbers as refusals
use Rattle.refusals.specs.Numbers.{number_of, refusal_of, number_back, refused_above, rows_most}
use Rattle.decoder.specs.declared.Decoder.{Decoder}
use Rattle.standard.specs.Decoder as standard
use Rattle.standard.specs.Frame.{received}
use Rattle.standard.specs.Alaw.{alaw_octets}
use Rattle.standard.specs.House.{decode_refusal, decode_alaw_refusal}
use Rattle.standard.specs.Answers as answers
use Rattle.standard.specs.Answers.{answer}
use Rattle.law_refusals.specs.Rows.{answer_else}
use Rattle.law_refusals.specs.Calls.{decode_done, decode_refused, decode_alaw_like, decode_alaw_as, decode_alaw_done, decode_alaw_refused}

-- what the state stands for
unfoldable pub memory : Decoder → standard.Decoder
memory d = record { drp = d.drp; nrp = d.nrp; LARpp = d.larpp; v = d.v; msr = d.msr }

-- ---- the answer: the state for the next call, or a refusal with the state as it was passed in

abbrev pub Answer : Type 0
Answer = Result Decoder (Refused Decoder)

-- the number, which is 0 where nothing is refused
abbrev pub number : Answer → ℕ
number = number_of

-- the state for the next call
unfoldable pub state : Answer → Decoder
state (Ok d) = d
state (Err r) = r.state

-- ---- the promise

-- the state, the codewords, the samples that were passed as a buffer, the answer, and the samples left in the buffer
pub record Decodes (d : Decoder) (codewords lent : List ℤ) (a : Answer) (left : List ℤ) : Type 0 where
  pub number : number a ≡ (answers.decode (memory d) codewords lent).number
  pub state : memory (state a) ≡ (answers.decode (memory d) codewords lent).state
  pub samples : left ≡ (answers.decode (memory d) codewords lent).samples

-- decode_alaw: octets in the place of the samples (house rules, 'A-law'; request W-204)
pub record DecodesAlaw (d : Decoder) (codewords : List ℤ) (lent : List ℕ) (a : Answer) (left : List ℕ) : Type 0 where
  pub number : number a ≡ (answers.decode_alaw (memory d) codewords lent).number
  pub state : memory (state a) ≡ (answers.decode_alaw (memory d) codewords lent).state
  pub octets : left ≡ (answers.decode_alaw (memory d) codewords lent).octets

-- ---- it determines the outcome: two states that stand for the same are equal

abbrev pub decoder_of : standard.Decoder → Decoder
decoder_of m = record { drp = m.drp; nrp = m.nrp; larpp = m.LARpp; v = m.v; msr = m.msr }

pub same_state : (d e : Decoder) → memory d ≡ memory e → d ≡ e
unfolding memory
same_state d e p = ap decoder_of p

-- a refusal, by its parts
abbrev handed : Refusal → Decoder → Refused Decoder
handed refusal state = record { refusal = refusal; state = state }

-- two answers of the same parts are equal
same_answer : (a b : Answer) → number a ≡ number b → state a ≡ state b → a ≡ b
unfolding number_of state
same_answer (Ok d) (Ok e) n s = ap Ok s
same_answer (Ok d) (Err r) n s = absurd (omega (arith, refused_above r.refusal))
same_answer (Err r) (Ok d) n s = absurd (omega (arith, refused_above r.refusal))
same_answer (Err r) (Err t) n s =
    let parts : handed r.refusal r.state ≡ handed t.refusal t.state = cc (refusals.one_refusal r.refusal t.refusal n, s) in
    ap Err parts

-- any two outcomes that satisfy the promise are equal
pub one_outcome : (d : Decoder) (codewords lent : List ℤ) (a b : Answer) (l r : List ℤ)
    → Decodes d codewords lent a l → Decodes d codewords lent b r → (a ≡ b) × (l ≡ r)
one_outcome d codewords lent a b l r p q =
    let kept = same_state (state a) (state b) (p.state ∙ sym q.state) in
    (same_answer a b (p.number ∙ sym q.number) kept, p.samples ∙ sym q.samples)

-- ---- what it says of a refusal

-- the refusal of the number, the state as it was passed in
unfoldable pub refused : ℕ → Decoder → Answer
refused n d = Err (record { refusal = refusal_of n; state = d })

module _ (d : Decoder) (codewords lent : List ℤ) (n : ℕ) (h : decode_refusal (memory d) codewords lent ≡ suc n) where
  -- the number is that of a refusal
  numbered : number (refused (suc n) d) ≡ suc n
  unfolding refused number_of decode_refusal
  numbered = number_back n (subst (λ k. k ≤ 6) h (rows_most _ _ _ 1 2 3 (omega arith) (omega arith) (omega arith)))

  -- such an answer keeps the promise, with the samples as they were passed
  pub refusal_keeps : Decodes d codewords lent (refused (suc n) d) lent
  unfolding refused state
  refusal_keeps =
      let r = decode_refused (memory d) codewords lent n h in
      record { number = rw r numbered; state = rw r; samples = rw r }

  -- and no other does
  pub one_refusal : (a : Answer) (left : List ℤ) → Decodes d codewords lent a left → (a ≡ refused (suc n) d) × (left ≡ lent)
  one_refusal a left p = one_outcome d codewords lent a (refused (suc n) d) left lent p refusal_keeps

-- ---- what it says where nothing is refused

-- the number 0, the state and the samples of 4.3
pub done_keeps : (d : Decoder) (codewords lent : List ℤ) (s : Decoder) (left : List ℤ) → decode_refusal (memory d) codewords lent ≡ 0
    → memory s ≡ (standard.decoded (memory d) (received codewords)).0 → left ≡ (standard.decoded (memory d) (received codewords)).1
    → Decodes d codewords lent (Ok s) left
unfolding number_of state
done_keeps d codewords lent s left h p q =
    let r = decode_done (memory d) codewords lent h in
    record { number = rw r; state = rw r p; samples = rw r q }

-- ---- decode_alaw

-- any two outcomes that satisfy its promise are equal
pub one_octets : (d : Decoder) (codewords : List ℤ) (lent : List ℕ) (a b : Answer) (l r : List ℕ)
    → DecodesAlaw d codewords lent a l → DecodesAlaw d codewords lent b r → (a ≡ b) × (l ≡ r)
one_octets d codewords lent a b l r p q =
    let kept = same_state (state a) (state b) (p.state ∙ sym q.state) in
    (same_answer a b (p.number ∙ sym q.number) kept, p.octets ∙ sym q.octets)

module _ (d : Decoder) (codewords : List ℤ) (lent : List ℕ) (n : ℕ) (h : decode_alaw_refusal (memory d) codewords lent ≡ suc n) where
  -- the number is that of a refusal
  numbered_octets : number (refused (suc n) d) ≡ suc n
  unfolding refused number_of decode_alaw_refusal
  numbered_octets = number_back n (subst (λ k. k ≤ 6) h (rows_most _ _ _ 1 2 3 (omega arith) (omega arith) (omega arith)))

  -- a refusal keeps it, with the octets as they were passed
  pub refusal_keeps_octets : DecodesAlaw d codewords lent (refused (suc n) d) lent
  unfolding refused state
  refusal_keeps_octets =
      let r = decode_alaw_refused (memory d) codewords lent n h in
      record { number = rw r numbered_octets; state = rw r; octets = rw r }

  -- and no other answer does
  pub one_octets_refusal : (a : Answer) (left : List ℕ) → DecodesAlaw d codewords lent a left → (a ≡ refused (suc n) d) × (left ≡ lent)
  one_octets_refusal a left p = one_octets d codewords lent a (refused (suc n) d) left lent p refusal_keeps_octets

module _ (d : Decoder) (codewords samples : List ℤ) (a : Answer) (left : List ℤ) (p : Decodes d codewords samples a left)
    (lent : List ℕ) where
  by_number : (n : ℕ) → decode_refusal (memory d) codewords samples ≡ n → length lent ≡ length samples
      → DecodesAlaw d codewords lent a (answer (number a) (alaw_octets left) (λ _. lent))
  unfolding answer
  by_number zero e l =
      let r = decode_done (memory d) codewords samples e in
      let q = decode_alaw_done (memory d) codewords lent (decode_alaw_like (memory d) codewords lent samples l ∙ e) in
      let given : number a ≡ 0 = rw r at p.number in
      let same : left ≡ (standard.decoded (memory d) (received codewords)).1 = rw r at p.samples in
      record { number = rw (q, given); state = rw q (rw r at p.state); octets = rw (q, given, same) }
  by_number (suc n) e l =
      let r = decode_refused (memory d) codewords samples n e in
      let q = decode_alaw_refused (memory d) codewords lent n (decode_alaw_like (memory d) codewords lent samples l ∙ e) in
      let given : number a ≡ suc n = rw r at p.number in
      record { number = rw (q, given); state = rw q (rw r at p.state); octets = rw (q, given) }

  -- decode's answer keeps it, with decode's samples as octets where the number is 0 and the octets as they were where not
  pub octets_keep : length lent ≡ length samples → DecodesAlaw d codewords lent a (answer (number a) (alaw_octets left) (λ _. lent))
  octets_keep = by_number (decode_refusal (memory d) codewords samples) refl

-- so it does where decode is done
pub done_octets : (d : Decoder) (codewords samples : List ℤ) (s : Decoder) (left : List ℤ) → Decodes d codewords samples (Ok s) left
    → (lent : List ℕ) → length lent ≡ length samples → DecodesAlaw d codewords lent (Ok s) (alaw_octets left)
unfolding answer number_of
done_octets d codewords samples s left p lent l = octets_keep d codewords samples (Ok s) left p lent l

-- and where it refuses
pub refused_octets : (d : Decoder) (codewords samples : List ℤ) (r : Refused Decoder) (left : List ℤ)
    → Decodes d codewords samples (Err r) left
    → (lent : List ℕ) → length lent ≡ length samples → DecodesAlaw d codewords lent (Err r) lent
unfolding number_of
refused_octets d codewords samples r left p lent l =
    let above : ¬ (number (Err r) ≡ 0) = λ e. absurd (omega (arith, refused_above r.refusal)) in
    rw (answer_else (number (Err r)) (alaw_octets left) lent above) at (octets_keep d codewords samples (Err r) left p lent l)

module _ (d : Decoder) (codewords : List ℤ) (lent : List ℕ) (a : Answer) (left : List ℕ) (p : DecodesAlaw d codewords lent a left) where
  -- number and state are those of decode where it is passed as many samples
  pub octets_decode : Decodes d codewords (map pos lent) a (answers.decode (memory d) codewords (map pos lent)).samples
  octets_decode =
      let e = decode_alaw_as (memory d) codewords lent (map pos lent) (sym (length-map lent pos)) in
      record { number = p.number ∙ e.0; state = p.state ∙ e.1; samples = refl }
