-- What the promises of decode and decode_alaw say of the struct that C gets: the number, what a refusal hands back, and that no choice
-- is left.
use Rattle.std.specs.Prelude.{ℕ, suc, ◌≡◌, List, ℤ}
use Rattle.std.proofs.Math.Path.{sym, ap}
use Rattle.std.proofs.Common.{◌∙◌}
use Rattle.standard.specs.House.{decode_refusal, decode_alaw_refusal}
use Rattle.decoder.specs.declared.Decoder.{Decoder}
use Rattle.decoder.specs.Promise.{memory}
use Rattle.law_refusals.specs.Calls.{decode_number, decode_refused, decode_alaw_number, decode_alaw_refused}
use Rattle.boundary.specs.declared.DecodeAnswer.{DecodeAnswer}
use Rattle.boundary.specs.Promise.{decode_answer, Decodes, DecodesAlaw}

module _ (d : Decoder) (codewords lent : List ℤ) (a : DecodeAnswer) (left : List ℤ) (p : Decodes d codewords lent a left) where
  -- the number answered is the one that the rows of the house rules' 'Refusals' give
  pub decode_number_is : a.number ≡ decode_refusal (memory d) codewords lent
  unfolding decode_answer
  decode_number_is = ap (λ (b : DecodeAnswer). b.number) p.answer ∙ decode_number (memory d) codewords lent

  -- a refusal returns the state as it was passed, and leaves the samples as they were
  pub decode_hands_back : (n : ℕ) → a.number ≡ suc n → (a ≡ record { state = d; number = suc n }) × (left ≡ lent)
  unfolding decode_answer memory
  decode_hands_back n h =
      let r = decode_refused (memory d) codewords lent n (sym decode_number_is ∙ h) in
      (rw r at p.answer, rw r at p.samples)

  -- any other outcome of the call is the same
  pub one_decoding : (b : DecodeAnswer) (left' : List ℤ) → Decodes d codewords lent b left' → (a ≡ b) × (left ≡ left')
  one_decoding b left' q = (p.answer ∙ sym q.answer, p.samples ∙ sym q.samples)

-- decode_alaw, with octets in the place of the samples
module _ (d : Decoder) (codewords : List ℤ) (lent : List ℕ) (a : DecodeAnswer) (left : List ℕ)
    (p : DecodesAlaw d codewords lent a left) where
  pub decode_alaw_number_is : a.number ≡ decode_alaw_refusal (memory d) codewords lent
  unfolding decode_answer
  decode_alaw_number_is = ap (λ (b : DecodeAnswer). b.number) p.answer ∙ decode_alaw_number (memory d) codewords lent

  pub decode_alaw_hands_back : (n : ℕ) → a.number ≡ suc n → (a ≡ record { state = d; number = suc n }) × (left ≡ lent)
  unfolding decode_answer memory
  decode_alaw_hands_back n h =
      let r = decode_alaw_refused (memory d) codewords lent n (sym decode_alaw_number_is ∙ h) in
      (rw r at p.answer, rw r at p.octets)

  pub one_decoding_alaw : (b : DecodeAnswer) (left' : List ℕ) → DecodesAlaw d codewords lent b left' → (a ≡ b) × (left ≡ left')
  one_decoding_alaw b left' q = (p.answer ∙ sym q.answer, p.octets ∙ sym q.octets)
