-- What the house rules say of any outcome that decode's promise allows: the number and when it is given ('Refusals'), sound
-- states ('Soundness'), valid bits and the low bits of a sample ('Samples and codewords'), home ('Home').
use Rattle.std.specs.Prelude.{◌≡◌, true, List, map, ℤ, length}
use Rattle.std.proofs.Common.{sym, ◌∙◌}
use Rattle.standard.specs.Frame.{sample, valid, received}
use Rattle.standard.specs.House.{home_decoder, sound_decoder, decode_refusal}
use Rattle.law_refusals.specs.Calls.{decode_number, decode_done}
use Rattle.law_lengths.specs.Frames.{home_decoder_sound}
use Rattle.law_fields.specs.Valid.{decode_valid}
use Rattle.law_fields.specs.Samples.{decoded_samples}
use Rattle.law_soundness.specs.States.{decode_sound}
use Rattle.decoder.specs.declared.Decoder.{Decoder}
use Rattle.decoder.specs.Promise.{memory, Answer, number, state, Decodes, same_state, one_outcome}

module _ (d : Decoder) (codewords lent : List ℤ) (a : Answer) (left : List ℤ) (p : Decodes d codewords lent a left) where
  -- the number answered is the one that the rows of 'Refusals' give
  pub number_is : number a ≡ decode_refusal (memory d) codewords lent
  number_is = p.number ∙ decode_number (memory d) codewords lent

  -- from a sound state the answer's state is sound, refused or not
  pub state_sound : sound_decoder (memory d) ≡ true → sound_decoder (memory (state a)) ≡ true
  state_sound h = rw p.state (decode_sound (memory d) codewords lent h)

  -- where nothing is refused, the low 3 bits of each sample are 0
  pub low_bits_clear : number a ≡ 0 → map sample left ≡ left
  low_bits_clear e =
      let t = decode_done (memory d) codewords lent (sym number_is ∙ e) in
      rw (rw t at p.samples) (decoded_samples (memory d) (received codewords))

  -- bits outside the fields change nothing: codewords with the same valid bits have the same outcome
  pub valid_only : (codewords' : List ℤ) (b : Answer) (left' : List ℤ)
      → length codewords ≡ length codewords' → valid codewords ≡ valid codewords'
      → Decodes d codewords' lent b left' → (a ≡ b) × (left ≡ left')
  valid_only codewords' b left' l e q =
      let v = decode_valid (memory d) codewords codewords' lent l e in
      one_outcome d codewords lent a b left left' p
      (record { number = rw v q.number; state = rw v q.state; samples = rw v q.samples })

-- ---- home

-- there is one, and it is sound
pub one_home : (d e : Decoder) → memory d ≡ home_decoder → memory e ≡ home_decoder → d ≡ e
one_home d e p q = same_state d e (p ∙ sym q)

pub home_sound : (d : Decoder) → memory d ≡ home_decoder → sound_decoder (memory d) ≡ true
home_sound d p = rw p home_decoder_sound
