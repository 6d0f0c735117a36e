-- What the house rules say of any outcome that encode's promise allows: the number and when it is given ('Refusals'), sound
-- states ('Soundness'), the fields and the low bits of a sample ('Samples and codewords'), home ('Home').
use Rattle.std.specs.Prelude.{◌≡◌, true, List, map, ℤ, length}
use Rattle.std.proofs.Common.{sym, ap, ◌∙◌}
use Rattle.std.proofs.lemmas.List.{length-map}
use Rattle.math_lists.specs.Every.{every}
use Rattle.standard.specs.Frame.{sample}
use Rattle.standard.specs.Coder.{Coder, coded}
use Rattle.standard.specs.House.{home_coder, sound_coder, encode_refusal, fits}
use Rattle.standard.specs.Answers as answers
use Rattle.law_arithmetic.specs.Within.{word}
use Rattle.law_refusals.specs.Calls.{encode_number, encode_done}
use Rattle.law_fields.specs.Fields.{coded_fits}
use Rattle.law_fields.specs.Samples.{coded_samples}
use Rattle.law_soundness.specs.States.{home_coder_sound, encode_sound}
use Rattle.encoder.specs.declared.Encoder.{Encoder}
use Rattle.encoder.specs.Promise.{coder, Answer, number, state, Encodes, same_state, one_outcome}

-- samples whose 13 valid bits are the same are coded alike
low_bits : (c : Coder) (s s' w : List ℤ) → every word s ≡ true → every word s' ≡ true → map sample s ≡ map sample s'
    → answers.encode c s w ≡ answers.encode c s' w
unfolding answers.encode encode_refusal
low_bits c s s' w h h' e =
    let l : length s ≡ length s' = sym (length-map s sample) ∙ (ap length e ∙ length-map s' sample) in
    let t : coded c s ≡ coded c s' = sym (coded_samples c s h) ∙ (ap (coded c) e ∙ coded_samples c s' h') in
    rw (l, t)

module _ (e : Encoder) (samples lent : List ℤ) (a : Answer) (left : List ℤ) (p : Encodes e samples lent a left) where
  -- the number answered is the one that the rows of 'Refusals' give
  pub number_is : number a ≡ encode_refusal (coder e) samples lent
  number_is = p.number ∙ encode_number (coder e) samples lent

  -- from a sound state the answer's state is sound, refused or not
  pub state_sound : sound_coder (coder e) ≡ true → every word samples ≡ true → sound_coder (coder (state a)) ≡ true
  state_sound h w = rw p.state (encode_sound (coder e) samples lent h w)

  -- where nothing is refused, each codeword fits its field: the other bits are 0
  pub fields_fit : number a ≡ 0 → fits left ≡ true
  fields_fit n =
      let t = encode_done (coder e) samples lent (sym number_is ∙ n) in
      rw (rw t at p.codewords) (coded_fits (coder e) samples)

  -- the low 3 bits of a sample change nothing: samples with the same valid bits have the same outcome
  pub valid_only : (samples' : List ℤ) (b : Answer) (left' : List ℤ) → every word samples ≡ true → every word samples' ≡ true
      → map sample samples ≡ map sample samples' → Encodes e samples' lent b left' → (a ≡ b) × (left ≡ left')
  valid_only samples' b left' h h' s q =
      let v = low_bits (coder e) samples samples' lent h h' s in
      one_outcome e samples lent a b left left' p
      (record {
        number = rw v q.number;
        state = rw v q.state;
        ending = rw v q.ending;
        marks = rw v q.marks;
        codewords = rw v q.codewords;
      })

-- ---- home

-- there is one, and it is sound
pub one_home : (d e : Encoder) → coder d ≡ home_coder → coder e ≡ home_coder → d ≡ e
one_home d e p q = same_state d e (p ∙ sym q)

pub home_sound : (e : Encoder) → coder e ≡ home_coder → sound_coder (coder e) ≡ true
home_sound e p = rw p home_coder_sound
