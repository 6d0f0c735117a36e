-- The calls: encode gives four marks, whether it refuses or not.
use Rattle.std.specs.Prelude.{◌≡◌, refl, List, ℤ, length}
use Rattle.std.proofs.lemmas.List.{length-map}
use Rattle.standard.specs.Coder.{Coder}
use Rattle.standard.specs.House.{encode_refusal}
use Rattle.standard.specs.Answers.{Encoded, encode}
use Rattle.law_refusals.specs.Rows.{by_answer}
use Rattle.law_lengths.specs.Frames.{coded_subframes}

-- encode gives four marks
pub encode_marks_length : (c : Coder) (samples codewords : List ℤ) → length (encode c samples codewords).marks ≡ 4
unfolding encode
encode_marks_length c samples codewords =
    by_answer (λ (t : Encoded). length t.marks ≡ 4) (encode_refusal c samples codewords)
    (λ e. simp (length-map, coded_subframes)) (λ k. refl)
