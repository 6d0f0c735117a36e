-- No flag is lost on the way to C: each ending and each mark has a number of its own. In an answer the ending and the marks are 0 if and
-- only if the call was refused.
use Rattle.std.specs.Prelude.{ℕ, zero, suc, ◌+◌, ◌-◌, ◌<◌, ◌≡◌, refl, true, List, [], ◌∷◌, map, ℤ, ltb, replicate}
use Rattle.std.proofs.Math.Path.{sym, ap}
use Rattle.std.proofs.Common.{◌∙◌, arith}
use Rattle.std.proofs.Math.Option.{Option, none, some}
use Rattle.std.proofs.Math.ListN.{length, get_or, length-map, get_or-map}
use Rattle.math_lists.specs.Every.{every}
use Rattle.standard.specs.Lpc as lpc
use Rattle.standard.specs.House as house
use Rattle.standard.specs.House.{encode_refusal}
use Rattle.standard.specs.Coder.{Subcoded, coded}
use Rattle.encoder.specs.declared.Encoder.{Encoder}
use Rattle.encoder.specs.Promise.{coder}
use Rattle.standard.specs.Answers as answers
use Rattle.law_lengths.specs.Calls.{encode_marks_length}
use Rattle.law_refusals.specs.Calls.{encode_number, encode_done, encode_refused}
use Rattle.boundary.specs.declared.EncodeAnswer.{EncodeAnswer}
use Rattle.boundary.specs.Promise.{ending_number, mark_number, encode_answer, Encodes}

-- ---- each has a number of its own

-- an ending is read back from its number
abbrev ending_of : ℕ → Option lpc.Ending
ending_of zero = none
ending_of (suc zero) = some lpc.silent
ending_of (suc (suc zero)) = some lpc.complete
ending_of (suc (suc (suc n))) = some (lpc.stopped (n - 13))

-- each case comes back
ending_back : (e : Option lpc.Ending) → ending_of (ending_number e) ≡ e
unfolding ending_number
ending_back none = refl
ending_back (some lpc.silent) = refl
ending_back (some lpc.complete) = refl
ending_back (some (lpc.stopped n)) =
    let three : 16 + n ≡ suc (suc (suc (13 + n))) = omega arith in
    let place : 13 + n - 13 ≡ n = omega arith in
    ap ending_of three ∙ ap (λ k. some (lpc.stopped k)) place

-- so two endings of the same number are equal
pub one_ending : (e f : Option lpc.Ending) → ending_number e ≡ ending_number f → e ≡ f
one_ending e f p = sym (ending_back e) ∙ ap ending_of p ∙ ending_back f

-- a mark is read back too
abbrev mark_of : ℕ → Option house.Mark
mark_of zero = none
mark_of (suc zero) = some house.rule
mark_of (suc (suc n)) = some house.found

-- each case comes back
mark_back : (m : Option house.Mark) → mark_of (mark_number m) ≡ m
unfolding mark_number
mark_back none = refl
mark_back (some house.rule) = refl
mark_back (some house.found) = refl

-- so two marks of the same number are equal
pub one_mark : (m n : Option house.Mark) → mark_number m ≡ mark_number n → m ≡ n
one_mark m n p = sym (mark_back m) ∙ ap mark_of p ∙ mark_back n

-- ---- 0 exactly where encode refused

-- an ending's number is not 0
ended : (x : lpc.Ending) → 0 < ending_number (some x)
unfolding ending_number
ended lpc.silent = omega arith
ended lpc.complete = omega arith
ended (lpc.stopped n) = omega arith

-- nor is a mark's
marked : (m : house.Mark) → ltb 0 (mark_number (some m)) ≡ true
unfolding mark_number
marked house.rule = refl
marked house.found = refl

-- nor is that of any mark of a frame
all_marked : (xs : List Subcoded) → every (ltb 0) (map mark_number (map (λ s. some (house.mark s)) xs)) ≡ true
unfolding every
all_marked [] = refl
all_marked (x ∷ xs) = rw (marked (house.mark x)) (all_marked xs)

module _ (e : Encoder) (samples lent : List ℤ) (a : EncodeAnswer) (left : List ℤ) (p : Encodes e samples lent a left) where
  -- the number answered is the one that the rows of the house rules' 'Refusals' give
  pub number_is : a.number ≡ encode_refusal (coder e) samples lent
  unfolding encode_answer
  number_is = ap (λ (b : EncodeAnswer). b.number) p.answer ∙ encode_number (coder e) samples lent

  -- a refusal returns the state as it was passed, no ending and no marks, and leaves the codewords as they were
  pub encode_hands_back : (n : ℕ) → a.number ≡ suc n
      → (a ≡ record { state = e; number = suc n; ending = 0; marks = replicate 4 0 }) × (left ≡ lent)
  unfolding encode_answer ending_number mark_number coder
  encode_hands_back n h =
      let r = encode_refused (coder e) samples lent n (sym number_is ∙ h) in
      (rw r at p.answer, rw r at p.codewords)

  -- an answer with number 0 has an ending, and a mark for each of the four lags
  pub encode_says : a.number ≡ 0 → (0 < a.ending) × (length a.marks ≡ 4) × (every (ltb 0) a.marks ≡ true)
  unfolding encode_answer
  encode_says h =
      let t = (coded (coder e) samples).1 in
      let r = rw (encode_done (coder e) samples lent (sym number_is ∙ h)) at p.answer in
      let four = length-map (answers.encode (coder e) samples lent).marks mark_number ∙ encode_marks_length (coder e) samples lent in
      (rw r (ended t.ending), ap (λ (b : EncodeAnswer). length b.marks) p.answer ∙ four, rw r (all_marked t.subframes))

  -- each mark that is answered is the number of its own lag's mark
  pub mark_is : (i : ℕ) → get_or a.marks i 0 ≡ mark_number (get_or (answers.encode (coder e) samples lent).marks i none)
  unfolding encode_answer mark_number
  mark_is i = ap (λ (b : EncodeAnswer). get_or b.marks i 0) p.answer
      ∙ get_or-map mark_number (answers.encode (coder e) samples lent).marks i none

  -- so a lag that was found is not answered as one that was not
  pub found_as_rule : (i : ℕ) → get_or (answers.encode (coder e) samples lent).marks i none ≡ some house.found → ¬ (get_or a.marks i 0 ≡ 1)
  unfolding mark_number
  found_as_rule i f r = absurd (omega (arith, sym r ∙ mark_is i ∙ ap mark_number f))

  -- and a recursion that stopped at n is not said to have stopped at another step
  pub other_stop : (n m : ℕ) → (answers.encode (coder e) samples lent).ending ≡ some (lpc.stopped n) → ¬ (m ≡ n) → ¬ (a.ending ≡ 16 + m)
  unfolding encode_answer ending_number
  other_stop n m s h r =
      let said : a.ending ≡ 16 + n = ap (λ (b : EncodeAnswer). b.ending) p.answer ∙ ap ending_number s in
      h (omega (arith, sym r ∙ said))
