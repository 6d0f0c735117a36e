-- What encode promises: its answer and the codewords that it leaves, read as values of the definitions, are what the
-- definition `encode` (`standard`, Answers) gives.
use Rattle.std.specs.Prelude.{ℕ, suc, ◌≤◌, ◌≡◌, refl, List, [], ◌∷◌, map, ℤ, replicate, Result, Ok, Err}
use Rattle.std.proofs.Common.{sym, ap, arith, ◌∙◌}
use Rattle.std.proofs.Math.Path.{subst}
use Rattle.std.proofs.Math.Option.{Option, none, some, some-injective}
use Rattle.refusals.specs.declared.Refusal.{Refusal}
use Rattle.refusals.specs.declared.Refused.{Refused}
use Rattle.refusals.specs.Numbers as refusals
use Rattle.refusals.specs.Numbers.{number_of, refusal_of, number_back, refused_above, rows_most}
use Rattle.lpc_reflection.specs.declared.Ending.{Ending}
use Rattle.lpc_reflection.specs.declared.Ending.TheVariants as Ending-of
use Rattle.lpc_reflection.specs.Promise.{ended}
use Rattle.encoder.specs.declared.Encoder.{Encoder}
use Rattle.encoder.specs.declared.Mark.{Mark}
use Rattle.encoder.specs.declared.Mark.TheVariants as Mark-of
use Rattle.encoder.specs.declared.Encoded.{Encoded}
use Rattle.standard.specs.Lpc as lpc
use Rattle.standard.specs.Frame.{words}
use Rattle.standard.specs.Coder.{Coder, coded, frame}
use Rattle.standard.specs.House as house
use Rattle.standard.specs.House.{encode_refusal}
use Rattle.standard.specs.Answers as answers
use Rattle.law_refusals.specs.Calls.{encode_refused, encode_done}

-- ---- what the types stand for

-- the state
unfoldable pub coder : Encoder → Coder
coder e = record { z1 = e.z1; L_z2 = e.l_z2; mp = e.mp; LARpp = e.larpp; u = e.u; dp = e.dp }

-- each case of a mark
unfoldable pub mark : Mark → Option house.Mark
mark Mark-of.Rule = some house.rule
mark Mark-of.Found = some house.found

-- ---- the answer: what a frame gives, or a refusal with the state as it was passed in

abbrev pub Answer : Type 0
Answer = Result Encoded (Refused Encoder)

-- the number, which is 0 where nothing is refused
abbrev pub number : Answer → ℕ
number = number_of

-- the state for the next call
unfoldable pub state : Answer → Encoder
state (Ok a) = a.state
state (Err r) = r.state

-- the ending; none where the call is refused
unfoldable pub ending : Answer → Option lpc.Ending
ending (Ok a) = some (ended a.ending)
ending (Err r) = none

-- the marks of the four sub-frames, in order; none where the call is refused
unfoldable pub marks : Answer → List (Option house.Mark)
marks (Ok a) = map mark a.marks
marks (Err r) = replicate 4 none

-- ---- the promise

-- the state, the samples, the codewords that were passed as a buffer, the answer, and the codewords left in the buffer
pub record Encodes (e : Encoder) (samples lent : List ℤ) (a : Answer) (left : List ℤ) : Type 0 where
  pub number : number a ≡ (answers.encode (coder e) samples lent).number
  pub state : coder (state a) ≡ (answers.encode (coder e) samples lent).state
  pub ending : ending a ≡ (answers.encode (coder e) samples lent).ending
  pub marks : marks a ≡ (answers.encode (coder e) samples lent).marks
  pub codewords : left ≡ (answers.encode (coder e) samples lent).codewords

-- ---- it determines the outcome: two values of a type that stand for the same are equal

-- a state is read back from what it stands for
abbrev pub encoder_of : Coder → Encoder
encoder_of c = record { z1 = c.z1; l_z2 = c.L_z2; mp = c.mp; larpp = c.LARpp; u = c.u; dp = c.dp }

-- so two states that stand for the same are equal
pub same_state : (e f : Encoder) → coder e ≡ coder f → e ≡ f
unfolding coder
same_state e f p = ap encoder_of p

-- an ending is read back too
abbrev pub ending_of : lpc.Ending → Ending
ending_of lpc.silent = Ending-of.Silent
ending_of (lpc.stopped n) = Ending-of.Stopped n
ending_of lpc.complete = Ending-of.Complete

-- each case comes back
ending_back : (e : Ending) → ending_of (ended e) ≡ e
unfolding ended
ending_back Ending-of.Silent = refl
ending_back (Ending-of.Stopped n) = refl
ending_back Ending-of.Complete = refl

-- so two endings that stand for the same are equal
pub same_ending : (e f : Ending) → ended e ≡ ended f → e ≡ f
same_ending e f p = sym (ending_back e) ∙ ap ending_of p ∙ ending_back f

-- a mark is read back too
abbrev pub mark_of : Option house.Mark → Mark
mark_of none = Mark-of.Rule
mark_of (some house.rule) = Mark-of.Rule
mark_of (some house.found) = Mark-of.Found

-- and a row of them
abbrev pub marks_of : List (Option house.Mark) → List Mark
marks_of = map mark_of

-- each case comes back
mark_back : (m : Mark) → mark_of (mark m) ≡ m
unfolding mark
mark_back Mark-of.Rule = refl
mark_back Mark-of.Found = refl

-- and each of a row
marks_back : (ms : List Mark) → marks_of (map mark ms) ≡ ms
marks_back [] = refl
marks_back (m ∷ ms) = rw (mark_back m, marks_back ms)

-- so two rows of marks that stand for the same are equal
same_marks : (m n : List Mark) → map mark m ≡ map mark n → m ≡ n
same_marks m n p = sym (marks_back m) ∙ ap marks_of p ∙ marks_back n

-- what a frame gives, by its parts
abbrev encoded : Encoder → Ending → List Mark → Encoded
encoded state ending marks = record { state = state; ending = ending; marks = marks }

-- a refusal, by its parts
abbrev handed : Refusal → Encoder → Refused Encoder
handed refusal state = record { refusal = refusal; state = state }

-- two answers of the same parts are equal
same_answer : (a b : Answer) → number a ≡ number b → state a ≡ state b → ending a ≡ ending b → marks a ≡ marks b → a ≡ b
unfolding number_of state ending marks
same_answer (Ok x) (Ok y) n s e m =
    let how = same_ending x.ending y.ending (some-injective _ _ e) in
    let parts : encoded x.state x.ending x.marks ≡ encoded y.state y.ending y.marks = cc (s, how, same_marks x.marks y.marks m) in
    ap Ok parts
same_answer (Ok x) (Err r) n s e m = absurd (omega (arith, refused_above r.refusal))
same_answer (Err r) (Ok x) n s e m = absurd (omega (arith, refused_above r.refusal))
same_answer (Err r) (Err t) n s e m =
    let parts : handed r.refusal r.state ≡ handed t.refusal t.state = cc (refusals.one_refusal r.refusal t.refusal n, s) in
    ap Err parts

-- any two outcomes that satisfy the promise are equal
pub one_outcome : (e : Encoder) (samples lent : List ℤ) (a b : Answer) (l r : List ℤ)
    → Encodes e samples lent a l → Encodes e samples lent b r → (a ≡ b) × (l ≡ r)
one_outcome e samples lent a b l r p q =
    let kept = same_state (state a) (state b) (p.state ∙ sym q.state) in
    let same = same_answer a b (p.number ∙ sym q.number) kept (p.ending ∙ sym q.ending) (p.marks ∙ sym q.marks) in
    (same, p.codewords ∙ sym q.codewords)

-- ---- what it says of a refusal

-- the refusal of the number, the state as it was passed in
unfoldable pub refused : ℕ → Encoder → Answer
refused n e = Err (record { refusal = refusal_of n; state = e })

module _ (e : Encoder) (samples lent : List ℤ) (n : ℕ) (h : encode_refusal (coder e) samples lent ≡ suc n) where
  -- the number is that of a refusal
  numbered : number_of (refused (suc n) e) ≡ suc n
  unfolding refused number_of encode_refusal
  numbered = number_back n (subst (λ k. k ≤ 6) h (rows_most _ _ _ 1 2 3 (omega arith) (omega arith) (omega arith)))

  -- such an answer keeps the promise, with the codewords as they were passed
  pub refusal_keeps : Encodes e samples lent (refused (suc n) e) lent
  unfolding refused state ending marks
  refusal_keeps =
      let r = encode_refused (coder e) samples lent n h in
      record { number = rw r numbered; state = rw r; ending = rw r; marks = rw r; codewords = rw r }

  -- and no other does
  pub one_refusal : (a : Answer) (left : List ℤ) → Encodes e samples lent a left → (a ≡ refused (suc n) e) × (left ≡ lent)
  one_refusal a left p = one_outcome e samples lent a (refused (suc n) e) left lent p refusal_keeps

-- ---- what it says of a frame that is coded

module _ (e : Encoder) (samples lent : List ℤ) (h : encode_refusal (coder e) samples lent ≡ 0) where
  -- an answer and codewords that are the standard's keep the promise
  pub done_keeps : (a : Encoded) (left : List ℤ) → let t = coded (coder e) samples in
      coder a.state ≡ t.0 → ended a.ending ≡ t.1.ending → map mark a.marks ≡ map (λ x. some (house.mark x)) t.1.subframes
      → left ≡ words (frame t.1)
      → Encodes e samples lent (Ok a) left
  unfolding number_of state ending marks
  done_keeps a left p q r w =
      let d = encode_done (coder e) samples lent h in
      record { number = rw d; state = rw d p; ending = rw d (ap some q); marks = rw d r; codewords = rw d w }
