-- House rules, 'Refusals': what a number says of the rows that it comes from.
use Rattle.std.specs.Prelude.{◌≡◌, refl, Bool, true, false, not, List, [], ◌∷◌, ℕ, zero, suc, length}
use Rattle.std.proofs.Common.{sym, ◌∙◌, arith, eq-eqb, ne_eqb}
use Rattle.std.proofs.lemmas.Bool.{not-false}
use Rattle.math_lists.specs.Lengths.{sized_length}
use Rattle.standard.specs.House.{refusal, not_of}
use Rattle.standard.specs.Answers.{answer}

-- where the number is 0, the first row does not apply, and the rows after it give 0 too
pub refusal_none : (wrong : Bool) (n : ℕ) (rows : List (Bool × ℕ))
    → refusal ((wrong, suc n) ∷ rows) ≡ 0 → (wrong ≡ false) × (refusal rows ≡ 0)
unfolding refusal
refusal_none true n rows e = absurd (omega arith)
refusal_none false n rows e = (refl, e)

-- what holds where the call is done, and at each refusal, holds of the answer
pub by_answer : {A : Type 0} (Q : A → Type 0) (n : ℕ) {done : A} {refused : ℕ → A}
    → (n ≡ 0 → Q done) → ((k : ℕ) → Q (refused k)) → Q (answer n done refused)
unfolding answer
by_answer Q zero d r = d refl
by_answer Q (suc n) d r = r (suc n)

-- the number that an answer gives is the one that it was made from
pub answer_number : {A : Type 0} (number : A → ℕ) (n : ℕ) {done : A} {refused : ℕ → A}
    → number done ≡ 0 → ((k : ℕ) → number (refused k) ≡ k) → number (answer n done refused) ≡ n
unfolding answer
answer_number number zero d r = d
answer_number number (suc n) d r = r (suc n)

-- where the number is 0, the answer is that of the call that is done
pub answer_done : {A : Type 0} (n : ℕ) (done : A) (refused : ℕ → A) → n ≡ 0 → answer n done refused ≡ done
unfolding answer
answer_done n done refused e = rw e

-- otherwise it is what a refusal gives, if that does not depend on the number
pub answer_else : {A : Type 0} (n : ℕ) (done refused : A) → ¬ (n ≡ 0) → answer n done (λ _. refused) ≡ refused
unfolding answer
answer_else zero done refused h = absurd (h refl)
answer_else (suc n) done refused h = refl

-- ---- three rows: two lengths, then a test

-- n is the number of the first row that applies, and 0 exactly when none applies
pub record Exactly {A B : Type 0} (n l m i j k : ℕ) (xs : List A) (ys : List B) (good : Bool) : Type 0 where
  pub first : ¬ (length xs ≡ l) → n ≡ i
  pub second : length xs ≡ l → ¬ (length ys ≡ m) → n ≡ j
  pub third : length xs ≡ l → length ys ≡ m → good ≡ false → n ≡ k
  pub allows : length xs ≡ l → length ys ≡ m → good ≡ true → n ≡ 0
  pub allowed : n ≡ 0 → (length xs ≡ l) × (length ys ≡ m) × (good ≡ true)

-- the number that such rows give is so
pub three : {A B : Type 0} (l m i j k : ℕ) (xs : List A) (ys : List B) (good : Bool)
    → Exactly (refusal ((not_of l xs, suc i) ∷ (not_of m ys, suc j) ∷ (not good, suc k) ∷ [])) l m (suc i) (suc j) (suc k) xs ys good
unfolding refusal
three l m i j k xs ys good =
    record {
      first = λ h. rw (ne_eqb (length xs) l h);
      second = λ h g. rw (eq-eqb (length xs) l h, ne_eqb (length ys) m g);
      third = λ h g e. rw (eq-eqb (length xs) l h, eq-eqb (length ys) m g, e);
      allows = λ h g e. rw (eq-eqb (length xs) l h, eq-eqb (length ys) m g, e);
      allowed = right;
    }
  where
    right : refusal ((not_of l xs, suc i) ∷ (not_of m ys, suc j) ∷ (not good, suc k) ∷ []) ≡ 0
        → (length xs ≡ l) × (length ys ≡ m) × (good ≡ true)
    right e =
        let last : List (Bool × ℕ) = (not good, suc k) ∷ [] in
        let r = refusal_none (not_of l xs) i ((not_of m ys, suc j) ∷ last) e in
        let s = refusal_none (not_of m ys) j last r.1 in
        let t = refusal_none (not good) k [] s.1 in
        (sized_length l xs (not-false _ r.0), sized_length m ys (not-false _ s.0), not-false good t.0)

-- it says the same of another first list of the same length
pub exactly_as : {A B C : Type 0} (n l m i j k : ℕ) (xs : List A) (zs : List C) (ys : List B) (good : Bool) → length zs ≡ length xs
    → Exactly n l m i j k xs ys good → Exactly n l m i j k zs ys good
exactly_as n l m i j k xs zs ys good e x =
    record {
      first = λ h. x.first (λ g. h (e ∙ g));
      second = λ h. x.second (sym e ∙ h);
      third = λ h. x.third (sym e ∙ h);
      allows = λ h. x.allows (sym e ∙ h);
      allowed = λ h. let (f, g, t) = x.allowed h in (e ∙ f, g, t);
    }
