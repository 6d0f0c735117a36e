-- For a loop that looks for the first index where a test holds.
use Rattle.std.specs.Prelude.{◌≡◌, refl, Bool, true, false, cond}
use Rattle.std.proofs.Common.{sym, ◌∙◌, true≢false, eq-or-lt_of_le, sub-eq-zero_of_le, add-one}
use Rattle.std.proofs.Math.Path.{ap}
use Rattle.std.proofs.Math.Logic.{⊎_elim}
use Prim.Native.Nat.{ℕ, zero, suc, ◌+◌, ◌-◌, ◌≤◌, ◌<◌}
use native.Mathlib.Omega.{arith}

-- what holds of x where the test passes, and of y where it fails, holds of the one that the test picks
pub by_cond : {A : Type 0} (P : A → Type 0) (b : Bool) {x y : A} → (b ≡ true → P x) → (b ≡ false → P y) → P (cond b x y)
by_cond P true u v = u refl
by_cond P false u v = v refl

module _ (p : ℕ → Bool) where
  -- the first index, of n from i on, where p holds, or i + n where there is none (because of the `let`, nothing beyond it is computed)
  unfoldable pub first : ℕ → ℕ → ℕ
  first zero i = i
  first (suc n) i =
      let r = first n (suc i) in
      cond (p i) i r

  -- an iteration of a loop whose invariant is `first (e - i) i ≡ first e 0`, where p holds at i
  pub first_here : (e i : ℕ) → i < e → p i ≡ true → first (e - i) i ≡ i
  unfolding first
  first_here e i h t =
      let k : e - i ≡ suc (e - (i + 1)) = omega arith in
      rw (k, t)

  -- an iteration where p fails at i
  pub first_later : (e i : ℕ) → i < e → p i ≡ false → first (e - i) i ≡ first (e - (i + 1)) (i + 1)
  unfolding first
  first_later e i h t =
      let k : e - i ≡ suc (e - (i + 1)) = omega arith in
      rw (k, t, add-one)

  -- after the loop, where p held nowhere
  pub first_end : (e i : ℕ) → e ≤ i → first (e - i) i ≡ i
  unfolding first
  first_end e i h = rw (sub-eq-zero_of_le h)

  -- it is not before i
  pub first_ge : (n i : ℕ) → i ≤ first n i
  unfolding first
  first_ge zero i = omega arith
  first_ge (suc n) i = by_cond (λ k. i ≤ k) (p i) (λ e. omega arith) (λ e. omega (arith, first_ge n (suc i)))

  -- nor beyond the end
  pub first_le : (n i : ℕ) → first n i ≤ i + n
  unfolding first
  first_le zero i = omega arith
  first_le (suc n) i = by_cond (λ k. k ≤ i + suc n) (p i) (λ e. omega arith) (λ e. omega (arith, first_le n (suc i)))

  -- p holds there, unless it is the end
  pub first_holds : (n i : ℕ) → first n i < i + n → p (first n i) ≡ true
  unfolding first
  first_holds zero i = λ h. absurd (omega arith)
  first_holds (suc n) i = by_cond (λ k. k < i + suc n → p k ≡ true) (p i) (λ e h. e) (λ e h. first_holds n (suc i) (omega arith))

  -- p fails at each index before it
  pub first_least : (n i j : ℕ) → i ≤ j → j < first n i → p j ≡ false
  unfolding first
  first_least zero i j a = λ b. absurd (omega arith)
  first_least (suc n) i j a =
      by_cond (λ k. j < k → p j ≡ false) (p i) (λ e b. absurd (omega arith))
      (λ e b. ⊎_elim (λ q. ap p (sym q) ∙ e) (λ l. first_least n (suc i) j l b) (eq-or-lt_of_le a))

  -- an index where p holds is not before it
  pub first_until : (n i j : ℕ) → i ≤ j → p j ≡ true → first n i ≤ j
  first_until n i j a t =
      let before : ¬ (j < first n i) = λ h. true≢false (sym t ∙ first_least n i j a h) in
      omega arith

  -- and an index of which all this is true is the first
  pub first_unique : (n i k : ℕ)
      → i ≤ k → k ≤ i + n → ((j : ℕ) → i ≤ j → j < k → p j ≡ false) → (k < i + n → p k ≡ true) → first n i ≡ k
  first_unique n i k a b f t =
      let g : i ≤ first n i = first_ge n i in
      let l : first n i ≤ i + n = first_le n i in
      let before : ¬ (first n i < k) = λ h. true≢false (sym (first_holds n i (omega arith)) ∙ f (first n i) g h) in
      let after : ¬ (k < first n i) = λ h. true≢false (sym (t (omega arith)) ∙ first_least n i k a h) in
      omega arith
