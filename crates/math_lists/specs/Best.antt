-- For a loop that looks for the largest element, or for the first index that holds it.
use Rattle.std.specs.Prelude.{◌≡◌, Bool, true, false, cond, not, ◌⊎◌, ℕ, suc, ◌+◌, ◌<◌, ℤ, pos, get_or, take}
use Rattle.std.proofs.Math.Path.{refl}
use Rattle.std.proofs.Common.{sym, true≢false, eq-or-lt_of_le, le_of_suc-le-suc, add-one, length-append, take-suc, length-take-le}
use mathlib.Core.List.{List, [], ◌∷◌, ◌++◌, foldl, foldl-append}
use Rattle.std.proofs.Math.Logic.{⊎_elim}
use native.Mathlib.Omega.{arith}
use Rattle.std.specs.Int.Signed.{lt_z, le_z}
use Rattle.std.proofs.Math.ListN.{length, get_or-append}
use Rattle.std.proofs.Math.Seq.{get_or-append_seam}
use borrow.Author.Tests.{not-true, not-false}
use Rattle.math_integers.specs.Halves.{zar, either}
use Rattle.math_lists.specs.Steps.{fold_keeps}
use Rattle.math_lists.specs.First.{by_cond, first, first_holds, first_least, first_until, first_unique}

-- ---- the order of ℤ, by the test `lt_z`

lt_irrefl : (a : ℤ) → lt_z a a ≡ false
lt_irrefl a = omega zar

lt_asym : (a b : ℤ) → lt_z a b ≡ true → lt_z b a ≡ false
lt_asym a b h = omega zar

lt_connex : (a b : ℤ) → lt_z a b ≡ false → lt_z b a ≡ false → a ≡ b
lt_connex a b h k = omega zar

le_not_lt : (a b : ℤ) → lt_z b a ≡ false → le_z a b ≡ true
le_not_lt a b h = omega zar

le_lt : (a b c : ℤ) → lt_z b a ≡ false → lt_z b c ≡ true → lt_z a c ≡ true
le_lt a b c h k = omega zar

-- ---- the largest element

-- the larger of two
abbrev larger : ℤ → ℤ → ℤ
larger m x = cond (lt_z m x) x m

-- the largest element, or 0 where none is above 0
unfoldable pub largest : List ℤ → ℤ
largest = foldl larger (pos 0)

-- an index and the element there
pub record Best : Type 0 where
  pub at : ℕ
  pub sum : ℤ

-- the element at k is no less than m
abbrev reaches : List ℤ → ℤ → ℕ → Bool
reaches xs m k = not (lt_z (get_or xs k (pos 0)) m)

-- the largest element and the first index that holds it; 0 and index 0 where no element is above 0
unfoldable pub best : List ℤ → Best
best xs =
    let m = largest xs in
    let k = first (reaches xs m) (length xs) 0 in
    record { at = cond (lt_z (pos 0) m) k 0; sum = m }

module _ (xs : List ℤ) where
  -- m is the largest of the first i elements, or 0 where none of them is above 0
  record Top (i : ℕ) (m : ℤ) : Type 0 where
    above : lt_z m (pos 0) ≡ false
    covers : (j : ℕ) → j < i → lt_z m (get_or xs j (pos 0)) ≡ false
    held : lt_z (pos 0) m ≡ true → (j : ℕ) × (j < i) × (get_or xs j (pos 0) ≡ m)

  top_next : (i : ℕ) (m : ℤ) → Top i m → Top (suc i) (larger m (get_or xs i (pos 0)))
  top_next i m t =
      let x = get_or xs i (pos 0) in
      let split : (j : ℕ) → j < suc i → (j ≡ i) ⊎ (j < i) = λ j l. eq-or-lt_of_le (le_of_suc-le-suc l) in
      by_cond (Top (suc i)) (lt_z m x)
      (λ h. record {
        above = lt_asym (pos 0) x (le_lt (pos 0) m x t.above h);
        covers = λ j l. ⊎_elim (λ e. rw e (lt_irrefl x)) (λ k. lt_asym _ x (le_lt _ m x (t.covers j k) h)) (split j l);
        held = λ g. (i, omega arith, refl);
      })
      (λ h. record {
        above = t.above;
        covers = λ j l. ⊎_elim (λ e. rw e h) (t.covers j) (split j l);
        held = λ g. let (j, l, e) = t.held g in (j, omega arith, e);
      })

  top : Top (length xs) (largest xs)
  unfolding largest
  top =
      fold_keeps larger xs (pos 0) (pos 0) Top
      (record { above = refl; covers = λ j h. absurd (omega arith); held = λ h. absurd (true≢false (sym h)) })
      (λ i m _. top_next i m)

  -- the largest is never below 0
  pub largest_above : le_z (pos 0) (largest xs) ≡ true
  largest_above = le_not_lt (pos 0) (largest xs) top.above

  -- no element is above it
  pub largest_covers : (j : ℕ) → j < length xs → le_z (get_or xs j (pos 0)) (largest xs) ≡ true
  largest_covers j h = le_not_lt (get_or xs j (pos 0)) (largest xs) (top.covers j h)

  -- it is the field `sum` of the best
  pub best_largest : (best xs).sum ≡ largest xs
  unfolding best
  best_largest = refl

  -- where it is above 0, it is the element at the index of the best
  pub best_at : lt_z (pos 0) (best xs).sum ≡ true
      → ((best xs).at < length xs) × (get_or xs (best xs).at (pos 0) ≡ (best xs).sum)
  unfolding best
  best_at h =
      let p = reaches xs (largest xs) in
      let (j, l, e) = top.held h in
      let u = first_until p (length xs) 0 j (omega arith) (rw (e, lt_irrefl (largest xs))) in
      let k : first p (length xs) 0 < length xs = omega arith in
      rw h (k, lt_connex _ _ (not-true _ (first_holds p (length xs) 0 (omega arith))) (top.covers _ k))

  -- and each element before that index is smaller: of equal elements the first is taken
  pub best_first : (j : ℕ) → j < (best xs).at → lt_z (get_or xs j (pos 0)) (best xs).sum ≡ true
  unfolding best
  best_first j =
      by_cond (λ k. j < k → lt_z (get_or xs j (pos 0)) (largest xs) ≡ true) (lt_z (pos 0) (largest xs))
      (λ h l. not-false _ (first_least _ _ 0 j (omega arith) l))
      (λ h l. absurd (omega arith))

  -- a bound of all elements that is not negative is a bound of the largest
  pub largest_within : (b : ℤ)
      → le_z (pos 0) b ≡ true → ((j : ℕ) → j < length xs → le_z (get_or xs j (pos 0)) b ≡ true) → le_z (largest xs) b ≡ true
  unfolding best
  largest_within b l h =
      ⊎_elim (λ t. let (k, e) = best_at t in rw e at (h (best xs).at k)) (λ t. omega zar) (either (lt_z (pos 0) (largest xs)))

  -- the index lies within the list, if the list is not empty
  pub best_within : 0 < length xs → (best xs).at < length xs
  unfolding best
  best_within l = by_cond (λ k. k < length xs) (lt_z (pos 0) (largest xs)) (λ h. rw h at (best_at h).0) (λ h. l)

  best_is : (k : ℕ) (m : ℤ) → largest xs ≡ m → lt_z (pos 0) m ≡ true → k < length xs → lt_z (get_or xs k (pos 0)) m ≡ false
      → ((j : ℕ) → j < k → lt_z (get_or xs j (pos 0)) m ≡ true) → best xs ≡ record { at = k; sum = m }
  unfolding best
  best_is k m e h l t f =
      rw (e, h, first_unique (reaches xs m) (length xs) 0 k (omega arith) (omega arith) (λ j _ g. rw (f j g)) (λ _. rw t))

largest_next : (xs : List ℤ) (x : ℤ) → largest (xs ++ (x ∷ [])) ≡ larger (largest xs) x
unfolding largest
largest_next xs x = foldl-append larger (pos 0) xs (x ∷ [])

-- an iteration of a loop whose invariant is `m ≡ largest (take i xs)`, where x is read at index i
module _ (xs : List ℤ) (i : ℕ) {m x : ℤ} (h : m ≡ largest (take i xs)) (p : i < length xs) (e : x ≡ get_or xs i (pos 0)) where
  largest_turn : largest (take (i + 1) xs) ≡ larger m x
  largest_turn = rw (add-one, take-suc xs i (pos 0), largest_next, h, e)

  -- x is above the largest so far
  pub largest_new : lt_z m x ≡ true → x ≡ largest (take (i + 1) xs)
  largest_new t = rw (largest_turn, t)

  -- x is not
  pub largest_old : lt_z m x ≡ false → m ≡ largest (take (i + 1) xs)
  largest_old t = rw (largest_turn, t)

-- before a loop whose invariant is `b ≡ best (take i xs)`
pub best_start : best [] ≡ record { at = 0; sum = pos 0 }
unfolding best first largest
best_start = refl

-- one more element is the best exactly where it is above the best of those before it
pub best_next : (xs : List ℤ) (x : ℤ) → best (xs ++ (x ∷ [])) ≡ cond (lt_z (best xs).sum x) (record { at = length xs; sum = x }) (best xs)
unfolding best
best_next xs x = by_cond (λ b. best (xs ++ (x ∷ [])) ≡ b) (lt_z (largest xs) x) new (λ h. old h (lt_z (pos 0) (largest xs)) refl)
  where
    longer : length xs < length (xs ++ (x ∷ []))
    longer = simp length-append (omega arith)

    new : lt_z (largest xs) x ≡ true → best (xs ++ (x ∷ [])) ≡ record { at = length xs; sum = x }
    new h =
        best_is (xs ++ (x ∷ [])) (length xs) x (rw (largest_next, h)) (le_lt (pos 0) (largest xs) x (top xs).above h) longer
        (rw get_or-append_seam (lt_irrefl x))
        (λ j l. rw (get_or-append xs (x ∷ []) (pos 0) j l) (le_lt (get_or xs j (pos 0)) (largest xs) x ((top xs).covers j l) h))

    old : lt_z (largest xs) x ≡ false → (t : Bool) → lt_z (pos 0) (largest xs) ≡ t → best (xs ++ (x ∷ [])) ≡ best xs
    old h false g = rw (largest_next, h, g)
    old h true g =
        let (l, e) = best_at xs g in
        best_is (xs ++ (x ∷ [])) (best xs).at (largest xs) (rw (largest_next, h)) g (omega (arith, longer))
        (rw (get_or-append xs (x ∷ []) (pos 0) (best xs).at l, e) (lt_irrefl (largest xs)))
        (λ j k. rw (get_or-append xs (x ∷ []) (pos 0) j (omega arith)) (best_first xs j k))

-- an iteration of that loop, where x is read at index i
module _ (xs : List ℤ) (i : ℕ) {b : Best} {x : ℤ} (h : b ≡ best (take i xs)) (p : i < length xs) (e : x ≡ get_or xs i (pos 0)) where
  best_turn : best (take (i + 1) xs) ≡ cond (lt_z b.sum x) (record { at = i; sum = x }) b
  best_turn = rw (add-one, take-suc xs i (pos 0), best_next, h, e, length-take-le i xs (omega arith))

  -- x is above the best so far, and is stored with its index
  pub best_new : lt_z b.sum x ≡ true → record { at = i; sum = x } ≡ best (take (i + 1) xs)
  best_new t = rw (best_turn, t)

  -- x is not, and the best stays
  pub best_old : lt_z b.sum x ≡ false → b ≡ best (take (i + 1) xs)
  best_old t = rw (best_turn, t)
