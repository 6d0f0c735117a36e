-- For a loop that sums or searches: n more steps from index i on; and the fold over a list, which is the same loop by index.
use Rattle.std.specs.Prelude.{◌≡◌, get_or, drop}
use Rattle.std.proofs.Math.Path.{sym}
use mathlib.Core.List.{List, [], ◌∷◌, foldl}
use Prim.Native.Nat.{ℕ, zero, suc, ◌+◌, ◌-◌, ◌≤◌, ◌<◌}
use Rattle.std.proofs.Common.{sub-eq-zero_of_le, add-one, drop_of_length-le, drop-cons}
use native.Mathlib.Omega.{arith}
use Rattle.std.proofs.Math.ListN.{length}

module _ {S : Type 0} (f : ℕ → S → S) where
  -- what s becomes by f at each of n indices from i on
  unfoldable pub steps : ℕ → ℕ → S → S
  steps zero i s = s
  steps (suc n) i s = steps n (suc i) (f i s)

  -- an iteration of a loop whose invariant is `steps (e - i) i s ≡ steps e 0 s₀`
  pub steps_next : (e i : ℕ) (s : S) → i < e → steps (e - i) i s ≡ steps (e - (i + 1)) (i + 1) (f i s)
  unfolding steps
  steps_next e i s h =
      let k : e - i ≡ suc (e - (i + 1)) = omega arith in
      rw (k, add-one)

  -- after the loop
  pub steps_end : (e i : ℕ) (s : S) → e ≤ i → steps (e - i) i s ≡ s
  unfolding steps
  steps_end e i s h = rw (sub-eq-zero_of_le h)

module _ {S A : Type 0} (g : S → A → S) where
  -- an iteration of a loop whose invariant is `foldl g s (drop i xs) ≡ foldl g s₀ xs`
  pub fold_next : (xs : List A) (i : ℕ) (d : A) (s : S)
      → i < length xs → foldl g s (drop i xs) ≡ foldl g (g s (get_or xs i d)) (drop (i + 1) xs)
  fold_next xs i d s h = rw (add-one, drop-cons xs i d)

  -- after the loop
  pub fold_end : (xs : List A) (i : ℕ) (s : S) → length xs ≤ i → foldl g s (drop i xs) ≡ s
  fold_end xs i s h = rw (drop_of_length-le xs h)

  steps_drop : (xs : List A) (d : A) (n i : ℕ) (s : S) → i + n ≡ length xs
      → steps (λ k s. g s (get_or xs k d)) n i s ≡ foldl g s (drop i xs)
  unfolding steps
  steps_drop xs d zero i s h = sym (fold_end xs i s (omega arith))
  steps_drop xs d (suc n) i s h =
      let p : i < length xs = omega arith in
      rw (drop-cons xs i d) (steps_drop xs d n (suc i) (g s (get_or xs i d)) (omega arith))

  -- a loop over a list by index is the fold
  pub steps_fold : (xs : List A) (d : A) (s : S) → steps (λ k s. g s (get_or xs k d)) (length xs) 0 s ≡ foldl g s xs
  steps_fold xs d s = steps_drop xs d (length xs) 0 s (omega arith)

  -- what holds before the loop and is kept by each iteration holds after it
  pub fold_keeps : (xs : List A) (d : A) (s : S) (Q : ℕ → S → Type 0)
      → Q 0 s → ((i : ℕ) (s : S) → i < length xs → Q i s → Q (suc i) (g s (get_or xs i d))) → Q (length xs) (foldl g s xs)
  fold_keeps [] d s Q q k = q
  fold_keeps (x ∷ xs) d s Q q k = fold_keeps xs d (g s x) (λ i. Q (suc i)) (k 0 s (omega arith) q) (λ i s p. k (suc i) s (omega arith))
