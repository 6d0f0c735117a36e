-- For a loop as the standard writes it, `FOR k = i to i + n − 1`, which is `steps`: what it gives, by the kind of its iterations.
use Rattle.std.specs.Prelude.{◌≡◌, Bool, true, false, cond, ℤ, pos, length, get_or, set}
use Rattle.std.proofs.Math.Path.{refl, ap}
use Rattle.std.proofs.Common.{sym, ◌∙◌, length-set, ext_get_or}
use mathlib.Core.List.{List, [], ◌∷◌, ◌++◌, foldl}
use Prim.Native.Nat.{ℕ, zero, suc, ◌+◌, ◌-◌, ◌≤◌, ◌<◌}
use Rattle.std.proofs.Math.Numerals.{add-one}
use native.Mathlib.Omega.{arith}
use Rattle.std.specs.Int.Signed.{lt_z}
use Rattle.math_lists.specs.Tab.{tab, tab_length, tab_at}
use Rattle.math_lists.specs.Steps.{steps}
use Rattle.math_lists.specs.Scan.{run, Along, along_start, along_next, along_end}
use Rattle.math_lists.specs.Best.{Best, best, best_start, best_next}

module _ {S : Type 0} where
  -- the last iteration, after those before it
  pub steps_last : (f : ℕ → S → S) (n i : ℕ) (s : S) → steps f (suc n) i s ≡ f (i + n) (steps f n i s)
  unfolding steps
  steps_last f zero i s = ap (λ (k : ℕ). f k s) (omega arith)
  steps_last f (suc n) i s =
      let e : suc i + n ≡ i + suc n = omega arith in
      rw (← e) (steps_last f n (suc i) (f i s))

  -- two loops whose iterations do the same give the same
  pub steps_same : (f g : ℕ → S → S) (n i : ℕ) (s : S)
      → ((k : ℕ) (s : S) → i ≤ k → k < i + n → f k s ≡ g k s) → steps f n i s ≡ steps g n i s
  unfolding steps
  steps_same f g zero i s e = refl
  steps_same f g (suc n) i s e =
      rw (e i s (omega arith) (omega arith)) (steps_same f g n (suc i) (g i s) (λ k s p q. e k s (omega arith) (omega arith)))

-- ---- a list given by its entries

module _ {A : Type 0} where
  -- a list is a table where each of its elements is the table's
  pub tab_is : (f : ℕ → A) (i n : ℕ) (xs : List A) (d : A)
      → length xs ≡ n → ((k : ℕ) → k < n → f (i + k) ≡ get_or xs k d) → tab f i n ≡ xs
  tab_is f i n xs d l e =
      ext_get_or d (tab f i n) xs (tab_length f i n ∙ sym l)
      (λ k h. let g : k < n = omega (arith, tab_length f i n) in tab_at f i n k d g ∙ e k g)

  -- what holds of every table of n entries holds of every list of that length: with n a number, the list is taken apart
  pub by_entries : (P : List A → Type 0) (d : A) (n : ℕ) → ((f : ℕ → A) → P (tab f 0 n)) → (xs : List A) → length xs ≡ n → P xs
  by_entries P d n p xs l =
      let e : tab (λ k. get_or xs k d) 0 n ≡ xs =
      tab_is (λ k. get_or xs k d) 0 n xs d l (λ k h. ap (λ (j : ℕ). get_or xs j d) (omega arith)) in
      rw e at (p (λ k. get_or xs k d))

  -- the same of two lists
  pub by_both : (P : List A → List A → Type 0) (d : A) (m n : ℕ) → ((f g : ℕ → A) → P (tab f 0 m) (tab g 0 n))
      → (xs ys : List A) → length xs ≡ m → length ys ≡ n → P xs ys
  by_both P d m n p xs ys a b = by_entries (λ xs. P xs ys) d m (λ f. by_entries (P (tab f 0 m)) d n (p f) ys b) xs a

  -- and of three
  pub by_three : (P : List A → List A → List A → Type 0) (d : A) (l m n : ℕ) → ((f g h : ℕ → A) → P (tab f 0 l) (tab g 0 m) (tab h 0 n))
      → (xs ys zs : List A) → length xs ≡ l → length ys ≡ m → length zs ≡ n → P xs ys zs
  by_three P d l m n p xs ys zs a b c = by_entries (λ xs. P xs ys zs) d l (λ f. by_both (P (tab f 0 l)) d m n (p f) ys zs b c) xs a

  -- two tables whose entries are the same
  pub tab_same : (f g : ℕ → A) (n i : ℕ) → ((k : ℕ) → i ≤ k → k < i + n → f k ≡ g k) → tab f i n ≡ tab g i n
  unfolding tab
  tab_same f g zero i e = refl
  tab_same f g (suc n) i e = rw (e i (omega arith) (omega arith), tab_same f g n (suc i) (λ k p q. e k (omega arith) (omega arith)))

  -- what is computed of two tables is true at each index
  pub tab_each : (f g : ℕ → A) (n i : ℕ) → tab f i n ≡ tab g i n → (k : ℕ) → i ≤ k → k < i + n → f k ≡ g k
  tab_each f g n i e k p q =
      let at : i + (k - i) ≡ k = omega arith in
      let entry : (h : ℕ → A) → get_or (tab h i n) (k - i) (f k) ≡ h k = λ h. tab_at h i n (k - i) (f k) (omega arith) ∙ ap h at in
      sym (entry f) ∙ (ap (λ (t : List A). get_or t (k - i) (f k)) e ∙ entry g)

  -- the last entry, after those before it
  pub tab_last : (f : ℕ → A) (n i : ℕ) → tab f i (suc n) ≡ tab f i n ++ (f (i + n) ∷ [])
  unfolding tab
  tab_last f zero i = ap (λ (k : ℕ). f k ∷ []) (omega arith)
  tab_last f (suc n) i =
      let e : suc i + n ≡ i + suc n = omega arith in
      rw (← e) (ap (λ (t : List A). f i ∷ t) (tab_last f n (suc i)))

-- ---- a sum

-- a loop that takes a term at each iteration is the fold over the terms
pub steps_tab : {S A : Type 0} (g : S → A → S) (f : ℕ → A) (n i : ℕ) (s : S) → steps (λ k s. g s (f k)) n i s ≡ foldl g s (tab f i n)
unfolding steps tab
steps_tab g f zero i s = refl
steps_tab g f (suc n) i s = steps_tab g f n (suc i) (g s (f i))

-- ---- a state that is carried along

module _ {S A B : Type 0} (step : S → A → S × B) (s₀ : S) (xs : List A) (d : A) where
  -- iteration k: the element at k gives the next state, and its output is stored at k
  abbrev pub carry : ℕ → S × List B → S × List B
  carry k (s, out) =
      let t = step s (get_or xs k d) in
      (t.0, set out k t.1)

  -- the rest of the iterations, from what is written so far
  carries : (n i : ℕ) (s : S) (out : List B)
      → i + n ≡ length xs → length out ≡ length xs → Along step s₀ xs s i out → steps carry n i (s, out) ≡ run step s₀ xs
  unfolding steps
  carries zero i s out e l h =
      let (a, b) = along_end step s₀ xs h (omega arith) (omega arith) in
      rw (a, b)
  carries (suc n) i s out e l h =
      let next = along_next step s₀ xs d h (omega arith) (omega arith) refl refl refl in
      carries n (suc i) _ _ (omega arith) (length-set out i _ ∙ l) (rw add-one at next)

  -- such iterations over all indices are the run over the list
  pub steps_run : (out : List B) → length out ≡ length xs → steps carry (length xs) 0 (s₀, out) ≡ run step s₀ xs
  steps_run out l = carries (length xs) 0 s₀ out (omega arith) l (along_start step s₀ xs out)

-- ---- a search

-- iteration k of a search: the term at k replaces the greatest so far where it is above it
abbrev pub greater : (ℕ → ℤ) → ℕ → ℕ × ℤ → ℕ × ℤ
greater f k (at, max) = cond (lt_z max (f k)) (k, f k) (at, max)

-- a search that starts from sum 0 and the first index finds the best and its index
pub steps_best : (f : ℕ → ℤ) (n i : ℕ) → steps (greater f) n i (i, pos 0) ≡ (i + (best (tab f i n)).at, (best (tab f i n)).sum)
unfolding steps tab
steps_best f zero i = let e : i ≡ i + 0 = omega arith in rw best_start (ap (λ (k : ℕ). (k, pos 0)) e)
steps_best f (suc n) i =
    rw (steps_last (greater f) n i (i, pos 0), steps_best f n i, tab_last f n i, best_next, tab_length f i n)
    (by (lt_z (best (tab f i n)).sum (f (i + n))) (record { at = n; sum = f (i + n) }) (best (tab f i n)))
  where
    by : (t : Bool) (a b : Best) → ◌≡◌ {A = ℕ × ℤ} (cond t (i + a.at, a.sum) (i + b.at, b.sum)) (i + (cond t a b).at, (cond t a b).sum)
    by true a b = refl
    by false a b = refl
