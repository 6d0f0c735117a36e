-- A test that holds of every element of a list: it is computed over a table and carried to each entry; and it is followed through lists
-- that are joined, mapped or cut.
use Rattle.std.specs.Prelude.{◌≡◌, Bool, true, ◌&&◌, ◌↔◌, length, get_or, take, drop, replicate}
use Rattle.std.proofs.Math.Path.{refl}
use Rattle.std.proofs.Math.Bool.{and-eq-true_iff, and_assoc}
use mathlib.Core.List.{List, [], ◌∷◌, ◌++◌, map, zip, zip_with, flatten}
use Prim.Native.Nat.{ℕ, zero, suc, ◌+◌, ◌≤◌, ◌<◌}
use Rattle.std.proofs.Common.{add-one, arith, take-append-drop, drop_of_length-le}
use Rattle.std.proofs.Math.Seq.{drop-cons}
use Rattle.math_lists.specs.Tab.{tab, tab_length, tab_at_zero}
use Rattle.math_lists.specs.Cut.{cut, cut_rest}

module _ {A : Type 0} (p : A → Bool) where
  -- p holds of each element
  unfoldable pub every : List A → Bool
  every [] = true
  every (x ∷ xs) = p x && every xs

  -- it holds of a first element and of each of the others
  pub every_cons : (x : A) (xs : List A) → (every (x ∷ xs) ≡ true) ↔ ((p x ≡ true) × (every xs ≡ true))
  unfolding every
  every_cons x xs = and-eq-true_iff (p x) (every xs)

  -- so it holds of the element at each index
  pub every_at : (xs : List A) (i : ℕ) (d : A) → every xs ≡ true → i < length xs → p (get_or xs i d) ≡ true
  every_at [] i d e h = absurd (omega arith)
  every_at (x ∷ xs) zero d e h = ((every_cons x xs).0 e).0
  every_at (x ∷ xs) (suc i) d e h = every_at xs i d ((every_cons x xs).0 e).1 (omega arith)

  -- and where it holds of the element at each index, it holds of all
  pub every_places : (xs : List A) (d : A) → ((i : ℕ) → i < length xs → p (get_or xs i d) ≡ true) → every xs ≡ true
  unfolding every
  every_places [] d h = refl
  every_places (x ∷ xs) d h = (every_cons x xs).1 (h 0 (omega arith), every_places xs d (λ i l. h (suc i) (omega arith)))

  -- what was computed over a table holds at each index
  pub every_tab : (f : ℕ → A) (n k : ℕ) → every (tab f 0 n) ≡ true → k < n → p (f k) ≡ true
  every_tab f n k e h = rw (tab_at_zero f n k (f 0) h) at (every_at (tab f 0 n) k (f 0) e (rw tab_length h))

  -- it holds of a list that repeats one element
  pub every_replicate : (n : ℕ) (x : A) → p x ≡ true → every (replicate n x) ≡ true
  unfolding every
  every_replicate zero x e = refl
  every_replicate (suc n) x e = (every_cons x (replicate n x)).1 (e, every_replicate n x e)

  -- a test that always holds, holds of every list
  pub every_all : ((x : A) → p x ≡ true) → (xs : List A) → every xs ≡ true
  unfolding every
  every_all h [] = refl
  every_all h (x ∷ xs) = (every_cons x xs).1 (h x, every_all h xs)

  -- of two lists joined it holds where it holds of both
  pub every_append : (xs ys : List A) → every (xs ++ ys) ≡ (every xs && every ys)
  unfolding every
  every_append [] ys = refl
  every_append (x ∷ xs) ys = rw (every_append xs ys, and_assoc)

  -- an iteration of a loop whose invariant is `every p (drop i xs) ≡ every p xs`
  pub every_next : (xs : List A) (i : ℕ) (d : A) → i < length xs → every (drop i xs) ≡ (p (get_or xs i d) && every (drop (i + 1) xs))
  unfolding every
  every_next xs i d h = rw (add-one, drop-cons xs i d)

  -- after the loop
  pub every_end : (xs : List A) (i : ℕ) → length xs ≤ i → every (drop i xs) ≡ true
  unfolding every
  every_end xs i h = rw (drop_of_length-le xs h)

  -- and what holds of a list holds of the front of it
  pub every_take : (n : ℕ) (xs : List A) → every xs ≡ true → every (take n xs) ≡ true
  every_take n xs e =
      let t = rw (← take-append-drop n xs, every_append) at e in
      ((and-eq-true_iff (every (take n xs)) (every (drop n xs))).0 t).0

  -- and of the rest
  pub every_drop : (n : ℕ) (xs : List A) → every xs ≡ true → every (drop n xs) ≡ true
  every_drop n xs e =
      let t = rw (← take-append-drop n xs, every_append) at e in
      ((and-eq-true_iff (every (take n xs)) (every (drop n xs))).0 t).1

  -- a list whose elements pass a test that only a passes repeats a
  pub every_only : (a : A) → ((x : A) → p x ≡ true → x ≡ a) → (xs : List A) → every xs ≡ true → xs ≡ replicate (length xs) a
  unfolding every
  every_only a o [] e = refl
  every_only a o (x ∷ xs) e =
      let t = (every_cons x xs).0 e in
      rw (o x t.0, ← every_only a o xs t.1)

-- of parts joined it holds where it holds of each part
pub every_flatten : {A : Type 0} (p : A → Bool) (ps : List (List A)) → every p (flatten ps) ≡ every (every p) ps
unfolding every flatten
every_flatten p [] = refl
every_flatten p (x ∷ xs) = rw (every_append p x (flatten xs), every_flatten p xs)

-- what holds of a list holds of each part that is cut from it
pub every_cut : {A : Type 0} (p : A → Bool) (ns : List ℕ) (xs : List A) → every p xs ≡ true → every (every p) (cut ns xs) ≡ true
every_cut p ns xs e =
    let t = rw (← cut_rest ns xs, every_append, every_flatten) at e in
    ((and-eq-true_iff (every (every p) (cut ns xs)) _).0 t).0

-- a test of the images is a test of the elements
pub every_map : {A B : Type 0} (p : B → Bool) (f : A → B) (xs : List A) → every p (map f xs) ≡ every (λ x. p (f x)) xs
unfolding every
every_map p f [] = refl
every_map p f (x ∷ xs) = rw (every_map p f xs)

-- q holds of each element where p does, if q holds of whatever p holds of
pub every_so : {A : Type 0} (p q : A → Bool) → ((x : A) → p x ≡ true → q x ≡ true) → (xs : List A) → every p xs ≡ true → every q xs ≡ true
unfolding every
every_so p q k [] e = refl
every_so p q k (x ∷ xs) e =
    let (g, h) = (every_cons p x xs).0 e in
    (every_cons q x xs).1 (k x g, every_so p q k xs h)

-- p holds of the first of each pair where it holds of each element of the first list
pub every_pairs : {A B : Type 0} (p : A → Bool) (xs : List A) (ys : List B) → every p xs ≡ true → every (λ t. p t.0) (zip xs ys) ≡ true
unfolding every zip zip_with
every_pairs p [] ys e = refl
every_pairs p (x ∷ xs) [] e = refl
every_pairs p (x ∷ xs) (y ∷ ys) e =
    let (g, h) = (every_cons p x xs).0 e in
    (every_cons (λ t. p t.0) (x, y) (zip xs ys)).1 (g, every_pairs p xs ys h)
