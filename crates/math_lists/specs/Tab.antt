-- For a loop that writes or reads a list by index: a list whose elements are given by their index, and the elements of `map` and of
-- `zip_with`.
use Rattle.std.specs.Prelude.{◌≡◌, length, get_or, take, drop, replicate}
use Rattle.std.proofs.Math.Path.{refl, sym, ap}
use Rattle.std.proofs.Common.{◌∙◌}
use mathlib.Core.List.{List, [], ◌∷◌, ◌++◌, map, zip_with}
use Prim.Native.Nat.{ℕ, zero, suc, ◌+◌, ◌≤◌, ◌<◌, min}
use native.Mathlib.Omega.{arith}

module _ {A : Type 0} where
  -- f at each of n indices from i on; a constant table whose entries are these computes to it
  unfoldable pub tab : (ℕ → A) → ℕ → ℕ → List A
  tab f i zero = []
  tab f i (suc n) = f i ∷ tab f (suc i) n

  -- there is an element for each index
  pub tab_length : (f : ℕ → A) (i n : ℕ) → length (tab f i n) ≡ n
  unfolding tab
  tab_length f i zero = refl
  tab_length f i (suc n) = ap suc (tab_length f (suc i) n)

  -- what an iteration stores at k, where the target is a table
  pub tab_at : (f : ℕ → A) (i n k : ℕ) (d : A) → k < n → get_or (tab f i n) k d ≡ f (i + k)
  unfolding tab
  tab_at f i zero k d h = absurd (omega arith)
  tab_at f i (suc n) zero d h = ap f (omega arith)
  tab_at f i (suc n) (suc k) d h = tab_at f (suc i) n k d (omega arith) ∙ ap f (omega arith)

  -- the same, of a table from 0 on
  pub tab_at_zero : (f : ℕ → A) (n k : ℕ) (d : A) → k < n → get_or (tab f 0 n) k d ≡ f k
  tab_at_zero f n k d h = tab_at f 0 n k d h ∙ ap f (omega arith)

module _ {A B : Type 0} (g : A → B) where
  -- what an iteration stores at k, where the target is a map
  pub map_at : (xs : List A) (k : ℕ) (d : A) (z : B) → k < length xs → get_or (map g xs) k z ≡ g (get_or xs k d)
  map_at [] k d z h = absurd (omega arith)
  map_at (x ∷ xs) zero d z h = refl
  map_at (x ∷ xs) (suc k) d z h = map_at xs k d z (omega arith)

module _ {A B C : Type 0} (f : A → B → C) where
  -- there are as many pairs as the shorter list has elements
  pub zip_length : (xs : List A) (ys : List B) → length (zip_with f xs ys) ≡ min (length xs) (length ys)
  unfolding zip_with
  zip_length [] ys = omega arith
  zip_length (x ∷ xs) [] = omega arith
  zip_length (x ∷ xs) (y ∷ ys) = omega (arith, zip_length xs ys)

  -- what an iteration stores at k, where the target is made of two lists
  pub zip_at : (xs : List A) (ys : List B) (k : ℕ) (a : A) (b : B) (z : C)
      → k < length xs → k < length ys → get_or (zip_with f xs ys) k z ≡ f (get_or xs k a) (get_or ys k b)
  unfolding zip_with
  zip_at [] ys k a b z p q = absurd (omega arith)
  zip_at (x ∷ xs) [] k a b z p q = absurd (omega arith)
  zip_at (x ∷ xs) (y ∷ ys) zero a b z p q = refl
  zip_at (x ∷ xs) (y ∷ ys) (suc k) a b z p q = zip_at xs ys k a b z (omega arith) (omega arith)

  -- the pairs of two lists, each joined of two, are joined too, where the first parts have one length
  pub zip_append : (xs xs' : List A) (ys ys' : List B) → length xs ≡ length ys
      → zip_with f (xs ++ xs') (ys ++ ys') ≡ zip_with f xs ys ++ zip_with f xs' ys'
  unfolding zip_with
  zip_append [] xs' [] ys' h = refl
  zip_append [] xs' (y ∷ ys) ys' h = absurd (omega arith)
  zip_append (x ∷ xs) xs' [] ys' h = absurd (omega arith)
  zip_append (x ∷ xs) xs' (y ∷ ys) ys' h = ap (f x y ∷◌) (zip_append xs xs' ys ys' (omega arith))

  -- what the second list has beyond the first is not read
  pub zip_front : (xs : List A) (ys zs : List B) → length xs ≤ length ys → zip_with f xs (ys ++ zs) ≡ zip_with f xs ys
  unfolding zip_with
  zip_front [] ys zs h = refl
  zip_front (x ∷ xs) [] zs h = absurd (omega arith)
  zip_front (x ∷ xs) (y ∷ ys) zs h = ap (f x y ∷◌) (zip_front xs ys zs (omega arith))

  -- the first n pairs
  pub zip_take : (n : ℕ) (xs : List A) (ys : List B) → take n (zip_with f xs ys) ≡ zip_with f (take n xs) (take n ys)
  unfolding zip_with
  zip_take zero xs ys = refl
  zip_take (suc n) [] ys = refl
  zip_take (suc n) (x ∷ xs) [] = refl
  zip_take (suc n) (x ∷ xs) (y ∷ ys) = rw (zip_take n xs ys)

  zip_none : (xs : List A) → zip_with f xs [] ≡ []
  unfolding zip_with
  zip_none [] = refl
  zip_none (x ∷ xs) = refl

  -- and the rest
  pub zip_drop : (n : ℕ) (xs : List A) (ys : List B) → drop n (zip_with f xs ys) ≡ zip_with f (drop n xs) (drop n ys)
  unfolding zip_with
  zip_drop zero xs ys = refl
  zip_drop (suc n) [] ys = refl
  zip_drop (suc n) (x ∷ xs) [] = sym (zip_none (drop n xs))
  zip_drop (suc n) (x ∷ xs) (y ∷ ys) = zip_drop n xs ys

-- one element against each of a list is a map
pub zip_replicate : {A B C : Type 0} (f : A → B → C) (a : A) (n : ℕ) (ys : List B)
    → length ys ≡ n → zip_with f (replicate n a) ys ≡ map (f a) ys
unfolding zip_with
zip_replicate f a zero [] h = refl
zip_replicate f a zero (y ∷ ys) h = absurd (omega arith)
zip_replicate f a (suc n) [] h = refl
zip_replicate f a (suc n) (y ∷ ys) h = rw (zip_replicate f a n ys (omega arith))
