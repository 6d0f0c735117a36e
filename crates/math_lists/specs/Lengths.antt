-- The lengths of lists that are made of lists.
use Rattle.std.specs.Prelude.{◌≡◌, Bool, true, eqb, length, take, drop, replicate}
use Rattle.std.proofs.Math.Path.{refl}
use mathlib.Core.List.{List, [], ◌∷◌, zip, flatten, foldr}
use Prim.Native.Nat.{ℕ, zero, suc, ◌+◌, ◌*◌, ◌≤◌, min}
use native.Mathlib.Omega.{arith}
use Rattle.std.proofs.Math.ListN.{length-append, length-take, length-drop}
use Rattle.std.proofs.Common.{eqb-true, eq-eqb}
use Rattle.math_lists.specs.Every.{every, every_cons}
use Rattle.math_lists.specs.Tab.{zip_length}
use Rattle.math_lists.specs.Cut.{cut}

module _ {A : Type 0} where
  -- the test that a list has n elements, for `every` to carry to each of many lists
  abbrev pub sized : ℕ → List A → Bool
  sized n xs = eqb (length xs) n

  -- a list of n elements passes it
  pub sized_yes : (n : ℕ) (xs : List A) → length xs ≡ n → sized n xs ≡ true
  sized_yes n xs = eq-eqb (length xs) n

  -- and a list that passes it has n elements
  pub sized_length : (n : ℕ) (xs : List A) → sized n xs ≡ true → length xs ≡ n
  sized_length n xs = eqb-true (length xs) n

  -- parts of k elements each, joined
  pub flatten_sized : (k : ℕ) (xss : List (List A)) → every (sized k) xss ≡ true → length (flatten xss) ≡ length xss * k
  unfolding flatten
  flatten_sized k [] e = omega arith
  flatten_sized k (xs ∷ xss) e =
      let (g, h) = (every_cons (sized k) xs xss).0 e in
      omega (arith, length-append xs (flatten xss), sized_length k xs g, flatten_sized k xss h)

  -- n parts of k elements each, cut from a list that has as many
  pub cut_sized : (n k : ℕ) (xs : List A) → n * k ≤ length xs → every (sized k) (cut (replicate n k) xs) ≡ true
  unfolding cut every
  cut_sized zero k xs h = refl
  cut_sized (suc n) k xs h =
      (every_cons (sized k) (take k xs) (cut (replicate n k) (drop k xs))).1
      (sized_yes k (take k xs) (rw length-take (omega arith)), cut_sized n k (drop k xs) (rw length-drop (omega arith)))

-- pairs, as far as the shorter list goes
pub pairs_length : {A B : Type 0} (xs : List A) (ys : List B) → length (zip xs ys) ≡ min (length xs) (length ys)
unfolding zip
pairs_length = zip_length (λ x y. (x, y))

-- a fold from the end in which each element adds one to a size, as when it puts one more element in front of a list
pub foldr_grows : {A S : Type 0} (size : S → ℕ) (f : A → S → S) → ((x : A) (s : S) → size (f x s) ≡ suc (size s))
    → (s : S) (xs : List A) → size (foldr f s xs) ≡ size s + length xs
foldr_grows size f h s [] = omega arith
foldr_grows size f h s (x ∷ xs) = omega (arith, h x (foldr f s xs), foldr_grows size f h s xs)
