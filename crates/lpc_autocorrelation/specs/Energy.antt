-- The energy of a list, and that twice a sum of products of two lists is at most the sum of their energies.
use Rattle.std.specs.Prelude.{ℕ, ◌+◌, ◌*◌, ◌-◌, ◌≤◌, ◌≡◌, refl, ℤ, pos, negsuc, ◌+ℤ◌, ◌*ℤ◌, nat_abs, take, drop}
use Rattle.std.proofs.Common.{ap, ◌∙◌, ⊎_elim, arith, take-append-drop}
use mathlib.Core.List.{List, [], ◌∷◌, ◌++◌, zip_with, foldl}
use Rattle.math_integers.specs.Halves.{zar, le_or_lt, abs_is}
use Rattle.math_integers.specs.Sums.{add_is, mul_in}

-- the sum of the squares
unfoldable pub energy : List ℤ → ℕ
energy [] = 0
energy (x ∷ xs) = nat_abs x * nat_abs x + energy xs

-- of two lists joined it is that of both
energy_append : (a b : List ℤ) → energy (a ++ b) ≡ energy a + energy b
unfolding energy
energy_append [] b = omega arith
energy_append (x ∷ a) b = omega (arith, energy_append a b)

-- the front of a list has at most the energy of the list
pub energy_take : (n : ℕ) (a : List ℤ) → energy (take n a) ≤ energy a
energy_take n a = omega (arith, energy_append (take n a) (drop n a), ap energy (take-append-drop n a))

-- and so has the rest
pub energy_drop : (n : ℕ) (a : List ℤ) → energy (drop n a) ≤ energy a
energy_drop n a = omega (arith, energy_append (take n a) (drop n a), ap energy (take-append-drop n a))

-- the square of a number is that of its size
square : (x : ℤ) → x *ℤ x ≡ pos (nat_abs x * nat_abs x)
square (pos n) = refl
square (negsuc n) = refl

squares_from : (s : ℤ) (a : List ℤ) → foldl ◌+ℤ◌ s (zip_with ◌*ℤ◌ a a) ≡ s +ℤ pos (energy a)
unfolding energy zip_with
squares_from s [] = omega (zar, add_is s (pos 0))
squares_from s (x ∷ a) =
    let p = nat_abs x * nat_abs x in
    squares_from (s +ℤ x *ℤ x) a
    ∙ rw (square x) (omega (zar, add_is s (pos p), add_is (s +ℤ pos p) (pos (energy a)), add_is s (pos (p + energy a))))

-- the sum of the products of a list by itself is its energy
pub squares : (a : List ℤ) → foldl ◌+ℤ◌ (pos 0) (zip_with ◌*ℤ◌ a a) ≡ pos (energy a)
squares a = squares_from (pos 0) a ∙ omega (zar, add_is (pos 0) (pos (energy a)))

-- twice the product of two numbers is at most the sum of their squares
mean : (a b : ℕ) → 2 * (a * b) ≤ a * a + b * b
mean a b = ⊎_elim (λ h. ordered a b h) (λ h. omega (arith, ordered b a (omega arith))) (le_or_lt a b)
  where
    by : (a d : ℕ) → 2 * (a * (a + d)) ≤ a * a + (a + d) * (a + d)
    by a d = omega arith

    ordered : (a b : ℕ) → a ≤ b → 2 * (a * b) ≤ a * a + b * b
    ordered a b h = let e : b ≡ a + (b - a) = omega arith in rw e (by a (b - a))

products_from : (s : ℤ) (a b : List ℤ) → 2 * nat_abs (foldl ◌+ℤ◌ s (zip_with ◌*ℤ◌ a b)) ≤ 2 * nat_abs s + (energy a + energy b)
unfolding energy zip_with
products_from s [] b = omega arith
products_from s (x ∷ a) [] = omega arith
products_from s (x ∷ a) (y ∷ b) =
    let z = s +ℤ x *ℤ y in
    let m = mul_in (nat_abs x) (nat_abs y) x y (omega (arith, abs_is x)) (omega (arith, abs_is y)) in
    omega (arith, products_from z a b, mean (nat_abs x) (nat_abs y), m, add_is s (x *ℤ y), abs_is s, abs_is z, abs_is (x *ℤ y))

-- and twice a sum of products at most the sum of the two energies
pub products_most : (a b : List ℤ) → 2 * nat_abs (foldl ◌+ℤ◌ (pos 0) (zip_with ◌*ℤ◌ a b)) ≤ energy a + energy b
products_most a b = omega (arith, products_from (pos 0) a b)
