-- Partial sums of products: after any number of terms the sum is within the bound of all terms together.
use Rattle.std.specs.Prelude.{ℕ, zero, suc, ◌+◌, ◌*◌, ◌≤◌, ◌≡◌, refl, true, ℤ, ◌+ℤ◌, ◌*ℤ◌, nat_abs, length, take}
use Rattle.std.proofs.Common.{ap₂, mul-le-mul_left, arith, leb-true}
use mathlib.Core.List.{List, [], ◌∷◌, map, zip_with, foldl}
use Rattle.math_integers.specs.Halves.{abs_is, apart}
use Rattle.math_integers.specs.Sums.{add_is, mul_in}
use Rattle.math_lists.specs.Cut.{sum}
use Rattle.math_lists.specs.Every.{every, every_cons}
use Rattle.standard.specs.Arithmetic.{L_mult}
use Rattle.standard.specs.Tables.{H}
use Rattle.law_arithmetic.specs.Product.{L_mult_small}
use Rattle.law_arithmetic.specs.Sum.{Bounded, none, ◌also◌}
use Rattle.op_sums.specs.Room.{at_most}

-- the first n of terms that each have a bound of their own, from a start within C
pub partial : {xs : List ℤ} {bs : List ℕ} → Bounded xs bs → (C : ℕ) (s : ℤ) → nat_abs s ≤ C → (n : ℕ)
    → nat_abs (foldl ◌+ℤ◌ s (take n xs)) ≤ C + sum bs
partial t C s h zero = omega arith
partial none C s h (suc n) = omega arith
partial (◌also◌ {x = x} {b = b} k t) C s h (suc n) =
    let z = s +ℤ x in
    omega (arith, partial t (C + b) z (omega (arith, add_is s x, abs_is s, abs_is x, abs_is z, apart z)) n)

-- twice the plain product
abbrev pub double : ℤ → ℤ → ℤ
double x y = x *ℤ y +ℤ x *ℤ y

-- of factors whose products have 30 bits, L_mult is this: it never meets −32768 times −32768
pub doubles : (A B : ℕ) (a b : List ℤ) → every (at_most A) a ≡ true → every (at_most B) b ≡ true → A * B ≤ 1073741823
    → zip_with L_mult a b ≡ zip_with double a b
unfolding zip_with
doubles A B [] b e f m = refl
doubles A B (x ∷ a) [] e f m = refl
doubles A B (x ∷ a) (y ∷ b) e f m =
    let (g, h) = (every_cons (at_most A) x a).0 e in
    let (k, l) = (every_cons (at_most B) y b).0 f in
    let p = mul_in A B x y (omega (arith, leb-true (nat_abs x) A g, abs_is x)) (omega (arith, leb-true (nat_abs y) B k, abs_is y)) in
    ap₂ ◌∷◌ (L_mult_small x y (omega arith)) (doubles A B a b h l m)

-- a bound of twice a product, where the first factor is at most A in size
abbrev pub bound : ℕ → ℤ → ℤ → ℕ
bound A x y = 2 * (A * nat_abs y)

-- it bounds each term
pub products : (A : ℕ) (a b : List ℤ) → every (at_most A) a ≡ true → Bounded (zip_with double a b) (zip_with (bound A) a b)
unfolding zip_with
products A [] b e = none
products A (x ∷ a) [] e = none
products A (x ∷ a) (y ∷ b) e =
    let (g, h) = (every_cons (at_most A) x a).0 e in
    let m = mul_in A (nat_abs y) x y (omega (arith, leb-true (nat_abs x) A g, abs_is x)) (omega (arith, abs_is y)) in
    let z = x *ℤ y in
    let p : nat_abs (double x y) ≤ bound A x y = omega (arith, m, add_is z z, apart (z +ℤ z), abs_is (z +ℤ z)) in
    p also products A a b h

-- the bound of all terms together, where the second factors are at most B in size
pub alike : (A B : ℕ) (a b : List ℤ) → every (at_most B) b ≡ true → sum (zip_with (bound A) a b) ≤ length a * (2 * (A * B))
unfolding zip_with
alike A B [] b e = omega arith
alike A B (x ∷ a) [] e = omega arith
alike A B (x ∷ a) (y ∷ b) e =
    let (g, h) = (every_cons (at_most B) y b).0 e in
    omega (arith, alike A B a b h, mul-le-mul_left A (leb-true (nat_abs y) B g))

-- or by the second factors themselves
others : (A : ℕ) (a b : List ℤ) → sum (zip_with (bound A) a b) ≤ sum (map (λ y. 2 * (A * nat_abs y)) b)
unfolding zip_with
others A [] b = omega arith
others A (x ∷ a) [] = omega arith
others A (x ∷ a) (y ∷ b) = omega (arith, others A a b)

-- in sum (f) these are the taps of the weighting filter
pub taps_most : (a : List ℤ) → sum (zip_with (bound 32768) a H) ≤ 1625161728
unfolding H
taps_most a = others 32768 a H

-- which are small
pub H_sizes : every (at_most 8192) H ≡ true
unfolding H every
H_sizes = refl
