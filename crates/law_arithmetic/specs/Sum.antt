-- A sum of bounded terms: it stays within its bound at every step. So where the bound is within the range, the saturating sum is the plain
-- sum.
use Rattle.std.specs.Prelude.{ℕ, suc, ◌+◌, ◌*◌, ◌^◌, ◌<◌, ◌≤◌, ◌≡◌, refl, ℤ, pos, ◌+ℤ◌, nat_abs, length, get_or, replicate}
use Rattle.std.proofs.Common.{ap, ◌∙◌, arith}
use mathlib.Core.List.{List, [], ◌∷◌, foldl}
use Rattle.std.proofs.Math.Nat.{sub-zero}
use Rattle.std.specs.Int.{Width}
use mir.Val.{hbits}
use Rattle.math_integers.specs.Halves.{zar, apart, abs_is}
use Rattle.math_integers.specs.Sums.{add_is}
use Rattle.math_lists.specs.Cut.{sum, rest_sum}
use Rattle.standard.specs.Arithmetic.{plus}
use Rattle.law_arithmetic.specs.Clip.{plus_plain}

-- each term is within the bound at its index
infixr 20 ◌also◌
pub data Bounded : List ℤ → List ℕ → Type 0 where
  none : Bounded [] []
  ◌also◌ : {x : ℤ} {b : ℕ} {xs : List ℤ} {bs : List ℕ} → nat_abs x ≤ b → Bounded xs bs → Bounded (x ∷ xs) (b ∷ bs)

module _ (w : Width) where
  -- one more term does not saturate, and keeps the bound
  next : (C b : ℕ) (s x : ℤ) → nat_abs s ≤ C → nat_abs x ≤ b → C + b < 2 ^ hbits w → (plus w s x ≡ s +ℤ x) × (nat_abs (plus w s x) ≤ C + b)
  next C b s x h k r =
      let e : plus w s x ≡ s +ℤ x = plus_plain s x (omega (zar, add_is s x, abs_is s, abs_is x)) in
      (e, rw e (omega (zar, add_is s x, abs_is s, abs_is x, abs_is (s +ℤ x), apart (s +ℤ x))))

  -- from a start within C, over terms that each have a bound of their own
  pub bounded_sum : {xs : List ℤ} {bs : List ℕ} → Bounded xs bs → (C : ℕ) (s : ℤ) → nat_abs s ≤ C → C + sum bs < 2 ^ hbits w
      → (foldl (plus w) s xs ≡ foldl ◌+ℤ◌ s xs) × (nat_abs (foldl (plus w) s xs) ≤ C + sum bs)
  bounded_sum none C s h r = (refl, omega arith)
  bounded_sum (◌also◌ {x = x} {b = b} {xs = xs} k t) C s h r =
      let (e, g) = next C b s x h k (omega arith) in
      let (f, l) = bounded_sum t (C + b) (plus w s x) g (omega arith) in
      (f ∙ ap (λ (y : ℤ). foldl ◌+ℤ◌ y xs) e, omega arith)

-- one bound for all terms
alike : (B : ℕ) (xs : List ℤ) → ((i : ℕ) → i < length xs → nat_abs (get_or xs i (pos 0)) ≤ B) → Bounded xs (replicate (length xs) B)
alike B [] t = none
alike B (x ∷ xs) t = t 0 (omega arith) also alike B xs (λ i h. t (suc i) (omega arith))

module _ (w : Width) (B C : ℕ) (xs : List ℤ) (s : ℤ) (start : nat_abs s ≤ C)
    (terms : (i : ℕ) → i < length xs → nat_abs (get_or xs i (pos 0)) ≤ B) (room : C + length xs * B < 2 ^ hbits w) where
  total : sum (replicate (length xs) B) ≡ length xs * B
  total = omega (arith, rw (sub-zero (length xs)) at (rest_sum B (length xs) 0))

  both : (foldl (plus w) s xs ≡ foldl ◌+ℤ◌ s xs) × (nat_abs (foldl (plus w) s xs) ≤ C + sum (replicate (length xs) B))
  both = bounded_sum w (alike B xs terms) C s start (rw total room)

  pub sum_in : nat_abs (foldl (plus w) s xs) ≤ C + length xs * B
  sum_in = rw total at both.1

  pub sum_plain : foldl (plus w) s xs ≡ foldl ◌+ℤ◌ s xs
  sum_plain = both.0
