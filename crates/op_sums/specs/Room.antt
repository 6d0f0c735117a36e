-- Where the sum of the products of two lists cannot saturate: no step of it reaches the limit, so it is the plain sum, doubled once.
use Rattle.std.specs.Prelude.{ℕ, ◌+◌, ◌*◌, ◌<◌, ◌≤◌, ◌≡◌, refl, Bool, true, leb, ℤ, pos, ◌+ℤ◌, ◌*ℤ◌, nat_abs, length}
use Rattle.std.proofs.Common.{sym, ap, ◌∙◌, arith, mul-le-mul_right, zero-add, ext_get_or, SFits, leb-true, le-leb}
use mathlib.Core.List.{List, [], ◌∷◌, zip_with, foldl}
use mir.Syntax.{w16, w32}
use Rattle.math_integers.specs.Halves.{zar, know, apart, abs_is}
use Rattle.math_integers.specs.Sums.{add_is, mul_in}
use Rattle.math_lists.specs.Every.{every, every_at, every_so}
use Rattle.math_lists.specs.Tab.{zip_at, zip_length}
use Rattle.standard.specs.Tables.{◌at◌}
use Rattle.standard.specs.Arithmetic.{L_mult, L_sum}
use Rattle.law_arithmetic.specs.Clip.{clip_plain}
use Rattle.law_arithmetic.specs.Sum.{sum_in, sum_plain}
use Rattle.law_arithmetic.specs.Within.{word, word_is}

-- of a size up to b
abbrev pub at_most : ℕ → ℤ → Bool
at_most b z = leb (nat_abs z) b

-- two lists of one length, with a bound of the products of their words; the bound times the length is below 2 ^ 30
pub record Headroom (a b : List ℤ) : Type 0 where
  pub same : length a ≡ length b
  pub most : ℕ
  pub each : (i : ℕ) → i < length a → SFits w16 (a at i) → SFits w16 (b at i) → nat_abs (a at i *ℤ b at i) ≤ most
  pub fits : length a * most < 1073741824

-- twice a product
abbrev twice : ℤ → ℤ → ℤ
twice x y = x *ℤ y +ℤ x *ℤ y

-- L_mult of two factors whose product has 30 bits
L_mult_small : (x y : ℤ) → nat_abs (x *ℤ y) < 1073741824 → L_mult x y ≡ twice x y
unfolding L_mult
L_mult_small x y h = clip_plain (omega (zar, add_is (x *ℤ y) (x *ℤ y), abs_is (x *ℤ y)))

-- a number and itself, twice over
regroup : (s p : ℤ) → (s +ℤ s) +ℤ (p +ℤ p) ≡ (s +ℤ p) +ℤ (s +ℤ p)
regroup s p = omega (zar, add_is s s, add_is p p, add_is s p, add_is (s +ℤ s) (p +ℤ p), add_is (s +ℤ p) (s +ℤ p))

-- the sum of the doubles is the double of the sum
doubled : (s : ℤ) (a b : List ℤ) → let t = foldl ◌+ℤ◌ s (zip_with ◌*ℤ◌ a b) in foldl ◌+ℤ◌ (s +ℤ s) (zip_with twice a b) ≡ t +ℤ t
unfolding zip_with
doubled s [] b = refl
doubled s (x ∷ a) [] = refl
doubled s (x ∷ a) (y ∷ b) = ap (λ (t : ℤ). foldl ◌+ℤ◌ t (zip_with twice a b)) (regroup s (x *ℤ y)) ∙ doubled (s +ℤ x *ℤ y) a b

module _ (a b : List ℤ) (most : ℕ) (l : length a ≡ length b) (e : (i : ℕ) → i < length a → nat_abs (a at i *ℤ b at i) ≤ most)
    (f : length a * most < 1073741824) where
  -- each product is below 2 ^ 30
  below : (i : ℕ) → i < length a → nat_abs (a at i *ℤ b at i) < 1073741824
  below i h = let m : 1 * most ≤ length a * most = mul-le-mul_right most (omega arith) in omega (arith, e i h)

  products_length : length (zip_with L_mult a b) ≡ length a
  products_length = omega (arith, zip_length L_mult a b)

  product_is : (i : ℕ) → i < length a → zip_with L_mult a b at i ≡ twice (a at i) (b at i)
  product_is i h = zip_at L_mult a b i (pos 0) (pos 0) (pos 0) h (omega arith) ∙ L_mult_small (a at i) (b at i) (below i h)

  -- no L_mult saturates
  products_plain : zip_with L_mult a b ≡ zip_with twice a b
  products_plain =
      ext_get_or (pos 0) _ _ (products_length ∙ sym (omega (arith, zip_length twice a b)))
      (λ i h. let g : i < length a = omega (arith, products_length) in
      product_is i g ∙ sym (zip_at twice a b i (pos 0) (pos 0) (pos 0) g (omega arith)))

  term_in : (i : ℕ) → i < length (zip_with L_mult a b) → nat_abs (zip_with L_mult a b at i) ≤ most + most
  term_in i h =
      let g : i < length a = omega (arith, products_length) in
      let p = a at i *ℤ b at i in
      rw (product_is i g) (omega (zar, e i g, abs_is p, abs_is (p +ℤ p), add_is p p, apart (p +ℤ p)))

  room : 0 + length (zip_with L_mult a b) * (most + most) < 2147483648
  room = rw products_length (omega arith)

  -- nor does any step of the sum
  pub L_sum_steps : L_sum (pos 0) a b ≡ foldl ◌+ℤ◌ (pos 0) (zip_with L_mult a b)
  unfolding L_sum
  L_sum_steps = sum_plain w32 (most + most) 0 (zip_with L_mult a b) (pos 0) (omega arith) term_in room

  -- so it is the plain sum, doubled
  pub L_sum_plain : let s = foldl ◌+ℤ◌ (pos 0) (zip_with ◌*ℤ◌ a b) in L_sum (pos 0) a b ≡ s +ℤ s
  L_sum_plain = L_sum_steps ∙ (ap (foldl ◌+ℤ◌ (pos 0)) products_plain ∙ doubled (pos 0) a b)

  -- and within twice its bound
  pub L_sum_in : nat_abs (L_sum (pos 0) a b) ≤ length a * (most + most)
  unfolding L_sum
  L_sum_in = rw (products_length, zero-add) at (sum_in w32 (most + most) 0 (zip_with L_mult a b) (pos 0) (omega arith) term_in room)

-- ---- words of known sizes

-- any word is at most 32768
pub words_sized : (xs : List ℤ) → every word xs ≡ true → every (at_most 32768) xs ≡ true
words_sized = every_so word (at_most 32768) (λ x h. le-leb (nat_abs x) 32768 (omega (arith, know (word_is x h), abs_is x)))

module _ (A B : ℕ) (a b : List ℤ) (p : every (at_most A) a ≡ true) (q : every (at_most B) b ≡ true) where
  -- the product of two of them
  pub sized_product : (i : ℕ) → i < length a → i < length b → nat_abs (a at i *ℤ b at i) ≤ A * B
  sized_product i h k =
      let x = a at i in
      let y = b at i in
      let u : nat_abs x ≤ A = leb-true _ A (every_at (at_most A) a i (pos 0) p h) in
      let v : nat_abs y ≤ B = leb-true _ B (every_at (at_most B) b i (pos 0) q k) in
      rw (abs_is (x *ℤ y)) (mul_in A B x y (omega (arith, abs_is x, apart x)) (omega (arith, abs_is y, apart y)))

  module _ (l : length a ≡ length b) (f : length a * (A * B) < 1073741824) where
    each : (i : ℕ) → i < length a → nat_abs (a at i *ℤ b at i) ≤ A * B
    each i h = sized_product i h (omega arith)

    -- the code may add them on 32 bits
    pub sized_room : Headroom a b
    sized_room = record { same = l; most = A * B; each = λ i h _ _. each i h; fits = f }

    -- the sum is the plain sum, doubled
    pub sized_plain : let s = foldl ◌+ℤ◌ (pos 0) (zip_with ◌*ℤ◌ a b) in L_sum (pos 0) a b ≡ s +ℤ s
    sized_plain = L_sum_plain a b (A * B) l each f

    -- and within twice its bound
    pub sized_in : nat_abs (L_sum (pos 0) a b) ≤ length a * (A * B + A * B)
    sized_in = L_sum_in a b (A * B) l each f
