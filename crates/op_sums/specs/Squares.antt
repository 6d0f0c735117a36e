-- The sum of the squares of words, once these are shifted right: it is not negative, has a bound, and no step of it saturates.
use Rattle.std.specs.Prelude.{ℕ, ◌+◌, ◌*◌, ◌-◌, ◌^◌, ◌<◌, ◌≤◌, ◌≡◌, true, ℤ, pos, negsuc, nat_abs, length}
use Rattle.std.proofs.Math.Path.{refl}
use Rattle.std.proofs.Common.{sym, ap, ◌∙◌, arith, pow-add, SFits, le-leb}
use mathlib.Core.List.{List, [], ◌∷◌, map, zip_with, foldl}
use Rattle.std.proofs.Math.IntN.{◌+ℤ◌, ◌*ℤ◌}
use Rattle.std.proofs.lemmas.List.{length-map}
use Rattle.std.specs.Int.{w16}
use Rattle.math_integers.specs.Halves.{N, zar, know, apart, abs_is}
use Rattle.math_integers.specs.Sums.{add_is, mul_in}
use Rattle.math_lists.specs.Every.{every, every_map, every_so}
use Rattle.standard.specs.Arithmetic.{◌>>◌, within, L_sum, L_squares}
use Rattle.law_arithmetic.specs.Shift.{down_in}
use Rattle.law_arithmetic.specs.Within.{within_yes, word, word_is}
use Rattle.op_sums.specs.Room.{at_most, sized_plain, sized_in}

-- a word that was shifted right by n
shifted_in : (n : ℕ) (x : ℤ) → n ≤ 15 → SFits w16 x → nat_abs (x >> n) ≤ 2 ^ (15 - n)
shifted_in n x h f =
    let e : n + (15 - n) ≡ 15 = omega arith in
    let p : 2 ^ n * 2 ^ (15 - n) ≡ 32768 = sym (pow-add 2 n (15 - n)) ∙ ap (λ (k : ℕ). 2 ^ k) e in
    let (u, v) = down_in x n (2 ^ (15 - n)) (omega (arith, know f)) (omega (arith, know f)) in
    omega (arith, apart (x >> n), abs_is (x >> n))

-- and its square
pub square_in : (n : ℕ) (x : ℤ) → n ≤ 15 → SFits w16 x → nat_abs ((x >> n) *ℤ (x >> n)) ≤ 2 ^ (15 - n) * 2 ^ (15 - n)
square_in n x h f =
    let y = x >> n in
    let b = 2 ^ (15 - n) in
    let s = shifted_in n x h f in
    rw (abs_is (y *ℤ y)) (mul_in b b y y (omega (arith, abs_is y)) (omega (arith, abs_is y)))

-- a square is not negative, and so no sum of them is
square_above : (x : ℤ) → N (x *ℤ x) ≡ 0
square_above (pos n) = refl
square_above (negsuc n) = refl

squares_above : (s : ℤ) (xs : List ℤ) → N s ≡ 0 → N (foldl ◌+ℤ◌ s (zip_with ◌*ℤ◌ xs xs)) ≡ 0
unfolding zip_with
squares_above s [] h = h
squares_above s (x ∷ xs) h = squares_above (s +ℤ x *ℤ x) xs (omega (arith, add_is s (x *ℤ x), square_above x))

module _ (n : ℕ) (xs : List ℤ) where
  -- the words after their shift
  abbrev pub shifted : List ℤ
  shifted = map (λ x. x >> n) xs

  module _ (h : n ≤ 15) (w : every word xs ≡ true) (f : length xs * (2 ^ (15 - n) * 2 ^ (15 - n)) < 1073741824) where
    small : every (at_most (2 ^ (15 - n))) shifted ≡ true
    small = rw every_map (every_so word _ (λ x g. le-leb _ (2 ^ (15 - n)) (shifted_in n x h (word_is x g))) xs w)

    fits : length shifted * (2 ^ (15 - n) * 2 ^ (15 - n)) < 1073741824
    fits = rw (length-map xs (λ x. x >> n)) f

    -- the sum is from 0 to twice its bound
    pub squares_in : (most : ℕ) → 2 * (length xs * (2 ^ (15 - n) * 2 ^ (15 - n))) ≤ most → within (pos 0) (pos most) (L_squares n xs) ≡ true
    unfolding L_squares
    squares_in most k =
        let s = foldl ◌+ℤ◌ (pos 0) (zip_with ◌*ℤ◌ shifted shifted) in
        let e = sized_plain _ _ shifted shifted small small refl fits in
        let b = rw (length-map xs (λ x. x >> n)) at (sized_in _ _ shifted shifted small small refl fits) in
        within_yes (pos 0) (pos most) (L_sum (pos 0) shifted shifted)
        (rw e (omega (zar, add_is s s, squares_above (pos 0) shifted refl)))
        (omega (zar, b, abs_is (L_sum (pos 0) shifted shifted)))
