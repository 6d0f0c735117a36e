-- 4.2.2: the 31 by 16 bits multiplication by 32735, done in two parts, is the plain product, rounded. Nothing saturates, and no bit is
-- lost.
use Rattle.std.specs.Prelude.{suc, ◌+◌, ◌*◌, ◌-◌, ◌%◌, ◌<◌, ◌≤◌, ◌≡◌, true, ℤ, pos, negsuc, ◌+ℤ◌, ◌-ℤ◌, ◌*ℤ◌}
use Rattle.std.proofs.Math.Path.{ap}
use Rattle.std.proofs.Common.{◌∙◌, arith, SFits}
use Rattle.std.proofs.Math.IntN.{*ℤ_comm}
use Rattle.std.specs.Int.{w16, w32}
use Rattle.math_integers.specs.Halves.{P, N, apart, eq_is, zar, know}
use Rattle.math_integers.specs.Sums.{add_is, minus_is, mul_is, scale_is, shr_is}
use Rattle.standard.specs.Arithmetic.{modulo, ◌>>◌, low, up, mult_r, L_add, L_sub, L_mult}
use Rattle.standard.specs.Preprocessing.{recursive}
use Rattle.law_arithmetic.specs.Within.{range_is}
use Rattle.law_arithmetic.specs.Clip.{plus_plain, minus_plain}
use Rattle.law_arithmetic.specs.Shift.{modulo_below, keep_plain}
use Rattle.law_arithmetic.specs.Product.{mult_r_plain, L_mult_plain}
use Rattle.law_soundness.specs.Ranges.{long_range}

-- ---- the plain product

-- 32735 · x / 32768, rounded
abbrev pub decayed : ℤ → ℤ
decayed x = (pos 32735 *ℤ x +ℤ pos 16384) >> 15

-- what it is, for `omega`
pub decayed_is : (x : ℤ)
    → (32768 * P (decayed x) + 32735 * N x ≤ 32768 * N (decayed x) + 32735 * P x + 16384)
    × (32768 * N (decayed x) + 32735 * P x + 16384 < 32768 * P (decayed x) + 32735 * N x + 32768)
    × (P (decayed x) ≤ P x) × (N (decayed x) ≤ N x)
decayed_is x =
    let y = pos 32735 *ℤ x in
    omega (arith, apart x, mul_is (pos 32735) x, add_is y (pos 16384), apart (y +ℤ pos 16384), shr_is (y +ℤ pos 16384) 32768 (omega arith))

-- a multiple of 32768 has nothing to round
pub decayed_shift : (x k : ℤ) → decayed (x +ℤ pos 32768 *ℤ k) ≡ decayed x +ℤ pos 32735 *ℤ k
decayed_shift x k =
    let y = pos 32768 *ℤ k in
    let z = pos 32735 *ℤ k in
    omega (zar, decayed_is x, decayed_is (x +ℤ y), add_is x y, mul_is (pos 32768) k, mul_is (pos 32735) k, add_is (decayed x) z)

-- ---- in two parts

-- the high part and the low part, as the standard computes them
abbrev pub msp : ℤ → ℤ
msp x = low (x >> 15)

abbrev pub lsp : ℤ → ℤ
lsp x = low (L_sub x (up w32 (msp x) 15))

-- x is its low part plus 32768 times its high part
parts : (x : ℤ) → x ≡ pos (modulo x 32768) +ℤ pos 32768 *ℤ (x >> 15)
unfolding modulo
parts (pos n) = omega (zar, mul_is (pos 32768) (pos n >> 15), add_is (pos (n % 32768)) (pos 32768 *ℤ (pos n >> 15)))
parts (negsuc n) =
    omega (zar, mul_is (pos 32768) (negsuc n >> 15), add_is (pos (32768 - suc (n % 32768))) (pos 32768 *ℤ (negsuc n >> 15)))

module _ (x : ℤ) (h : long_range x ≡ true) where
  -- the low part is from 0 to 32767
  below : modulo x 32768 < 32768
  below = modulo_below x (omega arith)

  -- the high part of 31 bits is a word
  high_word : SFits w16 (x >> 15)
  high_word = omega (zar, range_is 1073741824 1073741823 x h, shr_is x 32768 (omega arith))

  -- so no bit of it is lost
  pub msp_plain : msp x ≡ x >> 15
  msp_plain = keep_plain high_word

  -- without the high part, the low part is left
  left_is : x -ℤ up w32 (msp x) 15 ≡ pos (modulo x 32768)
  left_is =
      let q = x >> 15 in
      let y = q *ℤ pos 32768 in
      let r = pos (modulo x 32768) in
      let e : up w32 q 15 ≡ y = keep_plain (omega (zar, know high_word, scale_is q 32768)) in
      rw (msp_plain, e)
      (omega (zar, eq_is _ _ (parts x), mul_is (pos 32768) q, scale_is q 32768, add_is r (pos 32768 *ℤ q), minus_is x y))

  pub left_plain : L_sub x (up w32 (msp x) 15) ≡ x -ℤ up w32 (msp x) 15
  left_plain = minus_plain x _ (rw left_is (omega (zar, below)))

  -- which is a word too
  pub lsp_plain : lsp x ≡ L_sub x (up w32 (msp x) 15)
  lsp_plain = keep_plain (rw (left_plain, left_is) (omega (zar, below)))

  lsp_is : lsp x ≡ pos (modulo x 32768)
  lsp_is = lsp_plain ∙ (left_plain ∙ left_is)

  -- the product of the high part, doubled
  pub high_plain : L_mult (msp x) (pos 32735) ≡ msp x *ℤ pos 32735 +ℤ msp x *ℤ pos 32735
  high_plain = rw msp_plain (L_mult_plain (x >> 15) (pos 32735) high_word (omega zar) (omega (arith, know high_word)))

  -- and halved
  high_is : L_mult (msp x) (pos 32735) >> 1 ≡ pos 32735 *ℤ (x >> 15)
  high_is =
      let q = x >> 15 in
      let y = q *ℤ pos 32735 in
      rw (high_plain, msp_plain)
      (omega (zar, apart y, mul_is (pos 32735) q, scale_is q 32735, add_is y y, shr_is (y +ℤ y) 2 (omega arith)))

  -- the product of the low part, rounded
  pub low_plain : mult_r (lsp x) (pos 32735) ≡ (lsp x *ℤ pos 32735 +ℤ pos 16384) >> 15
  low_plain = rw lsp_is (mult_r_plain (pos (modulo x 32768)) (pos 32735) (omega (zar, below)) (omega zar) (omega arith))

  low_is : mult_r (lsp x) (pos 32735) ≡ decayed (pos (modulo x 32768))
  low_is =
      low_plain
      ∙ ap (λ (y : ℤ). (y +ℤ pos 16384) >> 15) (ap (λ (y : ℤ). y *ℤ pos 32735) lsp_is ∙ *ℤ_comm (pos (modulo x 32768)) (pos 32735))

  -- the sum of the low one with a number of 31 bits, and the sum of the high one with this
  module _ (s : ℤ) (g : long_range s ≡ true) where
    abbrev low_part : ℤ
    low_part = decayed (pos (modulo x 32768))

    abbrev high_part : ℤ
    high_part = pos 32735 *ℤ (x >> 15)

    both_fit : SFits w32 (s +ℤ low_part) × SFits w32 (high_part +ℤ (s +ℤ low_part))
    both_fit =
        let s-in = range_is 1073741824 1073741823 s g in
        let t-is = decayed_is (pos (modulo x 32768)) in
        let p-is = mul_is (pos 32735) (x >> 15) in
        let first = add_is s low_part in
        (omega (zar, below), omega (zar, below, know high_word, add_is high_part (s +ℤ low_part)))

    -- neither saturates
    pub first_plain : L_add s (mult_r (lsp x) (pos 32735)) ≡ s +ℤ mult_r (lsp x) (pos 32735)
    first_plain = rw low_is (plus_plain s low_part both_fit.0)

    pub second_plain : let t = L_add s (mult_r (lsp x) (pos 32735)) in
        L_add (L_mult (msp x) (pos 32735) >> 1) t ≡ (L_mult (msp x) (pos 32735) >> 1) +ℤ t
    second_plain = rw (first_plain, high_is, low_is) (plus_plain high_part (s +ℤ low_part) both_fit.1)

    -- so they are the plain product and the plain sum
    pub recursive_plain : recursive x s ≡ s +ℤ decayed x
    unfolding recursive
    recursive_plain =
        let e : decayed x ≡ low_part +ℤ high_part = ap decayed (parts x) ∙ decayed_shift (pos (modulo x 32768)) (x >> 15) in
        let first = add_is s low_part in
        let second = add_is high_part (s +ℤ low_part) in
        rw (second_plain, first_plain, high_is, low_is, e) (omega (zar, add_is low_part high_part, add_is s (low_part +ℤ high_part)))
