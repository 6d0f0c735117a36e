-- mult, mult_r and L_mult: their sizes, and that they saturate for −32768 times −32768 only.
use Rattle.std.specs.Prelude.{ℕ, ◌+◌, ◌*◌, ◌<◌, ◌≤◌, ◌≡◌, ℤ, ◌+ℤ◌, ◌*ℤ◌}
use Rattle.std.proofs.Common.{⊎_elim, arith, SFits}
use Rattle.std.proofs.Math.IntN.{pos}
use mir.Syntax.{w16, w32}
use Rattle.math_integers.specs.Halves.{P, N, apart, le_or_lt, zar, know}
use Rattle.math_integers.specs.Sums.{add_is, mul_is, mul_in, shr_is}
use Rattle.standard.specs.Arithmetic.{◌>>◌, mult, mult_r, L_mult}
use Rattle.law_arithmetic.specs.Clip.{clip_is, clip_fits, clip_plain}

module _ (a b : ℤ) where
  pub mult_r_fits : SFits w16 (mult_r a b)
  unfolding mult_r
  mult_r_fits = clip_fits w16 ((a *ℤ b +ℤ pos 16384) >> 15)

  -- where the product is at most B · 32768 in size, mult_r gives at most B
  pub mult_r_in : (B : ℕ) → P (a *ℤ b) + N (a *ℤ b) ≤ B * 32768 → P (mult_r a b) + N (mult_r a b) ≤ B
  unfolding mult_r
  mult_r_in B h =
      let y = a *ℤ b +ℤ pos 16384 in
      omega (arith, apart (mult_r a b), add_is (a *ℤ b) (pos 16384), shr_is y 32768 (omega arith), clip_is w16 (y >> 15))

  -- and L_mult of a product of size at most B is at most 2 · B
  pub L_mult_in : (B : ℕ) → P (a *ℤ b) + N (a *ℤ b) ≤ B → P (L_mult a b) + N (L_mult a b) ≤ B + B
  unfolding L_mult
  L_mult_in B h = omega (arith, apart (L_mult a b), add_is (a *ℤ b) (a *ℤ b), clip_is w32 (a *ℤ b +ℤ a *ℤ b))

  -- where the product has 30 bits, L_mult is twice the product
  pub L_mult_small : P (a *ℤ b) + N (a *ℤ b) ≤ 1073741823 → L_mult a b ≡ a *ℤ b +ℤ a *ℤ b
  unfolding L_mult
  L_mult_small h = clip_plain (omega (zar, add_is (a *ℤ b) (a *ℤ b)))

  -- two words that are not both −32768
  module _ (f : SFits w16 a) (g : SFits w16 b) (h : N a + N b < 65536) where
    below : P (a *ℤ b) + N (a *ℤ b) ≤ 1073709056
    below =
        ⊎_elim
        (λ l. mul_in 32767 32768 a b (omega (arith, know f)) (omega (arith, know g)))
        (λ l. mul_in 32768 32767 a b (omega (arith, know f)) (omega (arith, know g)))
        (le_or_lt (N a) 32767)

    pub mult_plain : mult a b ≡ (a *ℤ b) >> 15
    unfolding mult
    mult_plain = clip_plain (omega (zar, below, shr_is (a *ℤ b) 32768 (omega arith)))

    pub mult_r_plain : mult_r a b ≡ (a *ℤ b +ℤ pos 16384) >> 15
    unfolding mult_r
    mult_r_plain = clip_plain (omega (zar, below, add_is (a *ℤ b) (pos 16384), shr_is (a *ℤ b +ℤ pos 16384) 32768 (omega arith)))

    pub L_mult_plain : L_mult a b ≡ a *ℤ b +ℤ a *ℤ b
    L_mult_plain = L_mult_small (omega (arith, below))

-- 0 times any number is 0
pub L_mult_zero : (b : ℤ) → L_mult (pos 0) b ≡ pos 0
L_mult_zero b =
    let e = mul_is (pos 0) b in
    let h = L_mult_in (pos 0) b 0 (omega arith) in
    omega (zar, apart (L_mult (pos 0) b))
