-- 4.2.16: neither the product nor the sum of a pulse saturates.
use Rattle.std.specs.Prelude.{ℕ, ◌*◌, ◌≤◌, ◌≡◌, refl, true, leb, ℤ, pos, negsuc, ◌+ℤ◌, ◌*ℤ◌}
use Rattle.std.proofs.Common.{ap, arith, mul-le-mul, SFits, to_z, leb-true}
use Rattle.std.specs.Int.Signed.{le_z}
use Rattle.std.specs.Int.{w16}
use Rattle.math_integers.specs.Halves.{P, N, zar, know}
use Rattle.math_integers.specs.Sums.{add_is, mul_is, shr_is}
use Rattle.math_lists.specs.Every.{every, every_tab}
use Rattle.math_lists.specs.Tab.{tab}
use Rattle.standard.specs.Arithmetic.{within, clip, modulo, keep, minus, ◌>>◌, ◌<<◌, shl, shr, add, sub, mult_r}
use Rattle.law_arithmetic.specs.Shift.{modulo_below, modulo_scaled}
use Rattle.law_arithmetic.specs.Within.{range_is}
use Rattle.law_arithmetic.specs.Product.{mult_r_plain}

-- the range of the rounding term temp3
abbrev pub Rounding : ℤ → Type 0
Rounding temp3 = within (pos 0) (pos 512) temp3 ≡ true

-- 1 << (temp2 − 1), for each temp2 from 0 to 10
halves : every (λ t. within (pos 0) (pos 512) (shl w16 (pos 1) (sub (pos t) (pos 1)))) (tab (λ t. t) 0 11) ≡ true
unfolding every tab shl minus clip keep modulo
halves = refl

-- is in that range
pub half_in : (temp2 : ℤ) → N temp2 ≡ 0 → P temp2 ≤ 10 → Rounding (shl w16 (pos 1) (sub temp2 (pos 1)))
half_in (pos t) z h = every_tab _ (λ t. t) 11 t halves (omega arith)
half_in (negsuc t) z h = absurd (omega arith)

-- the words whose low twelve bits are 0
tops : every (λ j. leb (P (to_z w16 (j * 4096))) 28672) (tab (λ j. j) 0 16) ≡ true
unfolding every tab
tops = refl

-- none is above 28672
pub top_in : (z : ℤ) → P (z << 12) ≤ 28672
unfolding keep
top_in z =
    let j = modulo z 16 in
    rw (modulo_scaled z {m = 16} {c = 4096} (omega arith) (omega arith))
    (leb-true (P (to_z w16 (j * 4096))) 28672 (every_tab _ (λ j. j) 16 j tops (modulo_below z (omega arith))))

-- a mantissa that is not negative, times such a word
module _ (a x : ℤ) (f : SFits w16 a) (g : SFits w16 x) (above : le_z (pos 0) a ≡ true) where
  -- the product does not saturate
  pub product_plain : mult_r a x ≡ (a *ℤ x +ℤ pos 16384) >> 15
  product_plain = mult_r_plain a x f g (omega (zar, know f, know g))

  -- nor does its sum with a small rounding term
  pub total_fits : (b : ℤ) → P x ≤ 28672 → Rounding b → SFits w16 (mult_r a x +ℤ b)
  total_fits b top l =
      let y = a *ℤ x +ℤ pos 16384 in
      let n : N a ≡ 0 = omega (zar, know f) in
      let p : P a ≤ 32767 = omega (arith, know f) in
      let q : N x ≤ 32768 = omega (arith, know g) in
      let high = mul-le-mul p top in
      let low = mul-le-mul p q in
      let none = ap (λ (k : ℕ). k * N x) n in
      let none' = ap (λ (k : ℕ). k * P x) n in
      let whole : (P (a *ℤ x) ≤ 939495424) × (N (a *ℤ x) ≤ 1073709056) = omega (arith, mul_is a x) in
      let shifted : (P (y >> 15) ≤ 28671) × (N (y >> 15) ≤ 32767) =
      omega (arith, add_is (a *ℤ x) (pos 16384), shr_is y 32768 (omega arith)) in
      rw product_plain (omega (zar, add_is (y >> 15) b, range_is 0 512 b l))

-- a pulse, from the mantissa, the shift and the rounding term
abbrev pub pulse : ℤ → ℤ → ℤ → ℤ → ℤ
pulse temp1 temp2 temp3 xMc = shr w16 (add (mult_r temp1 (sub (xMc << 1) (pos 7) << 12)) temp3) temp2
