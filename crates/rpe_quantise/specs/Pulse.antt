-- 4.2.15: the code of a pulse, by one product and one shift.
use Rattle.std.specs.Prelude.{ℕ, ◌≤◌, ◌≡◌, true, ℤ, pos, ◌+ℤ◌, ◌*ℤ◌}
use Rattle.std.proofs.Common.{arith, SFits}
use Rattle.std.specs.Int.Signed.{le_z, shr_z}
use Rattle.std.specs.Int.{w16}
use Rattle.math_integers.specs.Halves.{P, N, zar, know}
use Rattle.math_integers.specs.Sums.{add_is}
use Rattle.math_integers.specs.Ranges.{product_in}
use Rattle.standard.specs.Arithmetic.{◌>>◌, shl, add, mult}
use Rattle.law_arithmetic.specs.Clip.{plus_plain}
use Rattle.law_arithmetic.specs.Shift.{shr_in}
use Rattle.law_arithmetic.specs.Product.{mult_plain}
use Rattle.law_loops.specs.Quantization.{shifted}

-- the code of a pulse, from the shift and the inverse mantissa
abbrev pub code : ℤ → ℤ → ℤ → ℤ
code temp1 temp2 xM = add (mult (shl w16 xM temp1) temp2 >> 12) (pos 4)

-- the product of two words
module _ (y b : ℤ) (f : SFits w16 y) (g : SFits w16 b) where
  -- shifted right by 20 bits or more it is at most 1024 in size
  pub small : (m : ℕ) → 1048576 ≤ m → (P (shr_z (y *ℤ b) m) ≤ 1024) × (N (shr_z (y *ℤ b) m) ≤ 1024)
  small m h = shr_in (y *ℤ b) m 1024 (omega arith) (omega (arith, product_in f g)) (omega (arith, product_in f g))

  -- where b is not negative, neither mult nor the sum saturates, and the two shifts are one
  pub at_once : le_z (pos 0) b ≡ true → add (mult y b >> 12) (pos 4) ≡ (y *ℤ b) >> 27 +ℤ pos 4
  at_once above =
      rw (mult_plain y b f g (omega (zar, know f, know g)), shifted (y *ℤ b) 15 12)
      (plus_plain ((y *ℤ b) >> 27) (pos 4) (omega (zar, small 134217728 (omega arith), add_is ((y *ℤ b) >> 27) (pos 4))))
