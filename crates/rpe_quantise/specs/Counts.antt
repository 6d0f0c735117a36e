-- A shift by a count that is a word, as the machine does it: where the count is from 0 to 15, it is the standard's shift.
use Rattle.std.specs.Prelude.{◌*◌, ◌%◌, ◌^◌, ◌<◌, ◌≡◌, true, ℤ, pos, negsuc}
use Rattle.std.proofs.Math.Path.{refl}
use Rattle.std.specs.Int.Signed.{le_z}
use Rattle.std.specs.Int.{Width}
use mir.Val.{SFits, bits, of_z, to_z}
use Rattle.math_integers.specs.Halves.{zar}
use Rattle.standard.specs.Arithmetic.{◌>>◌, shl, shr}
use Rattle.law_arithmetic.specs.Shift.{up_bits}

-- such a count
abbrev pub Count : ℤ → Type 0
Count n = (le_z (pos 0) n ≡ true) × (le_z n (pos 15) ≡ true)

-- held in a local of width v
module _ (v : Width) where
  pub count_below : (n : ℤ) → Count n → of_z v n < 16
  count_below (pos n) h = omega (zar, h)
  count_below (negsuc n) h = absurd (omega (zar, h))

  module _ (w : Width) (x : ℤ) where
    pub shl_bits : (n : ℤ) → Count n → SFits w x → to_z w ((of_z w x * 2 ^ of_z v n) % 2 ^ bits w) ≡ shl w x n
    unfolding shl
    shl_bits (pos n) h f = up_bits w x n f
    shl_bits (negsuc n) h f = absurd (omega (zar, h))

    pub shr_bits : (n : ℤ) → Count n → x >> of_z v n ≡ shr w x n
    unfolding shr
    shr_bits (pos n) h = refl
    shr_bits (negsuc n) h = absurd (omega (zar, h))
