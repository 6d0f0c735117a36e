-- 4.2.1 and 4.2.2, one iteration of the loop: the sample that it takes, the size of s1, and the filter's step.
use Rattle.std.specs.Prelude.{ℕ, ◌<◌, ◌≤◌, ◌≡◌, true, List, ℤ, pos, ◌+ℤ◌, ◌-ℤ◌, ◌*ℤ◌, nat_abs, length}
use Rattle.std.proofs.Common.{arith}
use Rattle.math_integers.specs.Halves.{apart, abs_is}
use Rattle.math_integers.specs.Sums.{minus_is}
use Rattle.math_lists.specs.Tab.{map_at}
use Rattle.standard.specs.Arithmetic.{◌>>◌, ◌<<◌}
use Rattle.standard.specs.Tables.{◌at◌}
use Rattle.standard.specs.Preprocessing.{downscaled, Offset, offset}
use Rattle.law_arithmetic.specs.Within.{range_is}
use Rattle.law_soundness.specs.Ranges.{so_range}
use Rattle.law_soundness.specs.Decay.{decayed}
use Rattle.law_soundness.specs.Offset.{sound_offset, sound_is, plain_offset, offset_plain}

-- so[k] is the sample at k, downscaled
pub downscaled_at : (s : List ℤ) (k : ℕ) → k < length s → downscaled s at k ≡ ((s at k) >> 3) << 2
unfolding downscaled
downscaled_at s k h = map_at (λ sop. (sop >> 3) << 2) s k (pos 0) (pos 0) h

module _ (m : Offset) (so : ℤ) (h : sound_offset m ≡ true) (k : so_range so ≡ true) where
  -- s1 is at most 32764 in size
  pub s1_in : nat_abs (so -ℤ m.z1) ≤ 32764
  s1_in =
      let s1 = so -ℤ m.z1 in
      omega (arith, sound_is m h, range_is 16384 16380 so k, minus_is so m.z1, apart s1, abs_is s1)

  -- what is computed by plain sums is the filter's step
  pub turn_is : (next : Offset) (sof : ℤ)
      → next.z1 ≡ so → next.L_z2 ≡ pos 32768 *ℤ (so -ℤ m.z1) +ℤ decayed m.L_z2 → sof ≡ (next.L_z2 +ℤ pos 16384) >> 15
      → (next, sof) ≡ offset m so
  unfolding plain_offset
  turn_is next sof z e s = rw (offset_plain m so h k, s, e, z)
