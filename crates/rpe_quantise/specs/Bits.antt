-- How many bits a number has: 16 less the leading zeros of the word.
use Rattle.std.specs.Prelude.{ℕ, zero, suc, ◌+◌, ◌-◌, ◌*◌, ◌^◌, ◌<◌, ◌≤◌, ◌≡◌, true, ℤ, pos, negsuc}
use Rattle.std.proofs.Common.{arith, not-le_of_lt, lt_of_not-le, pow_mono, SFits}
use Rattle.std.proofs.Math.Nat.{pow-succ'}
use Rattle.std.proofs.lemmas.Nat.{leading_length}
use Rattle.std.specs.Int.Signed.{le_z}
use Rattle.std.specs.Int.{w16, leading_zeros}
use mir.Val.{of_z}
use Rattle.math_integers.specs.Halves.{P, zar, know}

-- x is below the power of 2 that its bits say, and not below the one before
pub record Bits (x : ℤ) : Type 0 where
  pub count : ℕ
  pub is : leading_zeros w16 (of_z w16 x) + count ≡ 16
  pub below : P x < 2 ^ count
  pub above : 0 < count → 2 ^ (count - 1) ≤ P x

pub bits_of : (x : ℤ) → le_z (pos 0) x ≡ true → SFits w16 x → Bits x
bits_of (negsuc a) h f = absurd (omega (zar, h))
bits_of (pos a) h f =
    let (m, e, below, above) = leading_length 16 a (omega (zar, know f)) in record {
      count = m;
      is = e;
      below = below;
      above = half m above;
    }
  where
    half : (m : ℕ) → 2 ^ m ≤ 2 * a + 1 → 0 < m → 2 ^ (m - 1) ≤ a
    half zero l p = absurd (omega arith)
    half (suc m) l p =
        let e : suc m - 1 ≡ m = omega arith in
        rw e (omega (arith, pow-succ' 2 m))

-- a number below 2 ^ k has at most k bits
pub bits_most : {x : ℤ} (b : Bits x) (k : ℕ) → P x < 2 ^ k → b.count ≤ k
bits_most {x} b k h =
    let short : b.count < suc k =
    lt_of_not-le
    (λ (g : suc k ≤ b.count).
    let l : 2 ^ k ≤ 2 ^ (b.count - 1) = pow_mono (omega arith) in
    not-le_of_lt h (omega (arith, b.above (omega arith)))) in
    omega arith
