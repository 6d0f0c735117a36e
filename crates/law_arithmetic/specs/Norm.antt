-- norm of a positive long word: this left shift brings the value to 2 ^ 30 or more, no smaller one does, and it is the count of leading
-- zeros less 1.
use Rattle.std.specs.Prelude.{ℕ, suc, ◌+◌, ◌*◌, ◌-◌, ◌^◌, ◌<◌, ◌≤◌, ◌≡◌, true, leb, ℤ, pos, ◌*ℤ◌, nat_abs}
use Rattle.std.proofs.Common.{ap, ◌∙◌, arith, mul-le-mul_left, mul-le-mul_right, mul-lt-mul_of_pos_right, lt_of_not-le, not-le_of_lt, pow_mono, pow-add, pow_pos, SFits, le-leb}
use Rattle.std.proofs.Math.Nat.{pow-succ'}
use Rattle.std.specs.Int.Count.{count_leading_zeros}
use Rattle.std.proofs.lemmas.Nat.{leading_top}
use Rattle.std.specs.Int.Signed.{lt_z}
use Rattle.std.specs.Int.{w32}
use Rattle.std.proofs.lemmas.Bool.{lt-leb}
use Rattle.math_integers.specs.Halves.{zar, know, abs_is}
use Rattle.math_integers.specs.Sums.{scale_is}
use Rattle.math_lists.specs.First.{first_unique}
use Rattle.standard.specs.Arithmetic.{norm, shl}
use Rattle.law_arithmetic.specs.Shift.{shl_exact}

-- what norm says of z: the number of shifts, that they bring |z| to 2 ^ 30 up to 2 ^ 31 − 1, and that fewer shifts do not
pub record Normal (z : ℤ) : Type 0 where
  pub shifts : ℕ
  pub is : norm z ≡ pos shifts
  pub most : shifts ≤ 30
  pub reaches : 1073741824 ≤ nat_abs z * 2 ^ shifts
  pub stays : nat_abs z * 2 ^ shifts < 2147483648
  pub least : (k : ℕ) → k < shifts → nat_abs z * 2 ^ k < 1073741824
  pub counted : count_leading_zeros 32 (nat_abs z) ≡ suc shifts

pow_at : (k j d : ℕ) → k ≡ j + d → 2 ^ k ≡ 2 ^ j * 2 ^ d
pow_at k j d e = ap (λ (x : ℕ). 2 ^ x) e ∙ pow-add 2 j d

pub normal : (z : ℤ) → lt_z (pos 0) z ≡ true → SFits w32 z → Normal z
unfolding norm
normal z p f = go (leading_top 32 (nat_abs z) (omega (zar, know f)) (omega (zar, know f)))
  where
    top : nat_abs z < 2147483648
    top = omega (zar, know f)

    go : (j : ℕ) × (count_leading_zeros 32 (nat_abs z) + suc j ≡ 32) × (2 ^ j ≤ nat_abs z) × (nat_abs z < 2 ^ suc j) → Normal z
    go (j, e, lo, hi) =
        let n = nat_abs z in
        let d = 30 - j in
        let s : j < 31 = lt_of_not-le (λ (g : 31 ≤ j). not-le_of_lt top (omega (arith, pow_mono g))) in
        let low : 1073741824 ≤ n * 2 ^ d = omega (arith, pow_at 30 j d (omega arith), mul-le-mul_right (2 ^ d) lo) in
        let high : n * 2 ^ d < 2147483648 = omega (arith, pow_at 31 (suc j) d (omega arith), mul-lt-mul_of_pos_right hi (pow_pos d)) in
        let fewer : (k : ℕ) → k < d → n * 2 ^ k < 1073741824 =
        λ k g. omega (arith, mul-le-mul_left n (pow_mono {i = suc k} {j = d} g), ap (λ (x : ℕ). n * x) (pow-succ' 2 k))
        in
        record {
          shifts = d;
          is =
              ap pos
              (first_unique (λ k. leb 1073741824 (n * 2 ^ k)) 31 0 d (omega arith) (omega arith)
              (λ k a g. lt-leb 1073741824 (n * 2 ^ k) (fewer k g)) (λ g. le-leb 1073741824 (n * 2 ^ d) low));
          most = omega arith;
          reaches = low;
          stays = high;
          least = fewer;
          counted = omega arith;
        }

-- the shift by norm z loses nothing of z, nor of any number that is not larger in size
pub norm_exact : {z : ℤ} (n : Normal z) (y : ℤ) → nat_abs y ≤ nat_abs z → shl w32 y (norm z) ≡ y *ℤ pos (2 ^ n.shifts)
norm_exact {z} n y h =
    let m = n.shifts in
    let k : nat_abs y * 2 ^ m ≤ nat_abs z * 2 ^ m = mul-le-mul_right (2 ^ m) h in
    rw n.is (shl_exact w32 y m (omega (zar, scale_is y (2 ^ m), ap (λ (x : ℕ). x * 2 ^ m) (abs_is y), n.stays)))
