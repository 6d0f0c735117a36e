-- P and N of sums, differences, products and shifts, as linear facts for `omega`.
use Rattle.std.specs.Prelude.{ℕ, zero, suc, ◌+◌, ◌*◌, ◌-◌, ◌/◌, ◌<◌, ◌≤◌, ◌≡◌, refl, Bool, true, false, cond, ltb, ℤ, pos, negsuc, ◌+ℤ◌, ◌-ℤ◌, ◌*ℤ◌, neg_ℤ}
use Rattle.std.proofs.Common.{sym, arith, mul-le-mul, add-one, ltb-true, ltb-false}
use Rattle.std.proofs.Math.Nat.{div-eq_of_lt, zero-div, add-div_right}
use Rattle.std.proofs.Math.IntN.{sub_ℕ}
use Rattle.std.specs.Int.Signed.{shr_z}
use Rattle.math_integers.specs.Halves.{P, N, apart}

sub_by : (a b : ℕ) (t : Bool)
    → ltb a b ≡ t → P (cond t (negsuc (b - suc a)) (pos (a - b))) + b ≡ N (cond t (negsuc (b - suc a)) (pos (a - b))) + a
sub_by a b true e = omega (arith, ltb-true a b e)
sub_by a b false e = omega (arith, ltb-false a b e)

sub_is : (a b : ℕ) → P (sub_ℕ a b) + b ≡ N (sub_ℕ a b) + a
sub_is a b = sub_by a b (ltb a b) refl

pub add_is : (a b : ℤ) → (P (a +ℤ b) + (N a + N b) ≡ N (a +ℤ b) + (P a + P b)) × (P (a +ℤ b) ≤ P a + P b) × (N (a +ℤ b) ≤ N a + N b)
add_is (pos a) (pos b) = omega arith
add_is (pos a) (negsuc b) = omega (arith, sub_is a (suc b), apart (sub_ℕ a (suc b)))
add_is (negsuc a) (pos b) = omega (arith, sub_is b (suc a), apart (sub_ℕ b (suc a)))
add_is (negsuc a) (negsuc b) = omega arith

pub neg_is : (a : ℤ) → (P (neg_ℤ a) ≡ N a) × (N (neg_ℤ a) ≡ P a)
neg_is (pos zero) = (refl, refl)
neg_is (pos (suc n)) = (refl, refl)
neg_is (negsuc n) = (refl, refl)

pub minus_is : (a b : ℤ) → (P (a -ℤ b) + (N a + P b) ≡ N (a -ℤ b) + (P a + N b)) × (P (a -ℤ b) ≤ P a + N b) × (N (a -ℤ b) ≤ N a + P b)
minus_is a b = omega (arith, add_is a (neg_ℤ b), neg_is b)

pub mul_is : (a b : ℤ) → (P (a *ℤ b) ≡ P a * P b + N a * N b) × (N (a *ℤ b) ≡ P a * N b + N a * P b)
mul_is (pos a) (pos b) = omega arith
mul_is (pos a) (negsuc b) = omega (arith, neg_is (pos (a * suc b)))
mul_is (negsuc a) (pos b) = omega (arith, neg_is (pos (suc a * b)))
mul_is (negsuc a) (negsuc b) = omega arith

-- a number scaled up
pub scale_is : (a : ℤ) (m : ℕ) → (P (a *ℤ pos m) ≡ P a * m) × (N (a *ℤ pos m) ≡ N a * m)
scale_is a m = omega (arith, mul_is a (pos m))

-- a product is within the product of the factors' sizes
pub mul_in : (A B : ℕ) (a b : ℤ) → P a + N a ≤ A → P b + N b ≤ B → P (a *ℤ b) + N (a *ℤ b) ≤ A * B
mul_in A B a b h k = omega (arith, mul_is a b, mul-le-mul h k)

-- a shift right, which rounds down
pub shr_is : (z : ℤ) (m : ℕ) → 0 < m → (P (shr_z z m) ≡ P z / m) × (N (shr_z z m) ≡ (N z + (m - 1)) / m)
shr_is (pos a) m h = (refl, sym (div-eq_of_lt (omega arith)))
shr_is (negsuc a) m h =
    let e : suc a + (m - 1) ≡ a + m = omega arith in
    (sym (zero-div m), rw (e, add-div_right a h) (sym (add-one (a / m))))
