-- How `omega` reads ℤ: each integer z is P z − N z, two natural numbers of which one is 0. The laws below turn an order, an equation
-- or a range of integers into linear facts of P and N and back; the set `zar` hands them to `omega`.
use Rattle.std.specs.Prelude.{ℕ, suc, ◌+◌, ◌-◌, ◌^◌, ◌<◌, ◌≤◌, min, max, ◌≡◌, refl, Bool, true, false, ◌⊎◌, T, leb, ℤ, pos, negsuc, nat_abs}
use Rattle.std.proofs.Common.{ap, ◌∙◌, inl, inr, ⊎_elim, arith, to_z-of_z, ltb-true, ltb-false, leb-true, leb-false}
use Rattle.std.specs.Int.Signed.{lt_z, le_z, mag, non_neg}
use Rattle.std.specs.Int.{Width}
use mir.Val.{SFits, hbits, to_z, of_z}

-- z where it is above 0
abbrev pub P : ℤ → ℕ
P (pos n) = n
P (negsuc n) = 0

-- −z where z is below 0
abbrev pub N : ℤ → ℕ
N (pos n) = 0
N (negsuc n) = suc n

-- one of the two is 0
pub apart : (z : ℤ) → min (P z) (N z) ≡ 0
apart (pos n) = omega arith
apart (negsuc n) = omega arith

-- a test gives true or false
pub either : (t : Bool) → (t ≡ true) ⊎ (t ≡ false)
either true = inl refl
either false = inr refl

-- a case split on two numbers
pub le_or_lt : (m n : ℕ) → (m ≤ n) ⊎ (n < m)
le_or_lt m n = ⊎_elim (λ e. inl (leb-true m n e)) (λ e. inr (leb-false m n e)) (either (leb m n))

-- ---- an equation

pub same : (a b : ℤ) → P a + N b ≡ P b + N a → a ≡ b
same (pos a) (pos b) e = let f : a ≡ b = omega arith in ap pos f
same (pos a) (negsuc b) e = absurd (omega arith)
same (negsuc a) (pos b) e = absurd (omega arith)
same (negsuc a) (negsuc b) e = let f : a ≡ b = omega arith in ap negsuc f

pub eq_is : (a b : ℤ) → a ≡ b → P a + N b ≡ P b + N a
eq_is a b e = rw (ap P e, ap N e) refl

-- ---- an order, by the test that the code makes

pub lt_yes : (a b : ℤ) → lt_z a b ≡ true → P a + N b < P b + N a
lt_yes (pos a) (pos b) e = omega (arith, ltb-true a b e)
lt_yes (pos a) (negsuc b) e = omega (arith, ltb-true 1 0 e)
lt_yes (negsuc a) (pos b) e = omega arith
lt_yes (negsuc a) (negsuc b) e = omega (arith, ltb-true b a e)

pub lt_no : (a b : ℤ) → lt_z a b ≡ false → P b + N a ≤ P a + N b
lt_no (pos a) (pos b) e = omega (arith, ltb-false a b e)
lt_no (pos a) (negsuc b) e = omega arith
lt_no (negsuc a) (pos b) e = omega (arith, ltb-false 0 1 e)
lt_no (negsuc a) (negsuc b) e = omega (arith, ltb-false b a e)

pub le_yes : (a b : ℤ) → le_z a b ≡ true → P a + N b ≤ P b + N a
le_yes (pos a) (pos b) e = omega (arith, leb-true a b e)
le_yes (pos a) (negsuc b) e = omega (arith, ltb-true 1 0 e)
le_yes (negsuc a) (pos b) e = omega arith
le_yes (negsuc a) (negsuc b) e = omega (arith, leb-true b a e)

pub le_no : (a b : ℤ) → le_z a b ≡ false → P b + N a < P a + N b
le_no (pos a) (pos b) e = omega (arith, leb-false a b e)
le_no (pos a) (negsuc b) e = omega arith
le_no (negsuc a) (pos b) e = omega (arith, ltb-false 0 1 e)
le_no (negsuc a) (negsuc b) e = omega (arith, leb-false b a e)

-- and the other way, for a goal that is a test
pub yes_lt : (a b : ℤ) → P a + N b < P b + N a → lt_z a b ≡ true
yes_lt a b h = ⊎_elim (λ e. e) (λ e. absurd (omega (arith, lt_no a b e))) (either (lt_z a b))

pub no_lt : (a b : ℤ) → P b + N a ≤ P a + N b → lt_z a b ≡ false
no_lt a b h = ⊎_elim (λ e. absurd (omega (arith, lt_yes a b e))) (λ e. e) (either (lt_z a b))

pub yes_le : (a b : ℤ) → P a + N b ≤ P b + N a → le_z a b ≡ true
yes_le a b h = ⊎_elim (λ e. e) (λ e. absurd (omega (arith, le_no a b e))) (either (le_z a b))

pub no_le : (a b : ℤ) → P b + N a < P a + N b → le_z a b ≡ false
no_le a b h = ⊎_elim (λ e. absurd (omega (arith, le_yes a b e))) (λ e. e) (either (le_z a b))

-- ---- a size, a sign, a range

pub abs_is : (a : ℤ) → nat_abs a ≡ P a + N a
abs_is (pos n) = omega arith
abs_is (negsuc n) = omega arith

pub nonneg : (z : ℤ) → N z ≡ 0 → T (non_neg z)
nonneg (pos n) e = tt
nonneg (negsuc n) e = absurd (omega arith)

mag_is : (z : ℤ) → mag z ≡ max (P z) (N z - 1)
mag_is (pos n) = omega arith
mag_is (negsuc n) = omega arith

-- a range from its two ends
pub fit : (w : Width) (z : ℤ) → max (suc (P z)) (N z) ≤ 2 ^ hbits w → SFits w z
fit w z h = record { sfits = omega (arith, mag_is z) }

-- `omega (zar, facts)` proves an equation of integers, a range or a test, and reads each of these where it stands in reach
pub ruleset zar = (arith, same, eq_is, lt_yes, lt_no, le_yes, le_no, yes_lt, no_lt, yes_le, no_le, fit, nonneg)

-- a number that went through a local of width w
abbrev pub mem : Width → ℤ → ℤ
mem w z = to_z w (of_z w z)

-- what a range tells: its two ends, that P and N are apart, the size, and that z is what a local gives back
pub know : {w : Width} {z : ℤ} → SFits w z
    → (P z < 2 ^ hbits w) × (N z ≤ 2 ^ hbits w) × (min (P z) (N z) ≡ 0) × (nat_abs z ≡ P z + N z)
    × (P (mem w z) ≡ P z) × (N (mem w z) ≡ N z) × (nat_abs (mem w z) ≡ P z + N z)
know {w} {z} f =
    let e : mem w z ≡ z = to_z-of_z f in (
      omega (arith, mag_is z, f.sfits),
      omega (arith, mag_is z, f.sfits),
      apart z,
      abs_is z,
      ap P e,
      ap N e,
      ap nat_abs e ∙ abs_is z,
    )
