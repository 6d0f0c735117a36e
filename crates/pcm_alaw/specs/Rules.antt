-- House rules, 'A-law', as the code has them: the number taken for a value, and the segments as lines of which the least counts.
use Rattle.std.specs.Prelude.{ℕ, ◌+◌, ◌-◌, ◌/◌, ◌<◌, min, ◌≡◌, refl, true, eqb, ℤ, pos, negsuc}
use Rattle.std.proofs.Common.{arith, eqb-true}
use Rattle.math_integers.specs.Halves.{P, N}
use Rattle.math_lists.specs.First.{first}
use Rattle.math_lists.specs.Every.{every, every_tab}
use Rattle.math_lists.specs.Tab.{tab}
use Rattle.standard.specs.Alaw.{segment, placed, limited, turned, compressed}

-- for v below 0 the number -v - 1 is taken, for any other v the number v itself
unfoldable pub counted : ℤ → ℕ
counted (pos n) = n
counted (negsuc n) = n

-- the same, for `omega`
pub counted_is : (v : ℤ) → counted v ≡ P v + (N v - 1)
unfolding counted
counted_is (pos n) = omega arith
counted_is (negsuc n) = omega arith

-- for v below 0 the top bit is clear
pub compressed_negative : (v : ℤ) → 0 < N v → compressed v ≡ turned (placed (limited (counted v)))
unfolding compressed counted
compressed_negative (pos n) h = absurd (omega arith)
compressed_negative (negsuc n) h = refl

-- for any other v it is set
pub compressed_other : (v : ℤ) → N v ≡ 0 → compressed v ≡ turned (128 + placed (limited (counted v)))
unfolding compressed counted
compressed_other (pos n) h = refl
compressed_other (negsuc n) h = absurd (omega arith)

-- ---- segments as lines

-- one step for each 2, 4, .., 128 values; the lines of two neighbouring segments meet where one ends and the other starts
unfoldable pub lines : ℕ → ℕ
lines n =
    let low = min (n / 2) (min (n / 4 + 16) (n / 8 + 32)) in
    let high = min (n / 32 + 64) (min (n / 64 + 80) (n / 128 + 96)) in
    min low (min (n / 16 + 48) high)

-- for every value of 12 bits, segment and step are the least of the lines: one computed test
all_lines : every (λ n. eqb (placed n) (lines n)) (tab (λ n. n) 0 4096) ≡ true
unfolding every tab first segment placed lines
all_lines = refl

-- so for each value
pub placed_lines : (n : ℕ) → n < 4096 → placed n ≡ lines n
placed_lines n h = eqb-true (placed n) (lines n) (every_tab (λ n. eqb (placed n) (lines n)) (λ n. n) 4096 n all_lines h)

-- and segment and step have seven bits
pub placed_below : (n : ℕ) → n < 4096 → placed n < 128
unfolding lines
placed_below n h = rw (placed_lines n h) (omega arith)
