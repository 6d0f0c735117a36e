-- The widths of the fields: by the place in a frame and in a sub-frame, and that none is above 7.
use Rattle.std.specs.Prelude.{ℕ, ◌+◌, ◌*◌, ◌-◌, ◌%◌, ◌<◌, ◌≤◌, ◌≡◌, refl, true, leb, length, get_or}
use Rattle.std.proofs.Common.{⊎_elim, arith, leb-true}
use mathlib.Core.List.{List, flatten}
use Rattle.math_integers.specs.Halves.{le_or_lt}
use Rattle.math_lists.specs.Every.{every, every_at}
use Rattle.math_lists.specs.Tab.{tab}
use Rattle.math_lists.specs.For.{tab_each}
use Rattle.standard.specs.Tables.{LARc_widths}
use Rattle.op_tables.specs.Facts.{past_end}
use Rattle.standard.specs.Frame.{sub_widths, widths}

-- a bound on every entry, by one test over the list
below : (t : List ℕ) (b : ℕ) → every (λ n. leb n b) t ≡ true → (i : ℕ) → get_or t i 0 ≤ b
below t b e i =
    ⊎_elim (λ h. rw (← past_end {d = 0} t {i = i} h) (omega arith)) (λ h. leb-true (get_or t i 0) b (every_at (λ n. leb n b) t i 0 e h))
    (le_or_lt (length t) i)

-- no field has more than 7 bits
pub LARc_most : (i : ℕ) → get_or LARc_widths i 0 ≤ 7
unfolding LARc_widths every
LARc_most = below LARc_widths 7 refl

pub sub_most : (i : ℕ) → get_or sub_widths i 0 ≤ 7
unfolding sub_widths every
sub_most = below sub_widths 7 refl

pub width_most : (i : ℕ) → get_or widths i 0 ≤ 7
unfolding widths LARc_widths sub_widths every flatten
width_most = below widths 7 refl

-- the gain and the grid have 2 bits each
pub gain_width : (i : ℕ) → 1 ≤ i → i < 3 → 2 ≡ get_or sub_widths i 0
unfolding sub_widths tab
gain_width = tab_each (λ _. 2) (λ i. get_or sub_widths i 0) 2 1 refl

-- and the thirteen pulses 3
pub pulse_width : (i : ℕ) → 4 ≤ i → i < 17 → 3 ≡ get_or sub_widths i 0
unfolding sub_widths tab
pulse_width = tab_each (λ _. 3) (λ i. get_or sub_widths i 0) 13 4 refl

-- the first eight fields are those of the ratios
pub width_first : (i : ℕ) → i < 8 → get_or LARc_widths i 0 ≡ get_or widths i 0
unfolding widths LARc_widths tab
width_first i h = tab_each (λ i. get_or LARc_widths i 0) (λ i. get_or widths i 0) 8 0 refl i (omega arith) h

-- the others are a sub-frame's, four times over
pub width_later : (i : ℕ) → 8 ≤ i → i < 76 → get_or sub_widths ((i - 8) % 17) 0 ≡ get_or widths i 0
unfolding widths LARc_widths sub_widths flatten tab
width_later = tab_each (λ i. get_or sub_widths ((i - 8) % 17) 0) (λ i. get_or widths i 0) 68 8 refl

-- field i of sub-frame j
pub width_sub : (j i : ℕ) → j < 4 → i < 17 → get_or sub_widths i 0 ≡ get_or widths (8 + 17 * j + i) 0
width_sub j i p q =
    let e : (8 + 17 * j + i - 8) % 17 ≡ i = omega arith in
    rw e at (width_later (8 + 17 * j + i) (omega arith) (omega arith))
