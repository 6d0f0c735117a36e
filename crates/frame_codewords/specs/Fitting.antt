-- The loop that tests some codewords, each against its own width; and the test of a frame by its parts.
use Rattle.std.specs.Prelude.{ℕ, ◌+◌, ◌*◌, ◌<◌, ◌≤◌, ◌≡◌, refl, Bool, true, ◌&&◌, ℤ, pos, length, get_or, take, drop}
use Rattle.std.proofs.Common.{sym, ◌∙◌, arith, take-append-drop, drop-drop}
use Rattle.std.proofs.Math.Bool.{and-true, and_assoc}
use mathlib.Core.List.{List, zip_with, flatten}
use Rattle.math_lists.specs.Every.{every, every_append, every_next, every_end}
use Rattle.math_lists.specs.Tab.{tab, zip_length, zip_at, zip_take, zip_drop}
use Rattle.math_lists.specs.For.{tab_each}
use Rattle.standard.specs.Tables.{◌at◌, LARc_widths}
use Rattle.standard.specs.Frame.{sub_widths, widths}
use Rattle.standard.specs.House.{fit, fits}
use Rattle.law_fields.specs.Fit.{all_fit}

-- ---- the loop

-- its invariant: of the n codewords xs the first i are tested, and what was found and the tests that are left decide the whole
pub record Fitting (n : ℕ) (ws : List ℕ) (xs : List ℤ) (i : ℕ) (all : Bool) : Type 0 where
  pub most : i ≤ n
  pub left : (all && every (λ b. b) (drop i (zip_with fit ws xs))) ≡ all_fit ws xs

module _ (n : ℕ) (ws : List ℕ) (xs : List ℤ) (lw : length ws ≡ n) (lx : length xs ≡ n) where
  -- before it
  pub fitting_start : Fitting n ws xs 0 true
  fitting_start = record { most = omega arith; left = refl }

  -- iteration i tests the codeword at i
  pub fitting_next : {i w : ℕ} {x : ℤ} {all all' r : Bool} → Fitting n ws xs i all → i < n
      → w ≡ get_or ws i 0 → x ≡ xs at i → r ≡ fit w x → all' ≡ (all && r) → Fitting n ws xs (i + 1) all'
  fitting_next {i} {w} {x} {all} {all'} {r} h p ew ex er ea =
      let e = zip_at fit ws xs i 0 (pos 0) true (omega arith) (omega arith) in
      let one : r ≡ get_or (zip_with fit ws xs) i true = rw (ew, ex) at er ∙ sym e in
      let next = every_next (λ b. b) (zip_with fit ws xs) i true (rw zip_length (omega arith)) in
      record { most = omega arith; left = rw (ea, and_assoc, one, ← next) h.left }

  -- after it all are tested
  pub fitting_end : {i : ℕ} {all : Bool} → Fitting n ws xs i all → n ≤ i → all ≡ all_fit ws xs
  fitting_end {i} {all} h p =
      rw (every_end (λ b. b) (zip_with fit ws xs) i (rw zip_length (omega arith)), and-true) at h.left

-- ---- the parts of a frame

-- the tests of some codewords are those of the first k and those of the rest
parted : (k : ℕ) (ws : List ℕ) (xs : List ℤ) → all_fit ws xs ≡ (all_fit (take k ws) (take k xs) && all_fit (drop k ws) (drop k xs))
parted k ws xs = rw (← zip_take, ← zip_drop, ← every_append, take-append-drop)

-- the tests of the codewords of a frame from index p on
abbrev pub fit_from : ℕ → List ℤ → Bool
fit_from p xs = all_fit (drop p widths) (drop p xs)

-- a frame fits where its ratios and what follows them do
pub fits_ratios : (xs : List ℤ) → fits xs ≡ (all_fit LARc_widths (take 8 xs) && fit_from 8 xs)
unfolding fits widths LARc_widths
fits_ratios xs = parted 8 widths xs

-- the widths from a sub-frame's start on begin with a sub-frame's
pub sub_part : (j : ℕ) → j < 4 → take 17 (drop (8 + 17 * j) widths) ≡ sub_widths
unfolding widths LARc_widths sub_widths flatten tab
sub_part j h = tab_each (λ j. take 17 (drop (8 + 17 * j) widths)) (λ _. sub_widths) 4 0 refl j (omega arith) h

-- first its four parameters, then its thirteen pulses
pub sub_front : (j : ℕ) → j < 4 → take 4 (drop (8 + 17 * j) widths) ≡ take 4 sub_widths
unfolding widths LARc_widths sub_widths flatten tab
sub_front j h = tab_each (λ j. take 4 (drop (8 + 17 * j) widths)) (λ _. take 4 sub_widths) 4 0 refl j (omega arith) h

pub sub_back : (j : ℕ) → j < 4 → take 13 (drop (8 + 17 * j + 4) widths) ≡ drop 4 sub_widths
unfolding widths LARc_widths sub_widths flatten tab
sub_back j h = tab_each (λ j. take 13 (drop (8 + 17 * j + 4) widths)) (λ _. drop 4 sub_widths) 4 0 refl j (omega arith) h

-- so what is left to test there is the sub-frame, and what follows it
pub fits_sub : (j : ℕ) (xs : List ℤ) → j < 4
    → fit_from (8 + 17 * j) xs ≡ (all_fit sub_widths (take 17 (drop (8 + 17 * j) xs)) && fit_from (8 + 17 * (j + 1)) xs)
fits_sub j xs h =
    let p = 8 + 17 * j in
    let e : p + 17 ≡ 8 + 17 * (j + 1) = omega arith in
    rw (← e, ← drop-drop 17 p widths, ← drop-drop 17 p xs, ← sub_part j h) (parted 17 (drop p widths) (drop p xs))

-- after the fourth nothing is left
pub fits_last : (j : ℕ) (xs : List ℤ) → 4 ≤ j → length xs ≡ 76 → fit_from (8 + 17 * j) xs ≡ true
unfolding widths LARc_widths sub_widths flatten
fits_last j xs h l =
    rw (← zip_drop) (every_end (λ b. b) (zip_with fit widths xs) (8 + 17 * j) (rw zip_length (omega arith)))
