-- For a loop that adds products: what the sum is after i of them, and what it is at the end.
use Rattle.std.specs.Prelude.{ℕ, suc, ◌+◌, ◌*◌, ◌<◌, ◌≤◌, ◌≡◌, refl, ℤ, pos, ◌+ℤ◌, ◌*ℤ◌, nat_abs, length, drop}
use Rattle.std.proofs.Common.{sym, ap, ◌∙◌, mul-le-mul_right, arith, SFits, below_none, below_more}
use mathlib.Core.List.{List, zip_with, foldl}
use Rattle.std.specs.Int.{w32}
use Rattle.math_integers.specs.Halves.{zar, apart, abs_is}
use Rattle.math_integers.specs.Sums.{add_is}
use Rattle.math_lists.specs.Steps.{fold_next, fold_end}
use Rattle.math_lists.specs.Tab.{zip_at, zip_length}
use Rattle.standard.specs.Arithmetic.{L_sum}
use Rattle.standard.specs.Tables.{◌at◌}
use Rattle.op_sums.specs.Room.{L_sum_plain}

module _ (a b : List ℤ) (most : ℕ) where
  -- s is the sum of the first i products, none of which is above the bound
  pub record Sum (i : ℕ) (s : ℤ) : Type 0 where
    pub rest : foldl ◌+ℤ◌ s (drop i (zip_with ◌*ℤ◌ a b)) ≡ foldl ◌+ℤ◌ (pos 0) (zip_with ◌*ℤ◌ a b)
    pub near : nat_abs s ≤ i * most
    pub each : (j : ℕ) → j < i → nat_abs (a at j *ℤ b at j) ≤ most

  -- before the loop
  pub sum_start : Sum 0 (pos 0)
  sum_start = record { rest = refl; near = omega arith; each = below_none _ }

  module _ (l : length a ≡ length b) (f : length a * most < 1073741824) {i : ℕ} {s : ℤ} (h : Sum i s) where
    -- an iteration: the sum with one more product fits
    module _ {p : ℤ} (k : i < length a) (e : p ≡ a at i *ℤ b at i) (g : nat_abs p ≤ most) where
      pub sum_room : SFits w32 (s +ℤ p)
      sum_room =
          let m : suc i * most ≤ length a * most = mul-le-mul_right most k in
          omega (zar, h.near, abs_is s, abs_is p, add_is s p)

      -- and with it the sum is that of i + 1
      pub sum_next : Sum (i + 1) (s +ℤ p)
      sum_next =
          let terms = zip_with ◌*ℤ◌ a b in
          let t : i < length terms = omega (arith, zip_length ◌*ℤ◌ a b) in
          let x : terms at i ≡ p = zip_at ◌*ℤ◌ a b i (pos 0) (pos 0) (pos 0) k (omega arith) ∙ sym e in
          let one : foldl ◌+ℤ◌ (s +ℤ p) (drop (i + 1) terms) ≡ foldl ◌+ℤ◌ s (drop i terms) =
          ap (λ (y : ℤ). foldl ◌+ℤ◌ (s +ℤ y) (drop (i + 1) terms)) (sym x) ∙ sym (fold_next ◌+ℤ◌ terms i (pos 0) s t)
          in
          record {
            rest = rw one h.rest;
            near = omega (zar, h.near, abs_is s, abs_is p, abs_is (s +ℤ p), add_is s p, apart (s +ℤ p));
            each = below_more _ _ h.each (rw e at g);
          }

    -- after the loop: the double is a long word, and is the standard's sum
    module _ (k : length a ≤ i) (q : i ≤ length a) where
      pub sum_fits : SFits w32 (s +ℤ s)
      sum_fits =
          let e : i ≡ length a = omega arith in
          omega (zar, rw e at h.near, abs_is s, add_is s s)

      pub sum_end : s +ℤ s ≡ L_sum (pos 0) a b
      sum_end =
          let terms = zip_with ◌*ℤ◌ a b in
          let t : length terms ≤ i = omega (arith, zip_length ◌*ℤ◌ a b) in
          let e : s ≡ foldl ◌+ℤ◌ (pos 0) terms = sym (fold_end ◌+ℤ◌ terms i s t) ∙ h.rest in
          ap (λ (x : ℤ). x +ℤ x) e ∙ sym (L_sum_plain a b most l (λ j g. h.each j (omega arith)) f)
