-- For a loop that changes each element of a slice in place by g: before iteration i the slice is `filled i (map g xs) xs`.
use Rattle.std.specs.Prelude.{◌≡◌, ℕ, ◌+◌, ◌≤◌, ◌<◌, List, map, length, get_or, set}
use Rattle.std.proofs.Common.{sym, ap, ◌∙◌, arith}
use Rattle.std.proofs.lemmas.List.{length-map}
use Rattle.math_lists.specs.Fill.{filled, fill_next, fill_read, fill_end}
use Rattle.math_lists.specs.Tab.{map_at}

module _ {A : Type 0} (g : A → A) (xs : List A) (i : ℕ) {l : List A} (h : l ≡ filled i (map g xs) xs) where
  -- an iteration: what stands at i is still the old element
  pub mapped_next : (z : A) {v : A} → i < length xs → v ≡ g (get_or l i z) → set l i v ≡ filled (i + 1) (map g xs) xs
  mapped_next z p e =
      let n = length-map xs g in
      let old = fill_read (map g xs) xs i h i z (omega arith) (omega arith) in
      fill_next (map g xs) xs i h z (omega arith) p (e ∙ (ap g old ∙ sym (map_at g xs i z z p)))

  -- after the loop
  pub mapped_end : length xs ≤ i → l ≡ map g xs
  mapped_end p = fill_end (map g xs) xs i h (omega (arith, length-map xs g)) p
