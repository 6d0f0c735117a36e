-- The standard's sums of products, `L_result = L_add( L_result, L_mult( .. ) )` and the same with the operands exchanged, are L-sum.
use Rattle.std.specs.Prelude.{ℕ, ◌+◌, ◌<◌, min, ◌≡◌, ℤ, pos, length}
use Rattle.std.proofs.Math.Path.{ap, sym}
use Rattle.std.proofs.Common.{◌∙◌, zero-add, arith}
use mathlib.Core.List.{List, map, zip_with, foldl}
use Rattle.std.proofs.Math.IntN.{+ℤ_comm}
use Rattle.std.proofs.lemmas.List.{length-map}
use Rattle.std.specs.Int.{w32}
use Rattle.math_lists.specs.Steps.{steps}
use Rattle.math_lists.specs.Tab.{map_at, zip_at, zip_length}
use Rattle.math_lists.specs.For.{steps_same, steps_tab, tab_is}
use Rattle.standard.specs.Arithmetic.{◌>>◌, clip, plus, L_add, L_mult, L_sum, L_squares}
use Rattle.standard.specs.Tables.{◌at◌}

-- L_add gives the same with its operands exchanged
L_add_turned : (a b : ℤ) → L_add a b ≡ L_add b a
unfolding plus
L_add_turned a b = ap (clip w32) (+ℤ_comm a b)

-- n iterations from k = i on, whose terms are the products of the entries of a and b
module _ (term : ℕ → ℤ) (n i : ℕ) (start : ℤ) (a b : List ℤ) (l : min (length a) (length b) ≡ n)
    (e : (j : ℕ) → j < n → term (i + j) ≡ L_mult (a at j) (b at j)) where
  -- L_result = L_add( L_result, L_temp )
  pub sum_loop : steps (λ k L-result. L_add L-result (term k)) n i start ≡ L_sum start a b
  unfolding L_sum
  sum_loop =
      let products = zip_with L_mult a b in
      let same = tab_is term i n products (pos 0) (zip_length L_mult a b ∙ l)
      (λ j h. e j h ∙ sym (zip_at L_mult a b j (pos 0) (pos 0) (pos 0) (omega arith) (omega arith))) in
      steps_tab L_add term n i start ∙ ap (foldl L_add start) same

  -- L_result = L_add( L_temp, L_result )
  pub sum_loop_turned : steps (λ k L-result. L_add (term k) L-result) n i start ≡ L_sum start a b
  sum_loop_turned = steps_same _ _ n i start (λ k s p q. L_add_turned (term k) s) ∙ sum_loop

-- the sum of the squares of a list's entries, each shifted right by n before
pub squares_loop : (term : ℕ → ℤ) (n : ℕ) (xs : List ℤ) → ((k : ℕ) → k < length xs → term k ≡ xs at k)
    → steps (λ k L-result. L_add (L_mult (term k >> n) (term k >> n)) L-result) (length xs) 0 (pos 0) ≡ L_squares n xs
unfolding L_squares
squares_loop term n xs e =
    let wt = map (λ x. x >> n) xs in
    sum_loop_turned (λ k. L_mult (term k >> n) (term k >> n)) (length xs) 0 (pos 0) wt wt (rw (length-map xs (λ x. x >> n)) (omega arith))
    (λ k h. rw (zero-add, e k h, map_at (λ x. x >> n) xs k (pos 0) (pos 0) h))
