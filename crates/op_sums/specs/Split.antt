-- A sum of products that cannot saturate is the plain sum of two parts: the sum over the first n pairs and the sum over those after them.
use Rattle.std.specs.Prelude.{ℕ, ◌+◌, ◌*◌, ◌<◌, ◌≤◌, ◌≡◌, ℤ, pos, ◌+ℤ◌, ◌*ℤ◌, nat_abs, length, take, drop}
use Rattle.std.proofs.Common.{sym, ap, ap₂, ◌∙◌, arith, mul-le-mul_right, length-take, length-drop, get_or-take, get_or-drop, take-add}
use mathlib.Core.List.{List, [], ◌∷◌, ◌++◌, zip_with, foldl, foldl-append}
use Rattle.math_integers.specs.Halves.{zar}
use Rattle.math_integers.specs.Sums.{add_is}
use Rattle.math_lists.specs.Tab.{zip_append}
use Rattle.standard.specs.Arithmetic.{L_mult, L_sum}
use Rattle.standard.specs.Tables.{◌at◌}
use Rattle.op_sums.specs.Room.{L_sum_steps}

-- a sum that starts at s is s and the sum that starts at 0
pub sum_from : (s : ℤ) (xs : List ℤ) → foldl ◌+ℤ◌ s xs ≡ s +ℤ foldl ◌+ℤ◌ (pos 0) xs
sum_from s [] = omega (zar, add_is s (pos 0))
sum_from s (x ∷ xs) =
    let t = foldl ◌+ℤ◌ (pos 0) xs in
    let g : (s +ℤ x) +ℤ t ≡ s +ℤ ((pos 0 +ℤ x) +ℤ t) =
    omega (zar, add_is s x, add_is (s +ℤ x) t, add_is (pos 0) x, add_is (pos 0 +ℤ x) t, add_is s ((pos 0 +ℤ x) +ℤ t)) in
    sum_from (s +ℤ x) xs ∙ (g ∙ ap (λ (y : ℤ). s +ℤ y) (sym (sum_from (pos 0 +ℤ x) xs)))

-- the first n pairs and the m after them
module _ (n m : ℕ) (a b : List ℤ) (most : ℕ) (la : n + m ≤ length a) (lb : n + m ≤ length b)
    (e : (i : ℕ) → i < n + m → nat_abs (a at i *ℤ b at i) ≤ most) (f : (n + m) * most < 1073741824) where
  part_length : (xs : List ℤ) (k j : ℕ) → n + m ≤ length xs → k + j ≤ n + m → length (take j (drop k xs)) ≡ j
  part_length xs k j l h = simp (length-take, length-drop) (omega arith)

  -- no step of the sum over any j of them saturates
  part_steps : (k j : ℕ) → k + j ≤ n + m
      → let x = take j (drop k a) in let y = take j (drop k b) in L_sum (pos 0) x y ≡ foldl ◌+ℤ◌ (pos 0) (zip_with L_mult x y)
  part_steps k j h =
      let x = part_length a k j la h in
      let y = part_length b k j lb h in
      let u : j * most ≤ (n + m) * most = mul-le-mul_right most (omega arith) in
      L_sum_steps (take j (drop k a)) (take j (drop k b)) most (x ∙ sym y)
      (λ i g. let l : i < j = omega arith in
      rw (get_or-take j (drop k a) i (pos 0) l, get_or-take j (drop k b) i (pos 0) l, get_or-drop k a i (pos 0), get_or-drop k b i (pos 0))
      (e (k + i) (omega arith)))
      (rw x (omega arith))

  pub L_sum_parts : L_sum (pos 0) (take (n + m) a) (take (n + m) b)
      ≡ L_sum (pos 0) (take n a) (take n b) +ℤ L_sum (pos 0) (take m (drop n a)) (take m (drop n b))
  L_sum_parts =
      let first = zip_with L_mult (take n a) (take n b) in
      let rest = zip_with L_mult (take m (drop n a)) (take m (drop n b)) in
      let l : length (take n a) ≡ length (take n b) = part_length a 0 n la (omega arith) ∙ sym (part_length b 0 n lb (omega arith)) in
      let joined : zip_with L_mult (take (n + m) a) (take (n + m) b) ≡ first ++ rest =
      rw (take-add n m a, take-add n m b) (zip_append L_mult (take n a) (take m (drop n a)) (take n b) (take m (drop n b)) l) in
      part_steps 0 (n + m) (omega arith)
      ∙ (ap (foldl ◌+ℤ◌ (pos 0)) joined
      ∙ (foldl-append ◌+ℤ◌ (pos 0) first rest
      ∙ (sum_from (foldl ◌+ℤ◌ (pos 0) first) rest
      ∙ ap₂ ◌+ℤ◌ (sym (part_steps 0 n (omega arith))) (sym (part_steps n m (omega arith))))))
