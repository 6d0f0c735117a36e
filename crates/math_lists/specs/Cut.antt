-- A list cut into parts that follow one another.
use Rattle.std.specs.Prelude.{◌≡◌, ℕ, zero, suc, ◌+◌, ◌*◌, ◌-◌, ◌≤◌, length, take, drop, replicate}
use Rattle.std.proofs.Math.Path.{refl}
use mathlib.Core.List.{List, [], ◌∷◌, ◌++◌, append-nil, append_assoc, flatten, foldr, map}
use Rattle.std.proofs.Common.{mul-suc, arith, take-append-drop, length-append, length-take-le}
use Rattle.std.proofs.Math.Nat.{zero-sub, sub-zero}
use Rattle.std.proofs.Math.ListN.{length-drop}
use Rattle.std.proofs.Math.Seq.{take-append_seam, drop-append_seam, drop-drop}

-- the sum of the lengths; for a list of literals it computes
abbrev pub sum : List ℕ → ℕ
sum = foldr ◌+◌ 0

-- what is left of n parts of one size
pub rest_sum : (a n k : ℕ) → sum (drop k (replicate n a)) ≡ a * (n - k)
rest_sum a zero zero = omega arith
rest_sum a zero (suc k) = rw (zero-sub (suc k)) (omega arith)
rest_sum a (suc n) zero = rw (sub-zero (suc n)) (omega (arith, rw (sub-zero n) at (rest_sum a n 0), mul-suc a n))
rest_sum a (suc n) (suc k) = let e : suc n - suc k ≡ n - k = omega arith in rw (e, rest_sum a n k)

module _ {A : Type 0} where
  -- the parts of xs, of the lengths ns, from the front
  unfoldable pub cut : List ℕ → List A → List (List A)
  cut [] xs = []
  cut (n ∷ ns) xs = take n xs ∷ cut ns (drop n xs)

  -- there are as many parts as lengths were asked for
  pub cut_count : (ns : List ℕ) (xs : List A) → length (cut ns xs) ≡ length ns
  unfolding cut
  cut_count [] xs = refl
  cut_count (n ∷ ns) xs = rw (cut_count ns (drop n xs))

  -- where there is enough to cut, each part has the length that was asked for
  pub cut_lengths : (ns : List ℕ) (xs : List A) → sum ns ≤ length xs → map length (cut ns xs) ≡ ns
  unfolding cut
  cut_lengths [] xs h = refl
  cut_lengths (n ∷ ns) xs h =
      rw (length-take-le n xs (omega arith), cut_lengths ns (drop n xs) (rw length-drop (omega arith)))

  -- the parts joined, and what is left over, are the list again
  pub cut_rest : (ns : List ℕ) (xs : List A) → flatten (cut ns xs) ++ drop (sum ns) xs ≡ xs
  unfolding cut flatten
  cut_rest [] xs = refl
  cut_rest (n ∷ ns) xs = rw (append_assoc, ← drop-drop (sum ns) n xs, cut_rest ns (drop n xs), take-append-drop)

  -- parts joined, with anything after them, are cut into themselves
  pub cut_joined : (ps : List (List A)) (q : List A) → cut (map length ps) (flatten ps ++ q) ≡ ps
  unfolding cut flatten
  cut_joined [] q = refl
  cut_joined (p ∷ ps) q = rw (append_assoc, take-append_seam, drop-append_seam, cut_joined ps q)

  -- the length of the parts joined is the sum of their lengths
  pub flatten_length : (ps : List (List A)) → length (flatten ps) ≡ sum (map length ps)
  unfolding flatten
  flatten_length [] = refl
  flatten_length (p ∷ ps) = rw (length-append, flatten_length ps)

  -- parts joined, and one more
  pub flatten_last : (ps : List (List A)) (p : List A) → flatten (ps ++ (p ∷ [])) ≡ flatten ps ++ p
  unfolding flatten
  flatten_last [] p = rw append-nil
  flatten_last (q ∷ ps) p = rw (flatten_last ps p, append_assoc)
