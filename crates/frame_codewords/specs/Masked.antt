-- For a loop that keeps the valid bits of some codewords, each in its own width. No function has such a loop now: `valid` makes an
-- array.
use Rattle.std.specs.Prelude.{ℕ, ◌+◌, ◌<◌, ◌≤◌, ◌≡◌, refl, ℤ, pos, length, get_or, set, replicate}
use Rattle.std.proofs.Common.{sym, ◌∙◌, arith, length-set}
use mathlib.Core.List.{List, zip_with}
use Rattle.std.proofs.lemmas.List.{length-replicate}
use Rattle.math_lists.specs.Fill.{filled, fill_next, fill_end}
use Rattle.math_lists.specs.Tab.{zip_length, zip_at}
use Rattle.standard.specs.Tables.{◌at◌}
use Rattle.law_fields.specs.Valid.{low_bits}

-- the loop's invariant: of the n codewords xs the first i are in v, each in its width
pub record Masked (n : ℕ) (ws : List ℕ) (xs : List ℤ) (i : ℕ) (v : List ℤ) : Type 0 where
  pub most : i ≤ n
  pub size : length v ≡ n
  pub kept : v ≡ filled i (zip_with low_bits ws xs) (replicate n (pos 0))

module _ (n : ℕ) (ws : List ℕ) (xs : List ℤ) (lw : length ws ≡ n) (lx : length xs ≡ n) where
  -- before it
  pub masked_start : Masked n ws xs 0 (replicate n (pos 0))
  masked_start = record { most = omega arith; size = length-replicate n (pos 0); kept = refl }

  -- iteration i stores the low bits of the codeword at i
  pub masked_next : {i w : ℕ} {v : List ℤ} {x r : ℤ} → Masked n ws xs i v → i < n
      → w ≡ get_or ws i 0 → x ≡ xs at i → r ≡ low_bits w x → Masked n ws xs (i + 1) (set v i r)
  masked_next {i} h p ew ex er =
      let e = zip_at low_bits ws xs i 0 (pos 0) (pos 0) (omega arith) (omega arith) in
      let l = length-replicate n (pos 0) in
      record {
        most = omega arith;
        size = simp length-set h.size;
        kept =
            fill_next (zip_with low_bits ws xs) (replicate n (pos 0)) i h.kept (pos 0) (rw zip_length (omega arith)) (omega arith)
            (rw (ew, ex) at er ∙ sym e);
      }

  -- after it all are kept
  pub masked_end : {i : ℕ} {v : List ℤ} → Masked n ws xs i v → n ≤ i → v ≡ zip_with low_bits ws xs
  masked_end {i} h p =
      fill_end (zip_with low_bits ws xs) (replicate n (pos 0)) i h.kept (rw zip_length (omega arith)) (rw length-replicate p)
