-- Fields moved into cells of other widths, one after the other. The bits between them wait in a number, the lowest first.
-- This is the loop of pack, and that of unpack.
use Rattle.std.specs.Prelude.{◌≡◌, refl, length, get_or, replicate}
use Rattle.std.proofs.Common.{ap, mod-lt, add-one, pow_pos, shr_lt, drop-cons, take-suc-set}
use mathlib.Core.List.{List, [], ◌∷◌, ◌++◌, append_assoc, append-nil, flatten, map, zip_with}
use Prim.Native.Nat.{ℕ, suc, ◌+◌, ◌-◌, ◌*◌, ◌/◌, ◌%◌, ◌^◌, ◌≤◌, ◌<◌}
use native.Mathlib.Omega.{arith}
use Rattle.std.proofs.Math.ListN.{set, take, drop, drop_of_length-le}
use Rattle.std.proofs.Math.Seq.{take_at, drop_at, take_all, append_snoc}
use Rattle.std.proofs.lemmas.List.{set_split}
use Rattle.math_lists.specs.Cut.{sum, cut}
use Rattle.standard.specs.Packed.{binary, value}
use Rattle.packing.specs.Bits.{binary_length, value_binary, join_below, binary_join, binary_split, binary_zero}

-- a field x is read as the number `num x`; a number n is written as the cell `of n`; the bits `back` follow the fields
module _ {X Y : Type 0} (num : X → ℕ) (of : ℕ → Y) (back : List ℕ) where
  -- the cells still to come, of the widths vs, where h bits wait in n and the fields xs, of the widths ws, are still to be read
  abbrev pub coming : List ℕ → List ℕ → List X → ℕ → ℕ → List Y
  coming vs ws xs h n = map (λ b. of (value b)) (cut vs (binary h n ++ (flatten (zip_with (λ w x. binary w (num x)) ws xs) ++ back)))

  -- a field goes above the bits that wait
  coming_in : (vs ws : List ℕ) (xs : List X) (h n w : ℕ) (x : X) → n < 2 ^ h
      → coming vs (w ∷ ws) (x ∷ xs) h n ≡ coming vs ws xs (h + w) (n + 2 ^ h * num x)
  unfolding flatten zip_with
  coming_in vs ws xs h n w x l = rw (binary_join h w n (num x) l) (simp append_assoc)

  -- a cell is the low bits of those that wait
  coming_out : (vs ws : List ℕ) (xs : List X) (h n v : ℕ) → v ≤ h
      → coming (v ∷ vs) ws xs h n ≡ of (n % 2 ^ v) ∷ coming vs ws xs (h - v) (n / 2 ^ v)
  unfolding cut
  coming_out vs ws xs h n v l =
      let low = binary v (n % 2 ^ v) in
      let rest = binary (h - v) (n / 2 ^ v) ++ (flatten (zip_with (λ w x. binary w (num x)) ws xs) ++ back) in
      let s : v + (h - v) ≡ h = omega arith in
      let e : binary h n ≡ low ++ binary (h - v) (n / 2 ^ v) = rw s at (binary_split v (h - v) n) in
      rw (e, append_assoc, take_at low rest v (binary_length v (n % 2 ^ v)), drop_at low rest v (binary_length v (n % 2 ^ v)))
      (rw (value_binary v (n % 2 ^ v) (mod-lt n (pow_pos v))))

  -- after the last field, r zeros fill up the cell: it is the number that waits
  coming_last : (h n r : ℕ) → n < 2 ^ h → back ≡ replicate r 0 → coming ((h + r) ∷ []) [] [] h n ≡ of n ∷ []
  unfolding cut flatten zip_with
  coming_last h n r l z =
      let e : n + 2 ^ h * 0 ≡ n = omega arith in
      let j : binary h n ++ back ≡ binary (h + r) n = rw (z, ← binary_zero r, ← binary_join h r n 0 l, e) in
      let all = binary (h + r) n in
      let t : take (h + r) all ≡ all = take_all (h + r) all (omega (arith, binary_length (h + r) n)) in
      rw (j, t, value_binary (h + r) n (rw e at (join_below h r n 0 l (pow_pos r))))

  module _ (vs ws : List ℕ) (xs : List X) where
    -- the loop's invariant, with i fields read, k cells written and h bits waiting in n
    pub record Moving (i k h n : ℕ) (out : List Y) : Type 0 where
      -- what is written and what is still to come make up the whole
      pub written : take k out ++ coming (drop k vs) (drop i ws) (drop i xs) h n ≡ coming vs ws xs 0 0
      -- each bit read is written or waits
      pub count : h + sum (drop i ws) + sum vs ≡ sum (drop k vs) + sum ws
      -- n has no bits above the h that wait
      pub held : n < 2 ^ h

    -- before the loop
    pub moving_start : (out : List Y) → Moving 0 0 0 0 out
    moving_start out = record { written = refl; count = omega arith; held = omega arith }

    module _ {i k h n : ℕ} {out : List Y} (m : Moving i k h n out) where
      -- a field is read
      pub moving_in : (d : X) {w y r : ℕ} → i < length ws → i < length xs
          → w ≡ get_or ws i 0 → y ≡ num (get_or xs i d) → y < 2 ^ w → r ≡ n + 2 ^ h * y
          → Moving (i + 1) k (h + w) r out
      moving_in d {w} {y} p q e f l g =
          let a : drop i ws ≡ w ∷ drop (i + 1) ws = rw (e, add-one) (drop-cons ws i 0 p) in
          let b : drop i xs ≡ get_or xs i d ∷ drop (i + 1) xs = rw add-one (drop-cons xs i d q) in
          record {
            written =
                rw (g, f, ← coming_in (drop k vs) (drop (i + 1) ws) (drop (i + 1) xs) h n w (get_or xs i d) m.held, ← a, ← b) m.written;
            count = omega (arith, ap sum a, m.count);
            held = rw g (join_below h w n y m.held l);
          }

      -- a cell is written
      pub moving_out : {v u : ℕ} {y : Y} → k < length vs → k < length out → v ≡ get_or vs k 0 → v ≤ h → u ≡ 2 ^ v → y ≡ of (n % u)
          → Moving i (k + 1) (h - v) (n / u) (set out k y)
      moving_out {v} {u} {y} p q e l g f =
          let a : drop k vs ≡ v ∷ drop (suc k) vs = rw e (drop-cons vs k 0 p) in
          let s : h - v + v ≡ h = omega arith in
          let o = coming_out (drop (suc k) vs) (drop i ws) (drop i xs) h n v l in
          record {
            written = rw (add-one, take-suc-set out k y q, append_snoc, f, g, ← o, ← a) m.written;
            count = rw add-one (omega (arith, ap sum a, m.count));
            held = rw g (shr_lt (h - v) v (rw s m.held));
          }

      -- after the loop: where all cells are written, they are the whole
      pub moving_end : length vs ≤ k → length out ≤ k → out ≡ coming vs ws xs 0 0
      unfolding cut
      moving_end p q = rw (drop_of_length-le vs p, take_all k out q, append-nil) at m.written

      -- after the loop: where all fields are read and r zeros fill up the last cell, it is the number that waits
      pub moving_last : (r : ℕ) → length ws ≤ i → suc k ≡ length vs → length out ≡ length vs → get_or vs k 0 ≡ h + r → back ≡ replicate r 0
          → set out k (of n) ≡ coming vs ws xs 0 0
      unfolding zip_with
      moving_last r p q l e z =
          let a : drop k vs ≡ (h + r) ∷ [] = rw (drop-cons vs k 0 (omega arith), e, drop_of_length-le vs {i = suc k} (omega arith)) in
          let b : set out k (of n) ≡ take k out ++ (of n ∷ []) =
          rw (set_split out k (of n) (omega arith), drop_of_length-le out {i = suc k} (omega arith))
          in
          rw (b, ← coming_last h n r m.held z) (rw (a, drop_of_length-le ws p) at m.written)
