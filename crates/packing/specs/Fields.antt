-- Fields written as bits one after the other, each in its own width, and read back.
use Rattle.std.specs.Prelude.{◌≡◌, Bool, true, ℕ, ◌≤◌, length, drop}
use Rattle.std.proofs.Math.Path.{refl}
use Rattle.std.proofs.Math.Bool.{and-eq-true_iff}
use mathlib.Core.List.{List, [], ◌∷◌, ◌++◌, append-nil, flatten, map, zip_with}
use Rattle.std.proofs.Common.{le_of_eq, arith, drop_of_length-le}
use Rattle.std.proofs.lemmas.List.{length-map}
use Rattle.math_lists.specs.Every.{every, every_flatten, every_cut}
use Rattle.math_lists.specs.Cut.{sum, cut, cut_count, cut_lengths, cut_rest, cut_joined, flatten_length}
use Rattle.packing.specs.Bits.{is_bit, are_bits}

-- a way to write things of one kind in w bits and to read those back that fit
pub record Code (X : Type 0) : Type 0 where
  pub write : ℕ → X → List ℕ
  pub read : List ℕ → X
  pub fit : ℕ → X → Bool
  pub write_length : (w : ℕ) (x : X) → length (write w x) ≡ w
  pub write_bits : (w : ℕ) (x : X) → are_bits (write w x) ≡ true
  pub read_write : (w : ℕ) (x : X) → fit w x ≡ true → read (write w x) ≡ x
  pub read_fit : (b : List ℕ) → are_bits b ≡ true → fit (length b) (read b) ≡ true
  pub write_read : (b : List ℕ) → are_bits b ≡ true → write (length b) (read b) ≡ b

module _ {X : Type 0} (k : Code X) where
  -- the fields' bits, in the widths ws
  abbrev pub joined : List ℕ → List X → List ℕ
  joined ws xs = flatten (zip_with k.write ws xs)

  -- the fields that these bits have, in the widths ws
  abbrev pub parted : List ℕ → List ℕ → List X
  parted ws b = map k.read (cut ws b)

  -- each fits its width
  abbrev pub all_fit : List ℕ → List X → Bool
  all_fit ws xs = every (λ b. b) (zip_with k.fit ws xs)

  written_lengths : (ws : List ℕ) (xs : List X) → length xs ≡ length ws → map length (zip_with k.write ws xs) ≡ ws
  unfolding zip_with
  written_lengths [] [] h = refl
  written_lengths [] (x ∷ xs) h = refl
  written_lengths (w ∷ ws) [] h = absurd (omega arith)
  written_lengths (w ∷ ws) (x ∷ xs) h = rw (k.write_length w x, written_lengths ws xs (omega arith))

  written_bits : (ws : List ℕ) (xs : List X) → every are_bits (zip_with k.write ws xs) ≡ true
  unfolding zip_with every
  written_bits [] xs = refl
  written_bits (w ∷ ws) [] = refl
  written_bits (w ∷ ws) (x ∷ xs) = rw (k.write_bits w x, written_bits ws xs)

  written_read : (ws : List ℕ) (xs : List X) → length xs ≡ length ws → all_fit ws xs ≡ true → map k.read (zip_with k.write ws xs) ≡ xs
  unfolding zip_with every
  written_read [] [] h e = refl
  written_read [] (x ∷ xs) h e = absurd (omega arith)
  written_read (w ∷ ws) [] h e = absurd (omega arith)
  written_read (w ∷ ws) (x ∷ xs) h e =
      let t = (and-eq-true_iff (k.fit w x) (all_fit ws xs)).0 e in
      rw (k.read_write w x t.0, written_read ws xs (omega arith) t.1)

  read_written : (ps : List (List ℕ)) → every are_bits ps ≡ true → zip_with k.write (map length ps) (map k.read ps) ≡ ps
  unfolding zip_with every
  read_written [] e = refl
  read_written (p ∷ ps) e =
      let t = (and-eq-true_iff (are_bits p) (every are_bits ps)).0 e in
      rw (k.write_read p t.0, read_written ps t.1)

  read_fits : (ps : List (List ℕ)) → every are_bits ps ≡ true → all_fit (map length ps) (map k.read ps) ≡ true
  unfolding zip_with every
  read_fits [] e = refl
  read_fits (p ∷ ps) e =
      let t = (and-eq-true_iff (are_bits p) (every are_bits ps)).0 e in
      rw (k.read_fit p t.0, read_fits ps t.1)

  -- there are as many bits as the sum of the widths
  pub joined_length : (ws : List ℕ) (xs : List X) → length xs ≡ length ws → length (joined ws xs) ≡ sum ws
  joined_length ws xs h = rw (flatten_length, written_lengths ws xs h)

  -- and they are bits
  pub joined_bits : (ws : List ℕ) (xs : List X) → are_bits (joined ws xs) ≡ true
  joined_bits ws xs = rw (every_flatten, written_bits ws xs)

  -- there is a field for each width
  pub parted_count : (ws b : List ℕ) → length (parted ws b) ≡ length ws
  parted_count ws b = rw (length-map, cut_count ws b)

  -- fields that fit are read back as they were written, whatever follows them
  pub parted_joined : (ws : List ℕ) (xs : List X) (q : List ℕ) → length xs ≡ length ws → all_fit ws xs ≡ true
      → parted ws (joined ws xs ++ q) ≡ xs
  parted_joined ws xs q h e =
      let c = rw (written_lengths ws xs h) at (cut_joined (zip_with k.write ws xs) q) in
      rw (c, written_read ws xs h e)

  -- the same where nothing follows
  pub parted_whole : (ws : List ℕ) (xs : List X) → length xs ≡ length ws → all_fit ws xs ≡ true → parted ws (joined ws xs) ≡ xs
  parted_whole ws xs h e = rw append-nil at (parted_joined ws xs [] h e)

  module _ (ws b : List ℕ) (enough : sum ws ≤ length b) (e : are_bits b ≡ true) where
    -- what is read from bits fits
    pub parted_fit : all_fit ws (parted ws b) ≡ true
    parted_fit = rw (cut_lengths ws b enough) at (read_fits (cut ws b) (every_cut is_bit ws b e))

    -- and is written as those bits again, with what was left over after them
    pub joined_parted : joined ws (parted ws b) ++ drop (sum ws) b ≡ b
    joined_parted =
        let w = rw (cut_lengths ws b enough) at (read_written (cut ws b) (every_cut is_bit ws b e)) in
        rw (w, cut_rest ws b)

  -- the same where nothing is left over
  pub joined_whole : (ws b : List ℕ) → length b ≡ sum ws → are_bits b ≡ true → joined ws (parted ws b) ≡ b
  joined_whole ws b h e = rw (drop_of_length-le b (le_of_eq h), append-nil) at (joined_parted ws b (omega arith) e)
