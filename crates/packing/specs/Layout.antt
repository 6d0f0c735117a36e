-- Fields laid out in cells: the fields' bits, with given bits before and after them, are cut anew into the cells, and back.
use Rattle.std.specs.Prelude.{◌≡◌, true, List, ◌++◌, ℕ, ◌+◌, length, take, drop}
use Rattle.std.proofs.Common.{arith, length-append, length-drop, take-append-drop, drop_at}
use Rattle.std.proofs.Math.Seq.{drop-append_seam}
use Rattle.math_lists.specs.Every.{every_append, every_drop}
use Rattle.math_lists.specs.Cut.{sum}
use Rattle.packing.specs.Bits.{is_bit, are_bits}
use Rattle.packing.specs.Fields.{Code, joined, parted, all_fit, joined_length, joined_bits}
use Rattle.packing.specs.Fields.{parted_joined, parted_whole, parted_fit, joined_parted, joined_whole}

module _ {X Y : Type 0} (k : Code X) (m : Code Y) (ws vs front back : List ℕ) where
  -- the bits of fields of the widths ws, between those of the front and those of the back
  abbrev pub whole : List X → List ℕ
  whole xs = front ++ (joined k ws xs ++ back)

  -- the same in cells of the widths vs
  abbrev pub laid : List X → List Y
  laid xs = parted m vs (whole xs)

  -- the bits of such cells from the first field on
  abbrev pub rest : List Y → List ℕ
  rest ys = drop (length front) (joined m vs ys)

  -- and the fields that the cells hold
  abbrev pub taken : List Y → List X
  taken ys = parted k ws (rest ys)

  module _ (room : length front + (sum ws + length back) ≡ sum vs) where
    module _ (f : are_bits front ≡ true) (b : are_bits back ≡ true) (xs : List X) (h : length xs ≡ length ws) where
      whole_length : length (whole xs) ≡ sum vs
      whole_length = rw (length-append, length-append, joined_length k ws xs h) room

      whole_bits : are_bits (whole xs) ≡ true
      whole_bits = simp (every_append, f, b, joined_bits k ws xs)

      -- the cells' bits are those that were laid out
      pub laid_bits : joined m vs (laid xs) ≡ whole xs
      laid_bits = joined_whole m vs (whole xs) whole_length whole_bits

      -- and the back after them
      pub laid_back : drop (sum ws) (rest (laid xs)) ≡ back
      laid_back = rw (laid_bits, drop-append_seam, drop_at (joined k ws xs) back (sum ws) (joined_length k ws xs h))

      -- fields that fit are taken out as they were laid
      pub taken_laid : all_fit k ws xs ≡ true → taken (laid xs) ≡ xs
      taken_laid e = rw (laid_bits, drop-append_seam) (parted_joined k ws xs back h e)

    module _ (ys : List Y) (h : length ys ≡ length vs) where
      rest_length : length (rest ys) ≡ sum ws + length back
      rest_length = rw (length-drop, joined_length m vs ys h) (omega arith)

      rest_bits : are_bits (rest ys) ≡ true
      rest_bits = every_drop is_bit (length front) (joined m vs ys) (joined_bits m vs ys)

      -- the bits after the fields are as many as the back has
      pub back_length : length (drop (sum ws) (rest ys)) ≡ length back
      back_length = rw (length-drop (sum ws) (rest ys), rest_length) (omega arith)

      -- each field that is taken out fits
      pub taken_fit : all_fit k ws (taken ys) ≡ true
      taken_fit = parted_fit k ws (rest ys) (omega (arith, rest_length)) rest_bits

      -- cells that fit, with the front and the back in their places, are laid out again as they were
      pub laid_taken : all_fit m vs ys ≡ true → take (length front) (joined m vs ys) ≡ front → drop (sum ws) (rest ys) ≡ back
          → laid (taken ys) ≡ ys
      laid_taken e u v =
          let j = joined_parted k ws (rest ys) (omega (arith, rest_length)) rest_bits in
          let r : joined k ws (taken ys) ++ back ≡ rest ys = rw v at j in
          let t : front ++ rest ys ≡ joined m vs ys = rw u at (take-append-drop (length front) (joined m vs ys)) in
          rw (r, t) (parted_whole m vs ys h e)
