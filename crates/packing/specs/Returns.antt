-- What each return of pack and of unpack shows of its promise; and the spare bits as the code tests them.
use Rattle.std.specs.Prelude.{◌≡◌, refl, Bool, false, eqb, ℤ, length}
use Rattle.std.proofs.Math.Path.{sym}
use Rattle.std.proofs.Common.{◌∙◌, arith, drop-cons, eqb-true}
use Rattle.std.proofs.Math.Bool.{true}
use mathlib.Core.List.{List, [], ◌∷◌, ◌++◌, append-nil, map, flatten}
use Rattle.std.proofs.Math.Logic.{⊎_elim}
use Prim.Native.Nat.{ℕ, zero, suc, ◌+◌, ◌*◌, ◌/◌, ◌%◌, ◌≤◌, ◌<◌}
use Rattle.std.proofs.Math.ListN.{get_or, drop, drop_of_length-le}
use Rattle.std.proofs.Math.Seq.{drop-drop, drop_at}
use Rattle.std.proofs.lemmas.Bool.{not-false}
use Rattle.math_integers.specs.Halves.{either}
use Rattle.math_lists.specs.Lengths.{sized_length}
use Rattle.math_lists.specs.Every.{every, every_only}
use Rattle.standard.specs.Packed.{binary, value, packed, byte_bits, unpacked, spare}
use Rattle.standard.specs.House.{refusal, not_of, codewords_row, bytes_row, fields_row, spare_row, fits, pack_refusal, unpack_refusal}
use Rattle.law_refusals.specs.Rows.{refusal_none}
use Rattle.law_refusals.specs.Calls.{pack_exactly, pack_done, pack_refused, unpack_exactly, unpack_done, unpack_refused}
use Rattle.refusals.specs.declared.Refusal.{Refusal}
use Rattle.refusals.specs.Numbers.{number, refused_above}
use Rattle.packing.specs.Bits.{binary_length, value_binary, binary_split, binary_zero}
use Rattle.packing.specs.Promise.{Packs, Unpacks}

-- ---- the rows that both calls test first

-- the rows of the two lengths
abbrev length_rows : List ℤ → List ℕ → List (Bool × ℕ)
length_rows c b = codewords_row c ∷ bytes_row b ∷ []

-- where these give 0, the lengths are right
pub lengths_right : (c : List ℤ) (b : List ℕ) → refusal (length_rows c b) ≡ 0 → (length c ≡ 76) × (length b ≡ 33)
lengths_right c b e =
    let r = refusal_none (not_of 76 c) 1 _ e in
    let s = refusal_none (not_of 33 b) 3 _ r.1 in
    (sized_length 76 c (not-false _ r.0), sized_length 33 b (not-false _ s.0))

-- and where they do not, the rows after them change nothing
refusal_first : (rows more : List (Bool × ℕ)) (n : ℕ) → refusal rows ≡ suc n → refusal (rows ++ more) ≡ suc n
unfolding refusal
refusal_first [] more n e = absurd (omega arith)
refusal_first ((true, k) ∷ rows) more n e = e
refusal_first ((false, k) ∷ rows) more n e = refusal_first rows more n e

-- ---- pack

module _ (c : List ℤ) (b : List ℕ) where
  -- a refusal leaves the bytes as they were
  refuses : (n : ℕ) → pack_refusal c b ≡ suc n → Packs c b (suc n) b
  refuses n e = let r = pack_refused c b n e in record { number = rw r; bytes = rw r }

  -- a length is wrong
  pub pack_lengths : (n : ℕ) → n ≡ refusal (length_rows c b) → ¬ (n ≡ 0) → Packs c b n b
  unfolding pack_refusal
  pack_lengths zero e h = absurd (h refl)
  pack_lengths (suc n) e h = refuses n (refusal_first (length_rows c b) (fields_row c ∷ []) n (sym e))

  -- so for the refusal of that number
  pub pack_refused_lengths : (r : Refusal) → number r ≡ refusal (length_rows c b) → Packs c b (number r) b
  pack_refused_lengths r e = pack_lengths (number r) e (λ z. absurd (omega (arith, refused_above r)))

  -- a codeword does not fit its field
  pub pack_5 : length c ≡ 76 → length b ≡ 33 → fits c ≡ false → Packs c b 5 b
  pack_5 h g e = refuses 4 ((pack_exactly c b).third h g e)

  -- nothing is refused, and the frame is packed
  pub pack_0 : {left : List ℕ} → length c ≡ 76 → length b ≡ 33 → fits c ≡ true → left ≡ packed c → Packs c b 0 left
  pack_0 h g e p = let r = pack_done c b ((pack_exactly c b).allows h g e) in record { number = rw r; bytes = rw r p }

-- ---- unpack

module _ (b : List ℕ) (w : List ℤ) where
  -- a refusal leaves the codewords as they were
  refuses_too : (n : ℕ) → unpack_refusal b w ≡ suc n → Unpacks b w (suc n) w
  refuses_too n e = let r = unpack_refused b w n e in record { number = rw r; codewords = rw r }

  -- a length is wrong
  pub unpack_lengths : (n : ℕ) → n ≡ refusal (length_rows w b) → ¬ (n ≡ 0) → Unpacks b w n w
  unfolding unpack_refusal
  unpack_lengths zero e h = absurd (h refl)
  unpack_lengths (suc n) e h = refuses_too n (refusal_first (length_rows w b) (spare_row b ∷ []) n (sym e))

  -- so for the refusal of that number
  pub unpack_refused_lengths : (r : Refusal) → number r ≡ refusal (length_rows w b) → Unpacks b w (number r) w
  unpack_refused_lengths r e = unpack_lengths (number r) e (λ z. absurd (omega (arith, refused_above r)))

  -- a spare bit is 1
  pub unpack_6 : length w ≡ 76 → length b ≡ 33 → every (eqb 0) (spare b) ≡ false → Unpacks b w 6 w
  unpack_6 h g e = refuses_too 5 ((unpack_exactly b w).third h g e)

  -- nothing is refused, and the frame is unpacked
  pub unpack_0 : {left : List ℤ} → length w ≡ 76 → length b ≡ 33 → every (eqb 0) (spare b) ≡ true → left ≡ unpacked b → Unpacks b w 0 left
  unpack_0 h g e p = let r = unpack_done b w ((unpack_exactly b w).allows h g e) in record { number = rw r; codewords = rw r p }

-- ---- the spare bits

-- the bits from byte k on are those of the bytes from there on
bits_from : (k : ℕ) (b : List ℕ) → k ≤ length b → drop (8 * k) (byte_bits b) ≡ byte_bits (drop k b)
unfolding byte_bits flatten
bits_from zero b h = refl
bits_from (suc k) [] h = absurd (omega arith)
bits_from (suc k) (x ∷ b) h =
    let e : 8 * suc k ≡ 8 + 8 * k = omega arith in
    let rest = flatten (map (binary 8) b) in
    rw (e, ← drop-drop (8 * k) 8 (binary 8 x ++ rest), drop_at (binary 8 x) rest 8 (binary_length 8 x))
    (bits_from k b (omega arith))

module _ (b : List ℕ) (h : length b ≡ 33) where
  -- they are the high half of the last byte
  spare_half : spare b ≡ binary 4 (get_or b 32 0 / 16)
  unfolding spare byte_bits flatten
  spare_half =
      let x = get_or b 32 0 in
      let d : drop 32 b ≡ x ∷ [] = rw (drop-cons b 32 0 (omega arith), drop_of_length-le b {i = 33} (omega arith)) in
      let e : drop 256 (flatten (map (binary 8) b)) ≡ binary 8 x = rw (bits_from 32 b (omega arith), d, append-nil) in
      let high = drop_at (binary 4 (x % 16)) (binary 4 (x / 16)) 4 (binary_length 4 (x % 16)) in
      rw (← drop-drop 4 256 (flatten (map (binary 8) b)), e, binary_split 4 4 x, high)

  -- so all spare bits are 0 where that is 0
  pub spare_none : get_or b 32 0 / 16 ≡ 0 → every (eqb 0) (spare b) ≡ true
  unfolding every
  spare_none e = rw (spare_half, e, binary_zero 4)

  -- and not all are 0 where it is not
  pub spare_some : get_or b 32 0 < 256 → ¬ (get_or b 32 0 / 16 ≡ 0) → every (eqb 0) (spare b) ≡ false
  unfolding value
  spare_some l n = ⊎_elim (λ e. absurd (n (none e))) (λ e. e) (either (every (eqb 0) (spare b)))
    where
      none : every (eqb 0) (spare b) ≡ true → get_or b 32 0 / 16 ≡ 0
      none e =
          let q = get_or b 32 0 / 16 in
          let z = every_only (eqb 0) 0 (λ x t. sym (eqb-true 0 x t)) (binary 4 q) (rw spare_half at e) in
          sym (value_binary 4 q (omega arith)) ∙ rw (z, binary_length 4 q)
