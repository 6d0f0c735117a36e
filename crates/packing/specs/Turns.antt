-- pack's way over a frame, and unpack's: what a turn needs and does, where the queue stands after the ratios and after each
-- sub-frame, and that the last turn leaves the definition's result.
use Rattle.std.specs.Prelude.{◌≡◌, refl, true, ℕ, suc, ◌+◌, ◌-◌, ◌*◌, ◌/◌, ◌%◌, ◌^◌, ◌≤◌, ◌<◌, ℤ, pos, nat_abs, length, get_or, set, take, drop}
use Rattle.std.proofs.Common.{sym, ap, ◌∙◌, arith, length-take, length-drop, get_or-take, get_or-drop, pow_mono, drop_of_length-le, drop-cons}
use mathlib.Core.List.{List, [], append-nil, flatten, zip_with}
use Rattle.std.proofs.lemmas.List.{get_or-replicate}
use Rattle.math_integers.specs.Halves.{P, N, abs_is}
use Rattle.math_lists.specs.Every.{every_at}
use Rattle.math_lists.specs.Tab.{tab, zip_at, zip_length}
use Rattle.math_lists.specs.For.{tab_each}
use Rattle.math_lists.specs.Cut.{sum, rest_sum}
use Rattle.standard.specs.Tables.{LARc_widths}
use Rattle.standard.specs.Frame.{sub_widths, widths}
use Rattle.standard.specs.Packed.{binary, frame_bits, packed, unpacked}
use Rattle.standard.specs.House.{fit, fits}
use Rattle.law_fields.specs.Fit.{fit_is}
use Rattle.frame_codewords.specs.Widths.{width_most}
use Rattle.packing.specs.Waiting.{coming, Moving, moving_in, moving_out, moving_end, moving_last}
use Rattle.packing.specs.RoundTrip.{field_count, bit_count, eights, spare_zeros, byte_bits_is}

-- the invariant of pack's loop over the codewords c
abbrev pub Packing : List ℤ → ℕ → ℕ → ℕ → ℕ → List ℕ → Type 0
Packing c = Moving nat_abs (λ n. n) spare_zeros eights widths c

-- the invariant of unpack's loop over the bytes b
abbrev pub Unpacking : List ℕ → ℕ → ℕ → ℕ → ℕ → List ℤ → Type 0
Unpacking b = Moving (λ n. n) pos [] widths eights b

-- what holds between two turns of pack: fewer than eight bits wait, and there is room for 33 bytes
pub record Filling (c : List ℤ) (i k h n : ℕ) (out : List ℕ) : Type 0 where
  pub few : h < 8
  pub room : length out ≡ 33
  pub moving : Packing c i k h n out

-- and between two turns of unpack: at most all 33 bytes are read, and there is room for 76 codewords
pub record Reading (b : List ℕ) (i k h n : ℕ) (out : List ℤ) : Type 0 where
  pub few : h < 8
  pub read : i ≤ 33
  pub room : length out ≡ 76
  pub moving : Unpacking b i k h n out

-- what is left of the fields after the ratios and j sub-frames
rest_width : (j : ℕ) → j ≤ 4 → sum (drop (8 + 17 * j) widths) ≡ 56 * (4 - j)
unfolding widths LARc_widths sub_widths flatten tab
rest_width j h = tab_each (λ j. sum (drop (8 + 17 * j) widths)) (λ j. 56 * (4 - j)) 5 0 refl j (omega arith) (omega arith)

-- what the loops give in the end is the packed frame, and the unpacked one
packing_whole : (c : List ℤ) → coming nat_abs (λ n. n) spare_zeros eights widths c 0 0 ≡ packed c
unfolding packed frame_bits binary
packing_whole c = refl

unpacking_whole : (b : List ℕ) → length b ≡ 33 → coming (λ n. n) pos [] widths eights b 0 0 ≡ unpacked b
unfolding unpacked binary
unpacking_whole b h = rw (append-nil, byte_bits_is b h)

-- no field holds more than 128 values
pub limit_most : (i : ℕ) → 2 ^ get_or widths i 0 ≤ 128
limit_most i = pow_mono (width_most i)

-- where bits are the widths of some fields in turn, from field `from` on, each is the width of its field
pub field_at : (bits : List ℕ) (from i : ℕ) → bits ≡ take (length bits) (drop from widths) → i < length bits
    → (from + i < 76) × (get_or bits i 0 ≡ get_or widths (from + i) 0)
field_at bits from i e l =
    let n = field_count in
    let m = ap length e in
    let k : from + i < 76 = omega (arith, m, length-take (length bits) (drop from widths), length-drop from widths) in
    (k, ap (λ (b : List ℕ). get_or b i 0) e ∙ (get_or-take (length bits) (drop from widths) i 0 l ∙ get_or-drop from widths i 0))

-- a codeword of a frame that fits is not negative, and below its field's limit
pub word_below : (c : List ℤ) (i : ℕ) → length c ≡ 76 → fits c ≡ true → i < 76
    → (P (get_or c i (pos 0)) < 2 ^ get_or widths i 0) × (N (get_or c i (pos 0)) ≡ 0)
unfolding fits
word_below c i h f l =
    let n = field_count in
    let p : i < length widths = omega arith in
    let q : i < length c = omega arith in
    let e = every_at (λ b. b) (zip_with fit widths c) i true f (omega (arith, zip_length fit widths c)) in
    fit_is _ _ (rw (zip_at fit widths c i 0 (pos 0) true p q) at e)

-- ---- pack's turn: i codewords are read, k bytes written, and h bits wait in n

module _ {c : List ℤ} {i k h n : ℕ} {out : List ℕ} (m : Packing c i k h n out) where
  -- what is still to come fills up the bytes that are free
  pack_count : h + sum (drop i widths) + 4 ≡ 8 * (33 - k)
  pack_count = omega (arith, m.count, bit_count, rest_sum 8 33 k)

  -- a byte is free
  pub pack_room : k < 33
  pack_room = omega (arith, pack_count)

  -- a codeword goes above the bits that wait
  pub pack_in : {w y r : ℕ} → length c ≡ 76 → fits c ≡ true → i < 76
      → w ≡ get_or widths i 0 → y ≡ nat_abs (get_or c i (pos 0)) → r ≡ n + 2 ^ h * y
      → Packing c (i + 1) k (h + w) r out
  pack_in {w} {y} l f p e g t =
      let q = field_count in
      let z = word_below c i l f p in
      let s : y < 2 ^ w = rw (g, e) (omega (arith, abs_is (get_or c i (pos 0)))) in
      moving_in nat_abs (λ n. n) spare_zeros eights widths c m (pos 0) (omega arith) (omega arith) e g s t

  -- eight of them are a byte
  pub pack_out : length out ≡ 33 → 8 ≤ h → Packing c i (k + 1) (h - 8) (n / 256) (set out k (n % 256))
  pack_out l p =
      let r = pack_room in
      moving_out nat_abs (λ n. n) spare_zeros eights widths c m r (omega arith) (sym (get_or-replicate 33 k 8 0 r)) p refl refl

  -- the last four are the last byte
  pub pack_end : length out ≡ 33 → 76 ≤ i → h < 8 → set out 32 n ≡ packed c
  pack_end l p s =
      let q = field_count in
      let z : sum (drop i widths) ≡ 0 = rw (drop_of_length-le widths {i = i} (omega arith)) in
      let e : k ≡ 32 = omega (arith, pack_count) in
      let g : h ≡ 4 = omega (arith, pack_count) in
      rw e at (moving_last nat_abs (λ n. n) spare_zeros eights widths c m 4 (omega arith) (omega arith) l (rw (e, g)) refl)
      ∙ packing_whole c

-- ---- unpack's turn: i bytes are read, k codewords written, and h bits wait in n

module _ {b : List ℕ} {i k h n : ℕ} {out : List ℤ} (m : Unpacking b i k h n out) where
  -- where the bits that wait are too few for a codeword, a byte is left to read
  pub unpack_room : k < 76 → h < get_or widths k 0 → i < 33
  unpack_room l s =
      let e : sum (drop k widths) ≡ get_or widths k 0 + sum (drop (suc k) widths) = rw (drop-cons widths k 0 (rw field_count l)) in
      omega (arith, m.count, bit_count, rest_sum 8 33 i)

  -- it goes above them
  pub unpack_in : {y r : ℕ} → length b ≡ 33 → i < 33 → y ≡ get_or b i 0 → y < 256 → r ≡ n + 2 ^ h * y → Unpacking b (i + 1) k (h + 8) r out
  unpack_in l p e g t =
      moving_in (λ n. n) pos [] widths eights b m 0 p (omega arith) (sym (get_or-replicate 33 i 8 0 p)) e g t

  -- the lowest of them are a codeword
  pub unpack_out : {v u : ℕ} {y : ℤ} → length out ≡ 76 → k < 76 → v ≡ get_or widths k 0 → v ≤ h → u ≡ 2 ^ v → y ≡ pos (n % u)
      → Unpacking b i (k + 1) (h - v) (n / u) (set out k y)
  unpack_out l p = let q = field_count in moving_out (λ n. n) pos [] widths eights b m (omega arith) (omega arith)

  -- after the loop
  pub unpack_end : length b ≡ 33 → length out ≡ 76 → 76 ≤ k → out ≡ unpacked b
  unpack_end g l p =
      let q = field_count in
      moving_end (λ n. n) pos [] widths eights b m (omega arith) (omega arith) ∙ unpacking_whole b g

-- ---- where the queue stands after the ratios and j sub-frames: the widths read and the bits that wait decide it

pub filling_at : {c : List ℤ} {i k h n : ℕ} {out : List ℕ} → Filling c i k h n out → (j : ℕ) → j ≤ 4 → i ≡ 8 + 17 * j
    → Filling c (8 + 17 * j) (4 + 7 * j) 4 n out
filling_at {c} {i} {k} {h} {n} {out} f j p e =
    let s : sum (drop i widths) ≡ 56 * (4 - j) = rw e (rest_width j p) in
    let t = pack_count f.moving in
    let u = pack_room f.moving in
    let q : k ≡ 4 + 7 * j = omega (arith, f.few) in
    let r : h ≡ 4 = omega (arith, f.few) in
    rw (← e, ← q, ← r) f

pub reading_at : {b : List ℕ} {i k h n : ℕ} {out : List ℤ} → Reading b i k h n out → (j : ℕ) → j ≤ 4 → k ≡ 8 + 17 * j
    → Reading b (5 + 7 * j) (8 + 17 * j) 4 n out
reading_at {b} {i} {k} {h} {n} {out} f j p e =
    let s : sum (drop k widths) ≡ 56 * (4 - j) = rw e (rest_width j p) in
    let t = f.moving.count in
    let q : i ≡ 5 + 7 * j = omega (arith, f.few, f.read, bit_count, rest_sum 8 33 i) in
    let r : h ≡ 4 = omega (arith, f.few, f.read, bit_count, rest_sum 8 33 i) in
    rw (← e, ← q, ← r) f
