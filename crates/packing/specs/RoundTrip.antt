-- House rules, 'Packing': a frame that fits its fields is packed and unpacked without loss, and so are 33 bytes with four
-- spare zeros.
use Rattle.std.specs.Prelude.{◌≡◌, true, ℕ, ◌+◌, ◌^◌, ltb, eqb, ℤ, pos, negsuc, nat_abs, length, replicate, drop}
use Rattle.std.proofs.Math.Path.{refl}
use Rattle.std.proofs.Common.{sym, ap, ◌∙◌, ltb-true, lt-ltb, eqb-true}
use Rattle.std.proofs.lemmas.Bool.{false≢true}
use mathlib.Core.List.{List, [], flatten}
use Rattle.math_lists.specs.Every.{every, every_only, every_map}
use Rattle.math_lists.specs.Tab.{zip_replicate}
use Rattle.math_lists.specs.Cut.{sum}
use Rattle.standard.specs.Tables.{LARc_widths}
use Rattle.standard.specs.Frame.{sub_widths, widths}
use Rattle.standard.specs.Packed.{binary, frame_bits, packed, byte_bits, unpacked, spare}
use Rattle.standard.specs.House.{fit, fits}
use Rattle.packing.specs.Bits.{are_bits, Order, low_first}
use Rattle.packing.specs.Fields.{Code, joined, all_fit, parted_count}
use Rattle.packing.specs.Layout.{laid, taken, laid_back, taken_laid, back_length, taken_fit, laid_taken}

-- numbers, in any order of the bits
abbrev pub number : Order → Code ℕ
number o =
    record {
      write = o.write;
      read = o.read;
      fit = λ w n. ltb n (2 ^ w);
      write_length = o.write_length;
      write_bits = o.write_bits;
      read_write = λ w n e. o.read_write w n (ltb-true n (2 ^ w) e);
      read_fit = λ b e. lt-ltb (o.read b) (2 ^ length b) (o.read_below b e);
      write_read = o.write_read;
    }

-- a codeword that fits is read back
pub word_back : (o : Order) (w : ℕ) (c : ℤ) → fit w c ≡ true → pos (o.read (o.write w (nat_abs c))) ≡ c
unfolding fit
word_back o w (pos n) e = ap pos ((number o).read_write w n e)
word_back o w (negsuc n) e = absurd (false≢true e)

-- a codeword that is read fits
pub word_fit : (o : Order) (b : List ℕ) → are_bits b ≡ true → fit (length b) (pos (o.read b)) ≡ true
unfolding fit
word_fit o = (number o).read_fit

-- codewords, in any order of the bits
abbrev pub codeword : Order → Code ℤ
codeword o =
    record {
      write = λ w c. o.write w (nat_abs c);
      read = λ b. pos (o.read b);
      fit = fit;
      write_length = λ w c. o.write_length w (nat_abs c);
      write_bits = λ w c. o.write_bits w (nat_abs c);
      read_write = word_back o;
      read_fit = word_fit o;
      write_read = o.write_read;
    }

-- there are 76 fields
pub field_count : length widths ≡ 76
unfolding widths sub_widths LARc_widths flatten
field_count = refl

-- of 260 bits
pub bit_count : sum widths ≡ 260
unfolding widths sub_widths LARc_widths flatten
bit_count = refl

-- ---- the packed frame is a layout: nothing before the fields, four zeros after them, in 33 bytes of eight bits

abbrev low_codeword : Code ℤ
low_codeword = codeword low_first

abbrev bytes : Code ℕ
bytes = number low_first

abbrev pub eights : List ℕ
eights = replicate 33 8

abbrev pub spare_zeros : List ℕ
spare_zeros = replicate 4 0

room : 0 + (sum widths + 4) ≡ 264
room = rw bit_count

packed_is : (c : List ℤ) → packed c ≡ laid low_codeword bytes widths eights [] spare_zeros c
unfolding packed frame_bits
packed_is c = refl

-- the bits of 33 bytes are those of fields of eight bits
pub byte_bits_is : (b : List ℕ) → length b ≡ 33 → byte_bits b ≡ joined bytes eights b
unfolding byte_bits
byte_bits_is b h = rw (zip_replicate binary 8 33 b h)

unpacked_is : (b : List ℕ) → length b ≡ 33 → unpacked b ≡ taken low_codeword bytes widths eights [] spare_zeros b
unfolding unpacked
unpacked_is b h = rw (byte_bits_is b h)

spare_is : (b : List ℕ) → length b ≡ 33 → spare b ≡ drop (sum widths) (joined bytes eights b)
unfolding spare
spare_is b h = rw (byte_bits_is b h, bit_count)

-- 33 bytes fit eight bits each where they are below 256
bytes_fit : (b : List ℕ) → length b ≡ 33 → all_fit bytes eights b ≡ every (λ x. ltb x 256) b
bytes_fit b h = rw (zip_replicate bytes.fit 8 33 b h, every_map)

-- ---- packing

-- there are 33 bytes
pub packed_length : (c : List ℤ) → length (packed c) ≡ 33
unfolding packed
packed_length c = parted_count bytes eights _

module _ (c : List ℤ) (h : length c ≡ 76) where
  fields : length c ≡ length widths
  fields = h ∙ sym field_count

  -- the spare bits are 0
  pub packed_spare : every (eqb 0) (spare (packed c)) ≡ true
  unfolding every
  packed_spare =
      let z = laid_back low_codeword bytes widths eights [] spare_zeros room refl refl c fields in
      rw (spare_is (packed c) (packed_length c), packed_is c, z)

  -- codewords that fit are unpacked as they were
  pub unpack_packed : fits c ≡ true → unpacked (packed c) ≡ c
  unfolding every fits
  unpack_packed e =
      rw (unpacked_is (packed c) (packed_length c), packed_is c)
      (taken_laid low_codeword bytes widths eights [] spare_zeros room refl refl c fields e)

-- ---- unpacking

-- there are 76 codewords
pub unpacked_length : (b : List ℕ) → length (unpacked b) ≡ 76
unfolding unpacked
unpacked_length b = parted_count low_codeword widths (byte_bits b) ∙ field_count

module _ (b : List ℕ) (h : length b ≡ 33) where
  -- each codeword fits
  pub unpacked_fits : fits (unpacked b) ≡ true
  unfolding fits
  unpacked_fits = rw (unpacked_is b h) (taken_fit low_codeword bytes widths eights [] spare_zeros room b h)

  -- four bits are spare
  pub spare_length : length (spare b) ≡ 4
  spare_length = rw (spare_is b h) (back_length low_codeword bytes widths eights [] spare_zeros room b h)

  -- bytes with spare zeros are packed as they were
  pub pack_unpacked : every (λ x. ltb x 256) b ≡ true → every (eqb 0) (spare b) ≡ true → packed (unpacked b) ≡ b
  pack_unpacked e s =
      let f = rw (← bytes_fit b h) at e in
      let z = rw spare_length at (every_only (eqb 0) 0 (λ x t. sym (eqb-true 0 x t)) (spare b) s) in
      rw (packed_is (unpacked b), unpacked_is b h)
      (laid_taken low_codeword bytes widths eights [] spare_zeros room b h f refl (rw (← spare_is b h) z))
