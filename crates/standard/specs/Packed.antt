-- House rules, 'Packing': the 33 bytes of a packed frame.
use Rattle.std.specs.Prelude.{ℕ, zero, suc, ◌+◌, ◌*◌, ◌/◌, ◌%◌, ℤ, pos, nat_abs, drop, replicate}
use mathlib.Core.List.{List, [], ◌∷◌, ◌++◌, map, zip_with, flatten}
use Rattle.math_lists.specs.Cut.{cut}
use Rattle.standard.specs.Frame.{widths}

-- the low bits of a number, as many as the width says, the lowest first
unfoldable pub binary : ℕ → ℕ → List ℕ
binary zero n = []
binary (suc width) n = n % 2 ∷ binary width (n / 2)

-- the number that has these bits, the lowest first
unfoldable pub value : List ℕ → ℕ
value [] = 0
value (b ∷ bs) = b + 2 * value bs

-- ---- packing

-- b1 to b260, in the order of table 1.1 of the standard
unfoldable pub frame_bits : List ℤ → List ℕ
frame_bits words = flatten (zip_with (λ width c. binary width (nat_abs c)) widths words)

-- 33 bytes, b1 in the lowest bit of the first byte, b9 in the lowest bit of the second, and so on; the last four bits are 0
unfoldable pub packed : List ℤ → List ℕ
packed words = map value (cut (replicate 33 8) (frame_bits words ++ replicate 4 0))

-- ---- unpacking

unfoldable pub byte_bits : List ℕ → List ℕ
byte_bits bytes = flatten (map (binary 8) bytes)

-- the 76 codewords that the bits of the bytes have, field by field
unfoldable pub unpacked : List ℕ → List ℤ
unpacked bytes = map (λ b. pos (value b)) (cut widths (byte_bits bytes))

-- the spare bits: the top 4 bits of the last byte
unfoldable pub spare : List ℕ → List ℕ
spare bytes = drop 260 (byte_bits bytes)
