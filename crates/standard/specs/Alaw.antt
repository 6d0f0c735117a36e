-- House rules, 'A-law' (request W-204): 8-bit A-law codes (G.711), and values on the 13-bit scale.
use Rattle.std.specs.Prelude.{ℕ, zero, suc, ◌+◌, ◌-◌, ◌*◌, ◌/◌, ◌%◌, ◌^◌, min, Bool, cond, ◌&&◌, List, map, leb, ltb, ℤ, pos, negsuc, ◌*ℤ◌}
use Rattle.std.specs.Int.Bits.{bit_xor}
use Rattle.math_lists.specs.First.{first}
use Rattle.standard.specs.Arithmetic.{◌>>◌}
use Rattle.standard.specs.Tables.{neg}

-- exclusive or with 55 hex: the even bits are inverted
abbrev pub turned : ℕ → ℕ
turned c = bit_xor c 85

-- ---- expansion to 13 bits

-- the magnitude of a segment and a step: 2·step + 1 in segment 0, and (2·step + 33)·2^(segment − 1) in segments 1 to 7
unfoldable pub magnitude : ℕ → ℕ → ℕ
magnitude zero step = 2 * step + 1
magnitude (suc s) step = (2 * step + 33) * 2 ^ s

-- the value of a code: the top bit is the sign, set for positive; then come three bits of segment and four bits of step
unfoldable pub expanded : ℕ → ℤ
expanded code =
    let c = turned code in
    let m = magnitude (c / 16 % 8) (c % 16) in
    cond (ltb c 128) (neg m) (pos m)

-- ---- compression

-- n divided by 2^s, rounded down, lies in 16 to 31
abbrev pub in_segment : ℕ → ℕ → Bool
in_segment n s = leb 16 (n / 2 ^ s) && leb (n / 2 ^ s) 31

-- the segment, from 1 to 7, for which that holds
unfoldable pub segment : ℕ → ℕ
segment n = first (in_segment n) 6 1

-- segment and step of a number from 0 to 4095, in seven bits. Below 32 the segment is 0, and the step is half the number, rounded down.
-- From 32 on the step is the quotient by 2^segment, minus 16
unfoldable pub placed : ℕ → ℕ
placed n =
    let s = segment n in
    cond (ltb n 32) (n / 2) (16 * s + (n / 2 ^ s - 16))

-- a value above 4095, the largest of 13 bits, counts as 4095
abbrev pub limited : ℕ → ℕ
limited n = min n 4095

-- the code of a value v: below 0 it is made of −v − 1, with the top bit clear; any other v is taken as it is, with the top bit set. Then
-- the even bits are inverted
unfoldable pub compressed : ℤ → ℕ
compressed (pos n) = turned (128 + placed (limited n))
compressed (negsuc n) = turned (placed (limited n))

-- ---- a frame's octets

-- the sample for encode is 8 times the expanded value
unfoldable pub alaw_samples : List ℕ → List ℤ
alaw_samples = map (λ code. expanded code *ℤ pos 8)

-- the value to compress is an output sample divided by 8, rounded down
unfoldable pub alaw_octets : List ℤ → List ℕ
alaw_octets = map (λ x. compressed (x >> 3))
