-- House rules, 'Samples and codewords', over table 1.1 of the standard: samples, and the 76 codewords of a frame.
use Rattle.std.specs.Prelude.{ℕ, ◌^◌, ℤ, pos, take, drop, replicate}
use mathlib.Core.List.{List, [], ◌∷◌, ◌++◌, map, zip_with, flatten}
use Rattle.standard.specs.Arithmetic.{◌>>◌, ◌<<◌, modulo}
use Rattle.standard.specs.Tables.{◌at◌, LARc_widths}

-- a sample's 13 valid bits; the low 3 are 0
unfoldable pub sample : ℤ → ℤ
sample x = x >> 3 << 3

-- a sub-frame: lag, gain, grid, block amplitude, thirteen pulses
pub record Subframe : Type 0 where
  pub Nc : ℤ
  pub bc : ℤ
  pub Mc : ℤ
  pub xmaxc : ℤ
  pub xMc : List ℤ

-- a frame: LARc[1..8], four sub-frames
pub record Frame : Type 0 where
  pub LARc : List ℤ
  pub subframes : List Subframe

-- ---- as codewords

-- the 17 codewords of a sub-frame
unfoldable pub sub_words : Subframe → List ℤ
sub_words s = s.Nc ∷ s.bc ∷ s.Mc ∷ s.xmaxc ∷ s.xMc

-- the 76 codewords of a frame
unfoldable pub words : Frame → List ℤ
words f = f.LARc ++ flatten (map sub_words f.subframes)

-- the index at which each sub-frame starts
unfoldable pub places : List ℕ
places = 8 ∷ 25 ∷ 42 ∷ 59 ∷ []

-- ---- the fields and their valid bits

-- the bits of each field of a sub-frame, in order
unfoldable pub sub_widths : List ℕ
sub_widths = 7 ∷ 2 ∷ 2 ∷ 6 ∷ replicate 13 3

-- and of a frame
unfoldable pub widths : List ℕ
widths = LARc_widths ++ flatten (replicate 4 sub_widths)

-- the valid bits, which are all that the decoder uses: the low bits of each codeword, as many as its field has
unfoldable pub valid : List ℤ → List ℤ
valid = zip_with (λ width c. pos (modulo c (2 ^ width))) widths

-- ---- as received

unfoldable pub sub_received : List ℤ → Subframe
sub_received c = record { Nc = c at 0; bc = c at 1; Mc = c at 2; xmaxc = c at 3; xMc = drop 4 c }

-- the frame that the decoder reads from 76 codewords
unfoldable pub received : List ℤ → Frame
received c =
    let v = valid c in
    record { LARc = take 8 v; subframes = map (λ p. sub_received (take 17 (drop p v))) places }
