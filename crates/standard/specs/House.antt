-- House rules, 'Home', 'Soundness', 'Marks' and 'Refusals': the state before the first frame, the states that a call takes, the mark of a
-- lag, and the number of each refusal.
use Rattle.std.specs.Prelude.{ℕ, ◌^◌, Bool, false, cond, not, ◌&&◌, ℤ, pos, negsuc, ◌-ℤ◌, ◌*ℤ◌, length, replicate, eqb, ltb}
use mathlib.Core.List.{List, [], ◌∷◌, zip_with}
use Rattle.std.specs.Int.Signed.{lt_z}
use Rattle.math_lists.specs.Every.{every}
use Rattle.standard.specs.Arithmetic.{within}
use Rattle.standard.specs.Tables.{neg}
use Rattle.standard.specs.Frame.{widths}
use Rattle.standard.specs.LongTerm.{is_lag}
use Rattle.standard.specs.Coder.{Coder, Subcoded}
use Rattle.standard.specs.Decoder.{Decoder}
use Rattle.standard.specs.Packed.{spare}

-- ---- 'Home'

unfoldable pub home_coder : Coder
home_coder =
    record {
      z1 = pos 0;
      L_z2 = pos 0;
      mp = pos 0;
      LARpp = replicate 8 (pos 0);
      u = replicate 8 (pos 0);
      dp = replicate 120 (pos 0);
    }

unfoldable pub home_decoder : Decoder
home_decoder = record { drp = replicate 120 (pos 0); nrp = pos 40; LARpp = replicate 8 (pos 0); v = replicate 8 (pos 0); msr = pos 0 }

-- ---- 'Soundness'

-- z1 lies in −16384 to 16380, and L_z2 − 32768 · z1 lies in −536740337 to 536871409
unfoldable pub sound_coder : Coder → Bool
sound_coder c =
    within (neg 16384) (pos 16380) c.z1 && within (neg 536740337) (pos 536871409) (c.L_z2 -ℤ pos 32768 *ℤ c.z1)

-- the remembered lag lies in 40 to 120
unfoldable pub sound_decoder : Decoder → Bool
sound_decoder m = is_lag m.nrp

-- ---- 'Marks' (request W-203)

pub data Mark : Type 0 where
  rule : Mark
  found : Mark

-- found exactly when some lag from 40 to 120 has a positive sum before the rescaling, and rule otherwise. The search has the greatest
-- of these sums as its `sum`, or 0 where none is positive
unfoldable pub mark : Subcoded → Mark
mark s = cond (lt_z (pos 0) s.search.sum) found rule

-- ---- 'Refusals': the table. A row is a test that is true when something is wrong, and the number for it

-- the number of the first row that applies, or 0. The rows of a call stand with the lowest number first, so where several apply, the
-- lowest number is given
unfoldable pub refusal : List (Bool × ℕ) → ℕ
refusal [] = 0
refusal ((wrong, n) ∷ rows) = cond wrong n (refusal rows)

-- the list does not have n elements
abbrev pub not_of : {A : Type 0} → ℕ → List A → Bool
not_of n xs = not (eqb (length xs) n)

-- a codeword fits a field of this width
unfoldable pub fit : ℕ → ℤ → Bool
fit width (pos n) = ltb n (2 ^ width)
fit width (negsuc n) = false

-- each codeword of a frame fits its field
unfoldable pub fits : List ℤ → Bool
fits c = every (λ b. b) (zip_with fit widths c)

-- the samples passed are not 160
abbrev pub samples_row : List ℤ → Bool × ℕ
samples_row samples = (not_of 160 samples, 1)

-- the octets passed are not 160: refusal 1 counts octets in the A-law calls, and keeps its place in the order ('A-law')
abbrev pub octets_row : List ℕ → Bool × ℕ
octets_row octets = (not_of 160 octets, 1)

-- the codewords passed are not 76
abbrev pub codewords_row : List ℤ → Bool × ℕ
codewords_row codewords = (not_of 76 codewords, 2)

-- the state passed in is unsound
abbrev pub state_row : Bool → Bool × ℕ
state_row sound = (not sound, 3)

-- the bytes passed are not 33
abbrev pub bytes_row : List ℕ → Bool × ℕ
bytes_row bytes = (not_of 33 bytes, 4)

-- at least one codeword does not fit its field
abbrev pub fields_row : List ℤ → Bool × ℕ
fields_row codewords = (not (fits codewords), 5)

-- one of the spare bits is set
abbrev pub spare_row : List ℕ → Bool × ℕ
spare_row bytes = (not (every (eqb 0) (spare bytes)), 6)

-- the number that each call gives
unfoldable pub encode_refusal : Coder → List ℤ → List ℤ → ℕ
encode_refusal c samples codewords = refusal (samples_row samples ∷ codewords_row codewords ∷ state_row (sound_coder c) ∷ [])

unfoldable pub decode_refusal : Decoder → List ℤ → List ℤ → ℕ
decode_refusal m codewords samples = refusal (samples_row samples ∷ codewords_row codewords ∷ state_row (sound_decoder m) ∷ [])

-- of decode_alaw; encode_alaw has the refusals of encode, over the samples that the octets stand for
unfoldable pub decode_alaw_refusal : Decoder → List ℤ → List ℕ → ℕ
decode_alaw_refusal m codewords octets = refusal (octets_row octets ∷ codewords_row codewords ∷ state_row (sound_decoder m) ∷ [])

unfoldable pub pack_refusal : List ℤ → List ℕ → ℕ
pack_refusal codewords bytes = refusal (codewords_row codewords ∷ bytes_row bytes ∷ fields_row codewords ∷ [])

unfoldable pub unpack_refusal : List ℕ → List ℤ → ℕ
unpack_refusal bytes codewords = refusal (codewords_row codewords ∷ bytes_row bytes ∷ spare_row bytes ∷ [])
