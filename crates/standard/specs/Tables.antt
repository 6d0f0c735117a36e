-- 4.4: the tables. Coefficient i of tables 4.1 and 4.2, from 1 to 8, stands at index i − 1. The other tables count from 0 in the standard
-- too.
use Rattle.std.specs.Prelude.{ℕ, List, [], ◌∷◌, ℤ, pos, neg_ℤ, get_or}

-- −n
abbrev pub neg : ℕ → ℤ
neg n = neg_ℤ (pos n)

-- the entry at an index; 0 beyond the end
infix 80 ◌at◌
abbrev pub ◌at◌ : List ℤ → ℕ → ℤ
t at i = get_or t i (pos 0)

-- table 4.1: quantization of the Log.-Area Ratios
unfoldable pub A : List ℤ
A = pos 20480 ∷ pos 20480 ∷ pos 20480 ∷ pos 20480 ∷ pos 13964 ∷ pos 15360 ∷ pos 8534 ∷ pos 9036 ∷ []

unfoldable pub B : List ℤ
B = pos 0 ∷ pos 0 ∷ pos 2048 ∷ neg 2560 ∷ pos 94 ∷ neg 1792 ∷ neg 341 ∷ neg 1144 ∷ []

unfoldable pub MIC : List ℤ
MIC = neg 32 ∷ neg 32 ∷ neg 16 ∷ neg 16 ∷ neg 8 ∷ neg 8 ∷ neg 4 ∷ neg 4 ∷ []

unfoldable pub MAC : List ℤ
MAC = pos 31 ∷ pos 31 ∷ pos 15 ∷ pos 15 ∷ pos 7 ∷ pos 7 ∷ pos 3 ∷ pos 3 ∷ []

-- table 4.2: tabulation of 1 / A[1..8]
unfoldable pub INVA : List ℤ
INVA = pos 13107 ∷ pos 13107 ∷ pos 13107 ∷ pos 13107 ∷ pos 19223 ∷ pos 17476 ∷ pos 31454 ∷ pos 29708 ∷ []

-- table 4.3a: decision level of the LTP gain quantizer
unfoldable pub DLB : List ℤ
DLB = pos 6554 ∷ pos 16384 ∷ pos 26214 ∷ pos 32767 ∷ []

-- table 4.3b: quantization levels of the LTP gain quantizer
unfoldable pub QLB : List ℤ
QLB = pos 3277 ∷ pos 11469 ∷ pos 21299 ∷ pos 32767 ∷ []

-- table 4.4: coefficients of the weighting filter
unfoldable pub H : List ℤ
H = neg 134 ∷ neg 374 ∷ pos 0 ∷ pos 2054 ∷ pos 5741 ∷ pos 8192 ∷ pos 5741 ∷ pos 2054 ∷ pos 0 ∷ neg 374 ∷ neg 134 ∷ []

-- table 4.5: normalized inverse mantissa used to compute xM / xmax
unfoldable pub NRFAC : List ℤ
NRFAC = pos 29128 ∷ pos 26215 ∷ pos 23832 ∷ pos 21846 ∷ pos 20165 ∷ pos 18725 ∷ pos 17476 ∷ pos 16384 ∷ []

-- table 4.6: normalized direct mantissa used to compute xM / xmax
unfoldable pub FAC : List ℤ
FAC = pos 18431 ∷ pos 20479 ∷ pos 22527 ∷ pos 24575 ∷ pos 26623 ∷ pos 28671 ∷ pos 30719 ∷ pos 32767 ∷ []

-- table 5.1a: the bits of LARc[1..8]
unfoldable pub LARc_widths : List ℕ
LARc_widths = 6 ∷ 6 ∷ 5 ∷ 5 ∷ 4 ∷ 4 ∷ 3 ∷ 3 ∷ []
