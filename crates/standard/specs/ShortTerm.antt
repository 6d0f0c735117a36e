-- 4.2.8 to 4.2.10: the short term analysis filtering section.
use Rattle.std.specs.Prelude.{ℕ, cond, ℤ, pos, replicate}
use mathlib.Core.List.{List, [], ◌∷◌, map, zip_with, zip, flatten}
use Rattle.std.specs.Int.Signed.{lt_z}
use Rattle.math_lists.specs.Tab.{tab}
use Rattle.math_lists.specs.Scan.{run}
use Rattle.standard.specs.Arithmetic.{◌>>◌, ◌<<◌, add, sub, mult_r}
use Rattle.standard.specs.Tables.{◌at◌, B, MIC, INVA}
use Rattle.standard.specs.Lpc.{with_sign}

-- ---- 4.2.8 Decoding of the coded Log.-Area Ratios

-- LARpp[i] of LARc[i]
unfoldable pub LARpp : ℕ → ℤ → ℤ
LARpp i larc =
    let temp1 = sub (add larc (MIC at i) << 10) (B at i << 1) in
    let temp = mult_r (INVA at i) temp1 in
    add temp temp

-- LARpp[1..8] of LARc[1..8]
unfoldable pub ratios : List ℤ → List ℤ
ratios larc = tab (λ i. LARpp i (larc at i)) 0 8

-- ---- 4.2.9.1 Interpolation of the LARpp[1..8] to get the LARp[1..8]

-- for samples 0 to 12, 13 to 26, 27 to 39 and 40 to 159: how many samples they are, and LARp[i] of LARpp(j − 1)[i], which is `old`, and of
-- LARpp(j)[i], which is `new`
unfoldable pub stretches : List (ℕ × (ℤ → ℤ → ℤ))
stretches =
    (13, λ old new. add (add (old >> 2) (new >> 2)) (old >> 1))
    ∷ (14, λ old new. add (old >> 1) (new >> 1))
    ∷ (13, λ old new. add (add (old >> 2) (new >> 2)) (new >> 1))
    ∷ (120, λ old new. new)
    ∷ []

-- ---- 4.2.9.2 Computation of the rp[1..8] from the interpolated LARp[1..8]

-- the three branches, of an absolute value
unfoldable pub from_ratio : ℤ → ℤ
from_ratio temp =
    cond (lt_z temp (pos 11059)) (temp << 1) (cond (lt_z temp (pos 20070)) (add temp (pos 11059)) (add (temp >> 2) (pos 26112)))

-- rp[i] of LARp[i]
unfoldable pub rp : ℤ → ℤ
rp = with_sign from_ratio

-- the rp[1..8] of each sample of a stretch
unfoldable pub stretch : List ℤ → List ℤ → ℕ × (ℤ → ℤ → ℤ) → List (List ℤ)
stretch old new (n, LARp) = replicate n (map rp (zip_with LARp old new))

-- and of each of the 160 samples
unfoldable pub coefficients : List ℤ → List ℤ → List (List ℤ)
coefficients old new = flatten (map (stretch old new) stretches)

-- ---- 4.2.10 Short term analysis filtering

-- section i takes di and sav, and its own rp[i] and u[i − 1]; it gives the next di and sav, and the new u[i − 1]
unfoldable pub section : ℤ × ℤ → ℤ × ℤ → (ℤ × ℤ) × ℤ
section (di, sav) (rpi, u) = ((add di (mult_r rpi u), add u (mult_r rpi di)), sav)

-- one sample through the eight sections: u[0..7], and d[k]
unfoldable pub analysed : List ℤ → List ℤ × ℤ → List ℤ × ℤ
analysed u (rps, s) =
    let t = run section (s, s) (zip rps u) in
    (t.1, t.0.0)
