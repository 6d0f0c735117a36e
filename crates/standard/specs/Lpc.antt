-- 4.2.4 to 4.2.7: the LPC analysis section.
use Rattle.std.specs.Prelude.{ℕ, zero, suc, ◌-◌, cond, ℤ, pos, length, take, drop, replicate, eqb}
use mathlib.Core.List.{List, [], ◌∷◌, ◌++◌, map, zip_with, tail}
use Rattle.std.specs.Int.Signed.{lt_z}
use Rattle.std.specs.Int.{w16, w32}
use Rattle.math_lists.specs.Tab.{tab}
use Rattle.standard.specs.Arithmetic.{◌>>◌, ◌<<◌, low, is_zero, up, shl, shr, add, sub, mult, mult_r, abs, div, norm, peak, L_sum}
use Rattle.standard.specs.Tables.{◌at◌, A, B, MIC, MAC}

-- ---- 4.2.4 Autocorrelation

-- the scaling factor
unfoldable pub scalauto : List ℤ → ℤ
scalauto s =
    let smax = peak s in
    cond (is_zero smax) (pos 0) (sub (pos 4) (norm (up w32 smax 16)))

-- f of each sample if the scaling factor is above 0
abbrev pub if_scaled : ℤ → (ℤ → ℤ) → List ℤ → List ℤ
if_scaled scale f s = cond (lt_z (pos 0) scale) (map f s) s

-- the scaling: each sample by mult_r with 16384 >> (scale − 1)
unfoldable pub scaled : ℤ → List ℤ → List ℤ
scaled scale = if_scaled scale (λ x. mult_r x (shr w16 (pos 16384) (sub scale (pos 1))))

-- the rescaling: each sample shifted left by the scale. The shift keeps the low 16 bits: at scale 4 a sample that was from 32760 to 32767
-- before the scaling becomes −32768
unfoldable pub rescaled : ℤ → List ℤ → List ℤ
rescaled scale = if_scaled scale (λ x. shl w16 x scale)

-- L_ACF[0..8]: L_ACF[k] is the sum of s[i] · s[i − k] for i = k to 159
unfoldable pub L_ACF : List ℤ → List ℤ
L_ACF s = tab (λ k. L_sum (pos 0) (drop k s) s) 0 9

-- ---- 4.2.5 Computation of the reflection coefficients

-- how the recursion ended (house rules, 'Endings'). Silent: the first sum is 0, and all eight coefficients are 0. Stopped at step n: r[n]
-- to r[8] are 0. Complete: in all other cases
pub data Ending : Type 0 where
  silent : Ending
  stopped : ℕ → Ending
  complete : Ending

-- the 16 high bits of a long word that was shifted left by n: ACF[k] here, R and S in 4.2.11
unfoldable pub normalized : ℤ → ℤ → ℤ
normalized n x = low (shl w32 x n >> 16)

-- ACF[0..8]
unfoldable pub ACF : List ℤ → List ℤ
ACF L-acf = map (normalized (norm (L-acf at 0))) L-acf

-- r[n] of P[0] and P[1]
unfoldable pub reflection : ℤ → ℤ → ℤ
reflection P0 P1 =
    let r = div (abs P1) P0 in
    cond (lt_z (pos 0) P1) (sub (pos 0) r) r

-- the coefficients that the next n steps measure, from P[0], from P[1], P[2] .. and from K[8], K[7] ..; it stops where P[0] < abs(P[1]).
-- Each step leaves one P less, and one K for each P except the first: the later steps read no more than these
unfoldable pub measured : ℕ → ℤ → List ℤ → List ℤ → List ℤ
measured zero P0 P K = []
measured (suc n) P0 [] K = []
measured (suc n) P0 (P1 ∷ P) K =
    let r = reflection P0 P1 in
    let nextP = zip_with (λ p k. add p (mult_r k r)) P K in
    let nextK = zip_with (λ p k. add k (mult_r p r)) P K in
    let later = measured n (add P0 (mult_r P1 r)) nextP nextK in
    cond (lt_z P0 (abs P1)) [] (r ∷ later)

-- the coefficients measured from L_ACF[0..8]: none where L_ACF[0] is 0. K[9 − i] is ACF[i], for i = 1 to 7
unfoldable pub schur : List ℤ → List ℤ
schur L-acf =
    let acf = ACF L-acf in
    cond (is_zero (L-acf at 0)) [] (measured 8 (acf at 0) (tail acf) (take 7 (tail acf)))

-- the ending, by the first sum and by how many coefficients were measured
unfoldable pub ending : List ℤ → Ending
ending L-acf =
    let n = length (schur L-acf) in
    cond (is_zero (L-acf at 0)) silent (cond (eqb n 8) complete (stopped (suc n)))

-- r[1..8]: those not measured are 0
unfoldable pub r : List ℤ → List ℤ
r L-acf =
    let m = schur L-acf in
    m ++ replicate (8 - length m) (pos 0)

-- ---- 4.2.6 Transformation of reflection coefficients to Log.-Area Ratios

-- f of the absolute value, with the sign put back
unfoldable pub with_sign : (ℤ → ℤ) → ℤ → ℤ
with_sign f x =
    let temp = f (abs x) in
    cond (lt_z x (pos 0)) (sub (pos 0) temp) temp

-- the three branches, of an absolute value
unfoldable pub area_ratio : ℤ → ℤ
area_ratio temp =
    cond (lt_z temp (pos 22118)) (temp >> 1) (cond (lt_z temp (pos 31130)) (sub temp (pos 11059)) (sub temp (pos 26112) << 2))

-- LAR[i] of r[i]
unfoldable pub LAR : ℤ → ℤ
LAR = with_sign area_ratio

-- ---- 4.2.7 Quantization and coding of the Log.-Area Ratios

-- x, or the end of the range from least to most that x lies beyond
unfoldable pub clamped : ℤ → ℤ → ℤ → ℤ
clamped least most x = cond (lt_z most x) most (cond (lt_z x least) least x)

-- LARc[i] of LAR[i]
unfoldable pub LARc : ℕ → ℤ → ℤ
LARc i lar =
    let temp = add (add (mult (A at i) lar) (B at i)) (pos 256) >> 9 in
    sub (clamped (MIC at i) (MAC at i) temp) (MIC at i)

-- LARc[1..8] of r[1..8]
unfoldable pub ratio_codes : List ℤ → List ℤ
ratio_codes rs = tab (λ i. LARc i (LAR (rs at i))) 0 8
