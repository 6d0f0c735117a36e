-- 4.2.13 to 4.2.18: the RPE encoding section.
use Rattle.std.specs.Prelude.{ℕ, suc, ◌+◌, ◌-◌, ◌*◌, ◌^◌, ◌/◌, cond, ℤ, pos, ◌-ℤ◌, nat_abs, take, drop, replicate, leb}
use mathlib.Core.List.{List, [], ◌∷◌, ◌++◌, map, zip_with, flatten}
use Rattle.std.specs.Int.Signed.{le_z}
use Rattle.std.specs.Int.{w16}
use Rattle.math_lists.specs.First.{first}
use Rattle.math_lists.specs.Best.{best}
use Rattle.math_lists.specs.Tab.{tab}
use Rattle.standard.specs.Arithmetic.{◌>>◌, ◌<<◌, low, shl, shr, add, sub, mult, mult_r, L_add, L_sum, L_squares}
use Rattle.standard.specs.Tables.{◌at◌, H, NRFAC, FAC}
use Rattle.standard.specs.Frame.{Subframe}
use Rattle.standard.specs.LongTerm.{dpp}

-- ---- 4.2.13 Weighting filter

-- x[k] of wt[k], wt[k + 1] ..: eleven taps, rounded, times four, the high word
unfoldable pub filtered : List ℤ → ℤ
filtered wt =
    let L-result = L_sum (pos 8192) wt H in
    let twice = L_add L-result L-result in
    low (L_add twice twice >> 16)

-- x[0..39] of e[0..39], which has five zeros on either side
unfoldable pub weighted : List ℤ → List ℤ
weighted e =
    let zeros = replicate 5 (pos 0) in
    let wt = zeros ++ (e ++ zeros) in
    tab (λ k. filtered (drop k wt)) 0 40

-- ---- 4.2.14 RPE grid selection

-- x[m + 3 · i], for i = 0 to 12
unfoldable pub grid : ℕ → List ℤ → List ℤ
grid m x = tab (λ i. x at (m + 3 * i)) 0 13

-- Mc: the first grid of the greatest energy above 0, or 0
unfoldable pub Mc : List ℤ → ℕ
Mc x = (best (tab (λ m. L_squares 2 (grid m x)) 0 4)).at

-- ---- 4.2.15 APCM quantization of the selected RPE sequence

-- exp: the halvings that bring xmax >> 9 to 0, no more than 6
unfoldable pub exponent : ℤ → ℕ
exponent xmax = first (λ i. le_z (xmax >> (9 + i)) (pos 0)) 6 0

-- xmaxc of xmax
unfoldable pub xmaxc : ℤ → ℤ
xmaxc xmax =
    let exp = exponent xmax in
    add (xmax >> (exp + 5)) (pos exp << 3)

-- exponent and mantissa of the decoded version of xmaxc
pub record Amplitude : Type 0 where
  pub exp : ℤ
  pub mant : ℕ

-- "Normalize mantissa": each step makes mant twice mant and 1, and exp one less, until mant is above 7. After n steps mant is
-- (mant + 1) · 2 ^ n − 1; a mantissa of 0, which the standard treats separately, takes four of them
unfoldable pub mantissa : ℕ → ℕ → Amplitude
mantissa exp mant =
    let n = first (λ n. leb 9 (suc mant * 2 ^ n)) 4 0 in
    record { exp = pos exp -ℤ pos n; mant = suc mant * 2 ^ n - 9 }

-- exponent and mantissa of a code xmaxc
unfoldable pub amplitude : ℤ → Amplitude
amplitude code =
    let c = nat_abs code in
    let exp = cond (leb c 15) 0 (c / 8 - 1) in
    mantissa exp (c - 8 * exp)

-- xMc[0..12] of xM[0..12]
unfoldable pub xMc : Amplitude → List ℤ → List ℤ
xMc a =
    let temp1 = sub (pos 6) a.exp in
    let temp2 = NRFAC at a.mant in
    map (λ xM. add (mult (shl w16 xM temp1) temp2 >> 12) (pos 4))

-- ---- 4.2.16 APCM inverse quantization

-- xMp[0..12] of xMc[0..12]; at exponent 6, 1 << −1 is 0
unfoldable pub xMp : Amplitude → List ℤ → List ℤ
xMp a =
    let temp1 = FAC at a.mant in
    let temp2 = sub (pos 6) a.exp in
    let temp3 = shl w16 (pos 1) (sub temp2 (pos 1)) in
    map (λ xMc. shr w16 (add (mult_r temp1 (sub (xMc << 1) (pos 7) << 12)) temp3) temp2)

-- ---- 4.2.17 RPE grid positioning

-- ep[0..39]: as many zeros as the grid says, then each pulse with two zeros after it
unfoldable pub ep : ℕ → List ℤ → List ℤ
ep m pulses =
    let spread = flatten (map (λ x. x ∷ pos 0 ∷ pos 0 ∷ []) pulses) in
    take 40 (replicate m (pos 0) ++ (spread ++ (pos 0 ∷ [])))

-- ---- 4.2.18 Update of the reconstructed short term residual signal dp[−120..−1]

-- the 40 samples that a sub-frame adds to dp at a lag: the sums of ep and dpp. They are also drp[0..39] in 4.3.2
unfoldable pub reconstructed : ℕ → Subframe → List ℤ → List ℤ
reconstructed lag f dp =
    let pulses = xMp (amplitude f.xmaxc) f.xMc in
    zip_with add (ep (nat_abs f.Mc) pulses) (dpp lag (nat_abs f.bc) dp)

-- dp after 40 new samples: the oldest 40 are dropped
unfoldable pub updated : List ℤ → List ℤ → List ℤ
updated dp new = drop 40 dp ++ new
