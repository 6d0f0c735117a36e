-- 4.2.11 and 4.2.12: the long term predictor section. dp is dp[−120..−1], the oldest first; d is d[0..39].
use Rattle.std.specs.Prelude.{ℕ, ◌+◌, ◌-◌, Bool, cond, ℤ, pos, take, drop}
use mathlib.Core.List.{List, map, zip_with}
use Rattle.std.specs.Int.Signed.{lt_z, le_z}
use Rattle.std.specs.Int.{w16, w32}
use Rattle.math_lists.specs.First.{first}
use Rattle.math_lists.specs.Best.{Best, best}
use Rattle.math_lists.specs.Tab.{tab}
use Rattle.standard.specs.Arithmetic.{is_zero, within, up, shr, sub, mult, mult_r, norm, peak, L_sum, L_squares}
use Rattle.standard.specs.Tables.{◌at◌, DLB, QLB}
use Rattle.standard.specs.Lpc.{normalized}

-- a lag that the predictor can have
abbrev pub is_lag : ℤ → Bool
is_lag = within (pos 40) (pos 120)

-- the 40 samples dp[k − lag], for k = 0 to 39
unfoldable pub back : ℕ → List ℤ → List ℤ
back lag dp = take 40 (drop (120 - lag) dp)

-- ---- 4.2.11 Calculation of the LTP parameters

-- the scaling of d[0..39]; as in the standard, it is 6 where dmax is 0
unfoldable pub scal : List ℤ → ℤ
scal d =
    let dmax = peak d in
    let temp = cond (is_zero dmax) (pos 0) (norm (up w32 dmax 16)) in
    cond (lt_z (pos 6) temp) (pos 0) (sub (pos 6) temp)

-- the cross-correlation at each lag from 40 to 120
unfoldable pub correlations : List ℤ → List ℤ → List ℤ
correlations d dp =
    let n = scal d in
    let wt = map (λ x. shr w16 x n) d in
    tab (λ lag. L_sum (pos 0) wt (back lag dp)) 40 81

-- the smallest lag of the greatest correlation above 0, or 40; and L_max before its rescaling
unfoldable pub lag_search : List ℤ → List ℤ → Best
lag_search d dp = best (correlations d dp)

unfoldable pub Nc : Best → ℕ
Nc b = 40 + b.at

-- the power of the reconstructed signal at the lag
unfoldable pub L_power : ℕ → List ℤ → ℤ
L_power lag dp = L_squares 3 (back lag dp)

-- the first level that R does not exceed, or 3
unfoldable pub gain_level : ℤ → ℤ → ℕ
gain_level R S = first (λ bc. le_z R (mult S (DLB at bc))) 3 0

-- bc of L_max and L_power
unfoldable pub bc : ℤ → ℤ → ℕ
bc L_max L_pow =
    let temp = norm L_pow in
    let level = gain_level (normalized temp L_max) (normalized temp L_pow) in
    cond (le_z L_max (pos 0)) 0 (cond (le_z L_pow L_max) 3 level)

-- ---- 4.2.12 Long term analysis filtering

-- dpp[0..39]
unfoldable pub dpp : ℕ → ℕ → List ℤ → List ℤ
dpp lag gain dp = map (mult_r (QLB at gain)) (back lag dp)

-- e[0..39]
unfoldable pub residual : List ℤ → List ℤ → List ℤ
residual = zip_with sub
