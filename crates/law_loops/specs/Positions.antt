-- The standard's loops that copy and position samples. The definitions cut and join lists; at each index they have what the standard stores
-- or reads there. dp[−120] stands at index 0. Where an array has a fixed length, the loop is computed on its entries, whatever they are.
use Rattle.std.specs.Prelude.{ℕ, ◌+◌, ◌-◌, ◌*◌, ◌<◌, ◌≤◌, ◌≡◌, refl, ℤ, pos, length, set, take}
use mathlib.Core.List.{List, ◌++◌, zip_with, flatten}
use Rattle.std.proofs.Common.{arith, get_or-take, get_or-drop}
use Rattle.math_lists.specs.Steps.{steps}
use Rattle.math_lists.specs.Tab.{tab, tab_at_zero}
use Rattle.math_lists.specs.For.{by_both, by_three, tab_each}
use Rattle.standard.specs.Arithmetic.{add, mult_r}
use Rattle.standard.specs.Tables.{◌at◌, QLB}
use Rattle.standard.specs.LongTerm.{back, dpp}
use Rattle.standard.specs.Rpe.{grid, ep, updated}

-- ---- 4.2.11, 4.2.12: dp[k − lag]

module _ (lag : ℕ) (dp : List ℤ) where
  -- the entry for k is dp[k − lag]
  pub back_at : (k : ℕ) → k < 40 → back lag dp at k ≡ dp at (120 - lag + k)
  unfolding back
  back_at k h = rw (get_or-take, get_or-drop)

-- ---- 4.2.14: xM[0..12]

-- xM[i] = x[Mc + 3 · i]
pub grid_at : (m : ℕ) (x : List ℤ) (i : ℕ) → i < 13 → grid m x at i ≡ x at (m + 3 * i)
unfolding grid
grid_at m x i h = tab_at_zero (λ i. x at (m + 3 * i)) 13 i (pos 0) h

-- ---- 4.2.17: ep[0..39]

-- ep[k] = 0
unfoldable pub ep_zero : ℕ → List ℤ → List ℤ
ep_zero k ep = set ep k (pos 0)

-- ep[Mc + 3 · i] = xMp[i]
unfoldable pub ep_turn : ℕ → List ℤ → ℕ → List ℤ → List ℤ
ep_turn Mc xMp i ep = set ep (Mc + 3 * i) (xMp at i)

-- for k = 0 to 39, then for i = 0 to 12: the definition's ep, whatever the array was before
pub ep_loops : (Mc : ℕ) → Mc ≤ 3 → (xMp old : List ℤ) → length xMp ≡ 13 → length old ≡ 40
    → steps (ep_turn Mc xMp) 13 0 (steps ep_zero 40 0 old) ≡ ep Mc xMp
unfolding steps ep_zero ep_turn tab ep flatten
ep_loops Mc h =
    let both : ℕ → List ℤ → List ℤ → List ℤ = λ m xMp old. steps (ep_turn m xMp) 13 0 (steps ep_zero 40 0 old) in
    by_both (λ xMp old. both Mc xMp old ≡ ep Mc xMp) (pos 0) 13 40
    (λ f g. tab_each (λ m. both m (tab f 0 13) (tab g 0 40)) (λ m. ep m (tab f 0 13)) 4 0 refl Mc (omega arith) (omega arith))

-- ---- 4.2.18: dp[−120..−1]

-- dp[−120 + k] = dp[−80 + k]
unfoldable pub dp_shift : ℕ → List ℤ → List ℤ
dp_shift k dp = set dp k (dp at (40 + k))

-- dp[−40 + k] = add( ep[k], dpp[k] )
unfoldable pub dp_turn : List ℤ → List ℤ → ℕ → List ℤ → List ℤ
dp_turn ep dpp k dp = set dp (80 + k) (add (ep at k) (dpp at k))

-- for k = 0 to 79, then for k = 0 to 39: the update by the forty sums
pub dp_loops : (dp ep dpp : List ℤ) → length dp ≡ 120 → length ep ≡ 40 → length dpp ≡ 40
    → steps (dp_turn ep dpp) 40 0 (steps dp_shift 80 0 dp) ≡ updated dp (zip_with add ep dpp)
unfolding steps dp_shift dp_turn tab zip_with updated
dp_loops =
    by_three (λ dp ep dpp. steps (dp_turn ep dpp) 40 0 (steps dp_shift 80 0 dp) ≡ updated dp (zip_with add ep dpp)) (pos 0) 120 40 40
    (λ f g h. refl)

-- ---- 4.3.2: drp[−120..39], of which drp[−120..−1] is kept

-- drpp = mult_r( brp, drp[k − Nr] ), drp[k] = add( erp[k], drpp )
unfoldable pub drp_turn : List ℤ → ℤ → ℕ → ℕ → List ℤ → List ℤ
drp_turn erp brp Nr k drp =
    let drpp = mult_r brp (drp at (120 - Nr + k)) in
    set drp (120 + k) (add (erp at k) drpp)

-- for k = 0 to 39: drp[0..39] are the forty sums, since no lag from 40 to 120 reads what the loop stores
pub drp_loop : (bcr Nr : ℕ) → 40 ≤ Nr → Nr ≤ 120 → (drp old erp : List ℤ) → length drp ≡ 120 → length old ≡ 40 → length erp ≡ 40
    → steps (drp_turn erp (QLB at bcr) Nr) 40 0 (drp ++ old) ≡ drp ++ zip_with add erp (dpp Nr bcr drp)
unfolding steps drp_turn tab zip_with back dpp
drp_loop bcr Nr p q =
    by_three (λ drp old erp. steps (drp_turn erp (QLB at bcr) Nr) 40 0 (drp ++ old) ≡ drp ++ zip_with add erp (dpp Nr bcr drp))
    (pos 0) 120 40 40
    (λ f g h.
    tab_each (λ Nr. steps (drp_turn (tab h 0 40) (QLB at bcr) Nr) 40 0 (tab f 0 120 ++ tab g 0 40))
    (λ Nr. tab f 0 120 ++ zip_with add (tab h 0 40) (dpp Nr bcr (tab f 0 120))) 81 40 refl Nr p (omega arith))

-- for k = 0 to 119, as dp in 4.2.18: the update by the forty
pub drp_shift : (drp new : List ℤ) → length drp ≡ 120 → length new ≡ 40 → take 120 (steps dp_shift 120 0 (drp ++ new)) ≡ updated drp new
unfolding steps dp_shift tab updated
drp_shift = by_both (λ drp new. take 120 (steps dp_shift 120 0 (drp ++ new)) ≡ updated drp new) (pos 0) 120 40 (λ f g. refl)
