-- The standard's searches, iteration by iteration: a maximum, the lag, the gain, the grid.
use Rattle.std.specs.Prelude.{ℕ, ◌+◌, ◌-◌, ◌*◌, ◌≤◌, ◌≡◌, refl, cond, ℤ, pos, length}
use Rattle.std.proofs.Common.{sym, ap, ◌∙◌, zero-add, arith}
use mathlib.Core.List.{List, map, foldl-map}
use Rattle.std.proofs.lemmas.List.{length-map}
use Rattle.std.specs.Int.Signed.{lt_z, le_z}
use Rattle.std.specs.Int.{w16}
use Rattle.math_lists.specs.First.{first}
use Rattle.math_lists.specs.Steps.{steps, steps_fold}
use Rattle.math_lists.specs.Tab.{tab}
use Rattle.math_lists.specs.Best.{largest, best}
use Rattle.math_lists.specs.For.{tab_same, steps_best}
use Rattle.standard.specs.Arithmetic.{◌>>◌, shr, abs, mult, L_add, L_mult, L_sum, L_squares, peak}
use Rattle.standard.specs.Tables.{◌at◌, DLB}
use Rattle.standard.specs.LongTerm.{back, scal, correlations, lag_search, Nc, L_power, gain_level}
use Rattle.standard.specs.Rpe.{grid, Mc}
use Rattle.law_loops.specs.Sums.{sum_loop_turned, squares_loop}
use Rattle.law_lengths.specs.Subframes.{back_length}
use Rattle.law_loops.specs.Positions.{back_at, grid_at}

-- ---- 4.2.4, 4.2.11, 4.2.15: smax, dmax, xmax

-- iteration k of "Search for the maximum"
unfoldable pub smax_turn : List ℤ → ℕ → ℤ → ℤ
smax_turn s k smax =
    let temp = abs (s at k) in
    cond (lt_z smax temp) temp smax

-- from smax = 0 on, it finds the largest absolute value
pub smax_loop : (s : List ℤ) → steps (smax_turn s) (length s) 0 (pos 0) ≡ peak s
unfolding smax_turn peak largest
smax_loop s = steps_fold (λ smax x. cond (lt_z smax (abs x)) (abs x) smax) s (pos 0) (pos 0) ∙ sym (foldl-map abs _ s (pos 0))

-- ---- 4.2.11: Nc and L_max. dp[k − lambda] stands at index 120 − lambda + k

-- the inner loop: L_result at lambda
unfoldable pub correlation : List ℤ → List ℤ → ℕ → ℤ
correlation wt dp lambda = steps (λ k L-result. L_add (L_mult (wt at k) (dp at (120 - lambda + k))) L-result) 40 0 (pos 0)

-- iteration lambda
unfoldable pub Nc_turn : List ℤ → List ℤ → ℕ → ℕ × ℤ → ℕ × ℤ
Nc_turn wt dp lambda (Nc, L_max) =
    let L-result = correlation wt dp lambda in
    cond (lt_z L_max L-result) (lambda, L-result) (Nc, L_max)

-- L_result is the correlation of the definition
correlation_is : (wt dp : List ℤ) (lambda : ℕ)
    → length wt ≡ 40 → length dp ≡ 120 → 40 ≤ lambda → lambda ≤ 120 → correlation wt dp lambda ≡ L_sum (pos 0) wt (back lambda dp)
unfolding correlation
correlation_is wt dp lambda p q g h =
    sum_loop_turned _ 40 0 (pos 0) wt (back lambda dp) (rw (back_length lambda dp (record { least = g; most = h }) q) (omega arith))
    (λ k l. rw (zero-add, back_at lambda dp k l))

-- from Nc = 40 and L_max = 0 on, for lambda = 40 to 120, it finds the lag and its sum
pub Nc_loop : (d dp : List ℤ) → length d ≡ 40 → length dp ≡ 120
    → steps (Nc_turn (map (λ x. shr w16 x (scal d)) d) dp) 81 40 (40, pos 0) ≡ (Nc (lag_search d dp), (lag_search d dp).sum)
unfolding Nc_turn Nc lag_search correlations
Nc_loop d dp p q =
    let wt = map (λ x. shr w16 x (scal d)) d in
    let same = tab_same (correlation wt dp) (λ lag. L_sum (pos 0) wt (back lag dp)) 81 40
    (λ k g h. correlation_is wt dp k (length-map d _ ∙ p) q g (omega arith)) in
    rw (← same) (steps_best (correlation wt dp) 81 40)

-- ---- 4.2.11: L_power

-- iteration k
unfoldable pub L_power_turn : List ℤ → ℕ → ℕ → ℤ → ℤ
L_power_turn dp Nc k L_power =
    let wt = dp at (120 - Nc + k) >> 3 in
    L_add (L_mult wt wt) L_power

-- from L_power = 0 on, for k = 0 to 39
pub L_power_loop : (dp : List ℤ) (Nc : ℕ) → 40 ≤ Nc → Nc ≤ 120 → length dp ≡ 120 → steps (L_power_turn dp Nc) 40 0 (pos 0) ≡ L_power Nc dp
unfolding L_power_turn L_power
L_power_loop dp Nc p q l =
    let n = back_length Nc dp (record { least = p; most = q }) l in
    rw n at (squares_loop (λ k. dp at (120 - Nc + k)) 3 (back Nc dp) (λ k h. sym (back_at Nc dp k (omega arith))))

-- ---- 4.2.11: bc

-- iteration bc of "Coding of the LTP gain": EXIT with bc, or the next iteration
unfoldable pub bc_turn : ℤ → ℤ → ℕ → ℕ → ℕ
bc_turn R S bc next = cond (le_z R (mult S (DLB at bc))) bc next

-- for bc = 0 to 2, and then bc = 3
pub bc_loop : (R S : ℤ) → bc_turn R S 0 (bc_turn R S 1 (bc_turn R S 2 3)) ≡ gain_level R S
unfolding bc_turn gain_level first
bc_loop R S = refl

-- ---- 4.2.14: Mc and EM

-- the inner loop: L_result of grid m
unfoldable pub grid_energy : List ℤ → ℕ → ℤ
grid_energy x m =
    let temp1 : ℕ → ℤ = λ i. x at (m + 3 * i) >> 2 in
    steps (λ i L-result. L_add (L_mult (temp1 i) (temp1 i)) L-result) 13 0 (pos 0)

-- iteration m
unfoldable pub Mc_turn : List ℤ → ℕ → ℕ × ℤ → ℕ × ℤ
Mc_turn x m (Mc, EM) =
    let L-result = grid_energy x m in
    cond (lt_z EM L-result) (m, L-result) (Mc, EM)

-- L_result is that of the definition
grid_energy_is : (x : List ℤ) (m : ℕ) → grid_energy x m ≡ L_squares 2 (grid m x)
unfolding grid_energy grid tab
grid_energy_is x m = squares_loop (λ i. x at (m + 3 * i)) 2 (grid m x) (λ i h. sym (grid_at m x i h))

-- from Mc = 0 and EM = 0 on, for m = 0 to 3, it finds the grid
pub Mc_loop : (x : List ℤ) → (steps (Mc_turn x) 4 0 (0, pos 0)).0 ≡ Mc x
unfolding Mc_turn Mc
Mc_loop x =
    let same = tab_same (grid_energy x) (λ m. L_squares 2 (grid m x)) 4 0 (λ k g h. grid_energy_is x k) in
    ap (λ (b : ℕ × ℤ). b.0) (steps_best (grid_energy x) 4 0) ∙ (zero-add _ ∙ ap (λ (t : List ℤ). (best t).at) same)
