-- The standard's inner loops over arrays by index: the autocorrelation, the weighting filter, the coefficients of each sample.
use Rattle.std.specs.Prelude.{ℕ, ◌+◌, ◌-◌, ◌<◌, ◌≤◌, ◌≡◌, refl, cond, leb, ℤ, pos, length, get_or, set, drop, replicate}
use Rattle.std.proofs.Common.{sym, ap, ◌∙◌, zero-add, arith, length-append, length-drop, get_or-drop}
use mathlib.Core.List.{List, [], ◌++◌, map, zip_with, flatten}
use Rattle.math_lists.specs.Steps.{steps}
use Rattle.math_lists.specs.Tab.{tab, tab_at_zero, map_at, zip_at, zip_length}
use Rattle.math_lists.specs.For.{by_both}
use Rattle.standard.specs.Arithmetic.{◌>>◌, low, add, L_add, L_mult}
use Rattle.standard.specs.Tables.{◌at◌, H}
use Rattle.standard.specs.Lpc.{L_ACF}
use Rattle.standard.specs.ShortTerm.{stretches, stretch, coefficients, rp}
use Rattle.standard.specs.Rpe.{filtered, weighted}
use Rattle.law_loops.specs.Sums.{sum_loop}

-- ---- 4.2.4: L_ACF[k]

-- iteration i
unfoldable pub L_ACF_turn : List ℤ → ℕ → ℕ → ℤ → ℤ
L_ACF_turn s k i L-acf = L_add L-acf (L_mult (s at i) (s at (i - k)))

-- from L_ACF[k] = 0 on, for i = k to 159, it gives the definition's entry
pub L_ACF_loop : (s : List ℤ) (k : ℕ) → length s ≡ 160 → k ≤ 8 → steps (L_ACF_turn s k) (160 - k) k (pos 0) ≡ L_ACF s at k
unfolding L_ACF_turn L_ACF
L_ACF_loop s k l h =
    sum_loop (λ i. L_mult (s at i) (s at (i - k))) (160 - k) k (pos 0) (drop k s) s (rw (length-drop k s, l) (omega arith))
    (λ j g. let e : k + j - k ≡ j = omega arith in rw (e, get_or-drop k s j (pos 0)))
    ∙ sym (tab_at_zero _ 9 k (pos 0) (omega arith))

-- ---- 4.2.13: wt[0..49] and x[k]

-- wt[k] = 0
unfoldable pub wt_zero : ℕ → List ℤ → List ℤ
wt_zero k wt = set wt k (pos 0)

-- wt[k] = e[k − 5]
unfoldable pub wt_copy : List ℤ → ℕ → List ℤ → List ℤ
wt_copy e k wt = set wt k (e at (k - 5))

-- "Initialization of a temporary working array": for k = 0 to 4, for k = 5 to 44, for k = 45 to 49
unfoldable pub wt_loops : List ℤ → List ℤ → List ℤ
wt_loops e wt = steps wt_zero 5 45 (steps (wt_copy e) 40 5 (steps wt_zero 5 0 wt))

-- iteration i of x[k]
unfoldable pub x_turn : List ℤ → ℕ → ℕ → ℤ → ℤ
x_turn wt k i L-result = L_add L-result (L_mult (wt at (k + i)) (H at i))

-- x[k] from L_result: twice "scaling (x2)", and the high word
unfoldable pub x_of : ℤ → ℤ
x_of L-result =
    let twice = L_add L-result L-result in
    low (L_add twice twice >> 16)

-- wt is e with five zeros on either side, whatever it was before
wt_is : (e wt : List ℤ) → length e ≡ 40 → length wt ≡ 50 → wt_loops e wt ≡ replicate 5 (pos 0) ++ (e ++ replicate 5 (pos 0))
unfolding wt_loops wt_zero wt_copy steps tab
wt_is = by_both (λ e wt. wt_loops e wt ≡ replicate 5 (pos 0) ++ (e ++ replicate 5 (pos 0))) (pos 0) 40 50 (λ f g. refl)

-- there are eleven taps
taps : length H ≡ 11
unfolding H
taps = refl

-- from L_result = 8192 on, for i = 0 to 10, it gives the definition's x[k]
pub x_loop : (e wt : List ℤ) (k : ℕ) → length e ≡ 40 → length wt ≡ 50 → k < 40
    → x_of (steps (x_turn (wt_loops e wt) k) 11 0 (pos 8192)) ≡ weighted e at k
unfolding x_turn x_of weighted filtered
x_loop e wt k p q h =
    let w = replicate 5 (pos 0) ++ (e ++ replicate 5 (pos 0)) in
    let n : length w ≡ 50 = omega (arith, length-append e (replicate 5 (pos 0))) in
    let sum = sum_loop (λ i. L_mult (w at (k + i)) (H at i)) 11 0 (pos 8192) (drop k w) H (omega (arith, length-drop k w, taps))
    (λ i g. rw (zero-add, get_or-drop k w i (pos 0))) in
    rw (wt_is e wt p q) (ap x_of sum ∙ sym (tab_at_zero (λ k. filtered (drop k w)) 40 k (pos 0) h))

-- ---- 4.2.9: rp[i] at sample k

-- LARp[i] of LARpp(j − 1)[i] and LARpp(j)[i], for k_start = 0 to k_end = 12, for 13 to 26, for 27 to 39 and for 40 to 159
unfoldable pub LARp : ℕ → ℤ → ℤ → ℤ
LARp k old new =
    cond (leb k 12) (add (add (old >> 2) (new >> 2)) (old >> 1))
    (cond (leb k 26) (add (old >> 1) (new >> 1)) (cond (leb k 39) (add (add (old >> 2) (new >> 2)) (new >> 1)) new))

-- computed for the 160 samples
all_samples : (old new : List ℤ) → coefficients old new ≡ tab (λ k. map rp (zip_with (LARp k) old new)) 0 160
unfolding coefficients stretches stretch flatten tab LARp
all_samples old new = refl

-- coefficient i at sample k is that of the stretch that k lies in
pub coefficients_at : (old new : List ℤ) (k i : ℕ) → length old ≡ 8 → length new ≡ 8 → k < 160 → i < 8
    → get_or (coefficients old new) k [] at i ≡ rp (LARp k (old at i) (new at i))
coefficients_at old new k i p q h g =
    rw (all_samples old new, tab_at_zero (λ k. map rp (zip_with (LARp k) old new)) 160 k [] h)
    (map_at rp (zip_with (LARp k) old new) i (pos 0) (pos 0) (rw (zip_length (LARp k) old new, p, q) g)
    ∙ ap rp (zip_at (LARp k) old new i (pos 0) (pos 0) (pos 0) (omega arith) (omega arith)))
