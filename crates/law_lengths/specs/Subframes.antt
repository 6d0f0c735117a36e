-- 4.2.11 to 4.2.18: the lengths of what is made of a sub-frame, and the range of its lag.
use Rattle.std.specs.Prelude.{ℕ, ◌+◌, ◌*◌, ◌≤◌, min, ◌≡◌, refl, Bool, true, List, [], ◌∷◌, map, ℤ, pos, nat_abs, length}
use Rattle.std.proofs.Common.{◌∙◌, arith, length-append, length-take, length-drop}
use Rattle.std.proofs.lemmas.List.{length-map, length-replicate}
use Rattle.math_lists.specs.Best.{best_within}
use Rattle.math_lists.specs.Tab.{tab_length, zip_length}
use Rattle.math_lists.specs.Scan.{run, run_keeps, run_every}
use Rattle.math_lists.specs.Every.{every, every_all, every_map}
use Rattle.math_lists.specs.Lengths.{sized, sized_yes, flatten_sized}
use Rattle.standard.specs.Arithmetic.{sub}
use Rattle.standard.specs.Frame.{Subframe}
use Rattle.standard.specs.LongTerm.{back, correlations, lag_search, Nc, dpp, residual}
use Rattle.standard.specs.Rpe.{weighted, grid, Amplitude, amplitude, xMc, xMp, ep, reconstructed, updated}
use Rattle.standard.specs.Coder.{sub_coded, sub_step}

-- ---- 4.2.11, 4.2.12 the long term predictor

-- a lag from 40 to 120, for which dp[−120..−1] has 40 samples
pub record Lag (n : ℕ) : Type 0 where
  pub least : 40 ≤ n
  pub most : n ≤ 120

-- there are 40 of them
pub back_length : (lag : ℕ) (dp : List ℤ) → Lag lag → length dp ≡ 120 → length (back lag dp) ≡ 40
unfolding back
back_length lag dp l h = simp (length-take, length-drop) (omega arith)

-- there is a correlation for each lag
pub correlations_length : (d dp : List ℤ) → length (correlations d dp) ≡ 81
unfolding correlations
correlations_length d dp = tab_length _ 40 81

-- the lag that is found is one of them, whatever d and dp are
pub found_lag : (d dp : List ℤ) → Lag (Nc (lag_search d dp))
unfolding lag_search Nc
found_lag d dp =
    let e : length (correlations d dp) ≡ 81 = correlations_length d dp in
    omega (arith, best_within (correlations d dp) (omega arith))

-- there are 40 dpp
pub dpp_length : (lag gain : ℕ) (dp : List ℤ) → Lag lag → length dp ≡ 120 → length (dpp lag gain dp) ≡ 40
unfolding dpp
dpp_length lag gain dp l h = length-map (back lag dp) _ ∙ back_length lag dp l h

-- e has as many as the shorter of d and dpp: 40, where they have
pub residual_length : (d dpp : List ℤ) → length (residual d dpp) ≡ min (length d) (length dpp)
unfolding residual
residual_length = zip_length sub

-- ---- 4.2.13 to 4.2.16 the weighting filter, the grid, its pulses coded and decoded

-- there are 40 x
pub weighted_length : (e : List ℤ) → length (weighted e) ≡ 40
unfolding weighted
weighted_length e = tab_length _ 0 40

-- a grid has thirteen pulses
pub grid_length : (m : ℕ) (x : List ℤ) → length (grid m x) ≡ 13
unfolding grid
grid_length m x = tab_length _ 0 13

-- each pulse is coded
pub xMc_length : (a : Amplitude) (xM : List ℤ) → length (xMc a xM) ≡ length xM
unfolding xMc
xMc_length a xM = length-map xM _

-- and each is decoded
pub xMp_length : (a : Amplitude) (xMc : List ℤ) → length (xMp a xMc) ≡ length xMc
unfolding xMp
xMp_length a xMc = length-map xMc _

-- ---- 4.2.17 grid positioning

-- ep has three samples for each pulse, as many before as the grid says and one after, but 40 at most
pub ep_length : (m : ℕ) (pulses : List ℤ) → length (ep m pulses) ≡ min 40 (m + (length pulses * 3 + 1))
unfolding ep
ep_length m pulses =
    let spread = map (λ x. x ∷ pos 0 ∷ pos 0 ∷ []) pulses in
    let each : every (sized 3) spread ≡ true = rw every_map (every_all _ (λ x. refl) pulses) in
    simp (length-take, length-append, length-replicate, flatten_sized 3 spread each, length-map) (omega arith)

-- so thirteen pulses or more give 40, whatever the grid is
pub ep_forty : (m : ℕ) (pulses : List ℤ) → 13 ≤ length pulses → length (ep m pulses) ≡ 40
ep_forty m pulses h = omega (arith, ep_length m pulses)

-- ---- 4.2.18 update of dp

-- a sub-frame of thirteen pulses adds 40 samples, whatever its grid, gain and amplitude are
pub reconstructed_length : (lag : ℕ) (f : Subframe) (dp : List ℤ)
    → Lag lag → length f.xMc ≡ 13 → length dp ≡ 120 → length (reconstructed lag f dp) ≡ 40
unfolding reconstructed
reconstructed_length lag f dp l p h =
    let pulses = xMp (amplitude f.xmaxc) f.xMc in
    let k : 13 ≤ length pulses = omega (arith, xMp_length (amplitude f.xmaxc) f.xMc) in
    simp zip_length (omega (arith, ep_forty (nat_abs f.Mc) pulses k, dpp_length lag (nat_abs f.bc) dp l h))

-- and dp stays at 120
pub updated_length : (dp new : List ℤ) → length dp ≡ 120 → length new ≡ 40 → length (updated dp new) ≡ 120
unfolding updated
updated_length dp new h k = simp (length-append, length-drop) (omega arith)

-- ---- 4.2.11 to 4.2.18 the whole

module _ (dp d : List ℤ) where
  -- the lag is from 40 to 120, whatever d and dp are
  pub sub_coded_lag : Lag (nat_abs (sub_coded dp d).codes.Nc)
  unfolding sub_coded
  sub_coded_lag = found_lag d dp

  -- and there are thirteen pulses
  pub sub_coded_pulses : length (sub_coded dp d).codes.xMc ≡ 13
  unfolding sub_coded
  sub_coded_pulses = xMc_length _ _ ∙ grid_length _ _

  -- the step gives that sub-frame
  pub sub_step_pulses : length (sub_step dp d).1.codes.xMc ≡ 13
  unfolding sub_step
  sub_step_pulses = sub_coded_pulses

  -- and keeps dp at 120
  pub sub_step_length : length dp ≡ 120 → length (sub_step dp d).0 ≡ 120
  unfolding sub_step
  sub_step_length h =
      let f = (sub_coded dp d).codes in
      updated_length dp _ h (reconstructed_length (nat_abs f.Nc) f dp sub_coded_lag sub_coded_pulses h)

-- the test that a sub-frame has thirteen pulses
abbrev pub full : Subframe → Bool
full f = sized 13 f.xMc

module _ (dp : List ℤ) (ds : List (List ℤ)) where
  -- of any number of sub-frames each has thirteen
  pub sub_steps_full : every (λ s. full s.codes) (run sub_step dp ds).1 ≡ true
  sub_steps_full =
      run_every sub_step (λ s. full s.codes) (λ dp d. sized_yes 13 (sub_step dp d).1.codes.xMc (sub_step_pulses dp d)) dp ds

  -- and dp stays at 120 over all of them
  pub sub_steps_length : length dp ≡ 120 → length (run sub_step dp ds).0 ≡ 120
  sub_steps_length h =
      (run_keeps sub_step (λ dp. length dp ≡ 120) (λ d. true) (λ f. true) (λ dp d k _. (sub_step_length dp d k, refl))
      dp ds h (every_all _ (λ d. refl) ds)).0
