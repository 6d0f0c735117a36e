-- 4.2.1 to 4.2.10: the lengths of what is made of a frame of samples.
use Rattle.std.specs.Prelude.{ℕ, zero, suc, ◌≤◌, ◌<◌, min, ◌≡◌, refl, Bool, true, false, ◌&&◌, ℤ, pos, leb, eqb, length}
use Rattle.std.proofs.Common.{◌∙◌, arith, length-append, le-leb}
use mathlib.Core.List.{List, [], ◌∷◌, map, zip, zip_with, flatten}
use Rattle.std.proofs.Math.Nat.{suc-le-suc_iff}
use Rattle.std.specs.Int.Signed.{lt_z}
use Rattle.std.proofs.lemmas.List.{length-map, length-replicate}
use Rattle.std.proofs.lemmas.Bool.{eqb-false}
use Rattle.math_lists.specs.First.{by_cond}
use Rattle.math_lists.specs.Tab.{tab_length, zip_length}
use Rattle.math_lists.specs.Scan.{run, run_length, run_keeps}
use Rattle.math_lists.specs.Every.{every, every_all, every_map, every_replicate, every_flatten, every_pairs}
use Rattle.math_lists.specs.Lengths.{sized, sized_yes, sized_length, pairs_length}
use Rattle.standard.specs.Arithmetic.{is_zero, abs}
use Rattle.standard.specs.Tables.{◌at◌}
use Rattle.standard.specs.Preprocessing.{downscaled}
use Rattle.standard.specs.Lpc.{if_scaled, scaled, rescaled, L_ACF, ACF, Ending, silent, stopped, complete, measured, schur, ending, r, ratio_codes}
use Rattle.standard.specs.ShortTerm.{ratios, stretches, rp, stretch, coefficients, section, analysed}
use Rattle.standard.specs.Coder.{Coder, analysis}

-- ---- 4.2.1, 4.2.4 downscaling, scaling, rescaling

-- downscaling gives a sample for each sample
pub downscaled_length : (s : List ℤ) → length (downscaled s) ≡ length s
unfolding downscaled
downscaled_length s = length-map s _

-- so does a step that is done only if the scaling factor is above 0
if_scaled_length : (scale : ℤ) (f : ℤ → ℤ) (s : List ℤ) → length (if_scaled scale f s) ≡ length s
if_scaled_length scale f s = by_cond (λ t. length t ≡ length s) (lt_z (pos 0) scale) (λ h. length-map s f) (λ h. refl)

-- the scaling
pub scaled_length : (scale : ℤ) (s : List ℤ) → length (scaled scale s) ≡ length s
unfolding scaled
scaled_length scale s = if_scaled_length scale _ s

-- and the rescaling
pub rescaled_length : (scale : ℤ) (s : List ℤ) → length (rescaled scale s) ≡ length s
unfolding rescaled
rescaled_length scale s = if_scaled_length scale _ s

-- ---- 4.2.4 to 4.2.8 autocorrelation, reflection coefficients, Log.-Area Ratios

-- there are nine L_ACF
pub L_ACF_length : (s : List ℤ) → length (L_ACF s) ≡ 9
unfolding L_ACF
L_ACF_length s = tab_length _ 0 9

-- and as many ACF
pub ACF_length : (L-acf : List ℤ) → length (ACF L-acf) ≡ length L-acf
unfolding ACF
ACF_length L-acf = length-map L-acf _

-- n steps measure n coefficients at most
pub measured_length : (n : ℕ) (P0 : ℤ) (P K : List ℤ) → length (measured n P0 P K) ≤ n
unfolding measured
measured_length zero P0 P K = omega arith
measured_length (suc n) P0 [] K = omega arith
measured_length (suc n) P0 (P1 ∷ P) K =
    by_cond (λ t. length t ≤ suc n) (lt_z P0 (abs P1)) {x = []} (λ h. omega arith) (λ h. suc-le-suc_iff.1 (measured_length n _ _ _))

-- the recursion measures eight at most
pub schur_length : (L-acf : List ℤ) → length (schur L-acf) ≤ 8
unfolding schur
schur_length L-acf = by_cond (λ t. length t ≤ 8) (is_zero (L-acf at 0)) {x = []} (λ h. omega arith) (λ h. measured_length 8 _ _ _)

-- the test that the number of a stop is from 1 to 8
unfoldable pub step_number : Ending → Bool
step_number silent = true
step_number (stopped n) = leb 1 n && leb n 8
step_number complete = true

-- every ending of the recursion passes it
pub ending_step : (L-acf : List ℤ) → step_number (ending L-acf) ≡ true
unfolding ending step_number
ending_step L-acf =
    let n = length (schur L-acf) in
    let short : eqb n 8 ≡ false → n < 8 = λ e. let d : ¬ (n ≡ 8) = eqb-false n 8 e in omega (arith, schur_length L-acf) in
    by_cond (λ e. step_number e ≡ true) (is_zero (L-acf at 0)) (λ _. refl)
    (λ _. by_cond (λ e. step_number e ≡ true) (eqb n 8) (λ _. refl) (λ e. rw (le-leb 1 (suc n) (omega arith), le-leb (suc n) 8 (short e))))

-- there are eight r, wherever the recursion stopped
pub r_length : (L-acf : List ℤ) → length (r L-acf) ≡ 8
unfolding r
r_length L-acf = simp (length-append, length-replicate) (omega (arith, schur_length L-acf))

-- there are eight LARc
pub ratio_codes_length : (rs : List ℤ) → length (ratio_codes rs) ≡ 8
unfolding ratio_codes
ratio_codes_length rs = tab_length _ 0 8

-- there are eight LARpp
pub ratios_length : (larc : List ℤ) → length (ratios larc) ≡ 8
unfolding ratios
ratios_length larc = tab_length _ 0 8

-- ---- 4.2.9 the coefficients of each sample

-- there are coefficients for each of 160 samples
pub coefficients_length : (old new : List ℤ) → length (coefficients old new) ≡ 160
unfolding coefficients stretches stretch flatten
coefficients_length old new = refl

-- a stretch has eight, where there are eight old ratios and eight new ones
pub stretch_length : (LARp : ℤ → ℤ → ℤ) (old new : List ℤ) → length old ≡ 8 → length new ≡ 8 → length (map rp (zip_with LARp old new)) ≡ 8
stretch_length LARp old new o n = simp (length-map, zip_length) (omega arith)

-- so each sample has eight
pub coefficients_sized : (old new : List ℤ) → length old ≡ 8 → length new ≡ 8 → every (sized 8) (coefficients old new) ≡ true
unfolding coefficients stretch
coefficients_sized old new o n = rw (every_flatten, every_map) (every_all _ each stretches)
  where
    each : (t : ℕ × (ℤ → ℤ → ℤ)) → every (sized 8) (stretch old new t) ≡ true
    each (k, LARp) = every_replicate (sized 8) k _ (sized_yes 8 (map rp (zip_with LARp old new)) (stretch_length LARp old new o n))

-- ---- 4.2.10 short term analysis filtering

-- u keeps its length, where there are as many coefficients
pub analysed_length : (u rps : List ℤ) (s : ℤ) → length (analysed u (rps, s)).0 ≡ min (length rps) (length u)
unfolding analysed
analysed_length u rps s = run_length section (s, s) (zip rps u) ∙ pairs_length rps u

-- so eight stay eight over any number of samples that have eight coefficients each
pub analysed_all_length : (u : List ℤ) (xs : List (List ℤ × ℤ))
    → length u ≡ 8 → every (λ x. sized 8 x.0) xs ≡ true → length (run analysed u xs).0 ≡ 8
analysed_all_length u xs h e =
    (run_keeps analysed (λ v. length v ≡ 8) (λ x. sized 8 x.0) (λ d. true)
    (λ v (rps, s) k f. (omega (arith, analysed_length v rps s, sized_length 8 rps f), refl)) u xs h e).0

-- ---- 4.2.0 to 4.2.10 the whole

module _ (c : Coder) (s : List ℤ) where
  -- there are eight coded ratios, for any coder and any samples
  pub analysis_codes_length : length (analysis c s).LARc ≡ 8
  unfolding analysis
  analysis_codes_length = ratio_codes_length _

  -- and eight decoded ratios, which are kept
  pub analysis_ratios_length : length (analysis c s).next.LARpp ≡ 8
  unfolding analysis
  analysis_ratios_length = ratios_length _

  -- d has a sample for each sample up to 160
  pub analysis_d_length : length (analysis c s).d ≡ min 160 (length s)
  unfolding analysis
  analysis_d_length = simp (run_length, pairs_length, coefficients_length, rescaled_length, scaled_length, downscaled_length)

  -- u keeps eight, for any samples
  pub analysis_u_length : length c.LARpp ≡ 8 → length c.u ≡ 8 → length (analysis c s).next.u ≡ 8
  unfolding analysis
  analysis_u_length h k =
      analysed_all_length c.u _ k (every_pairs (sized 8) _ _ (coefficients_sized c.LARpp _ h (ratios_length _)))
