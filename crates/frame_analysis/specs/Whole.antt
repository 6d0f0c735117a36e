-- A frame's analysis put together from its stages, in the definition's order.
use Rattle.std.specs.Prelude.{◌≡◌, ℤ}
use Rattle.std.proofs.Math.Path.{refl}
use mathlib.Core.List.{List, [], zip}
use Rattle.math_lists.specs.Scan.{run}
use Rattle.standard.specs.Preprocessing.{downscaled, Offset, offset, emphasis}
use Rattle.standard.specs.Lpc.{scalauto, scaled, rescaled, L_ACF, r, ending, ratio_codes}
use Rattle.standard.specs.ShortTerm.{ratios, coefficients, analysed}
use Rattle.standard.specs.Coder.{Coder, analysis}
use Rattle.frame_analysis.specs.declared.Filters.{Filters}

-- 4.2.4: the nine sums of the scaled samples
abbrev pub sums : List ℤ → List ℤ
sums s = L_ACF (scaled (scalauto s) s)

-- the samples, scaled and scaled back
abbrev pub back_again : List ℤ → List ℤ
back_again s = rescaled (scalauto s) (scaled (scalauto s) s)

-- the definition's state for the filters' state. The analysis neither reads nor changes the history, so dp is empty here
abbrev pub coder_of : Filters → Coder
coder_of m = record { z1 = m.z1; L_z2 = m.l_z2; mp = m.mp; LARpp = m.larpp; u = m.u; dp = [] }

module _ (m : Coder) (sop : List ℤ) where
  -- 4.2.1, 4.2.2
  abbrev pub sof : Offset × List ℤ
  sof = run offset (record { z1 = m.z1; L_z2 = m.L_z2 }) (downscaled sop)

  -- 4.2.3
  abbrev pub s : ℤ × List ℤ
  s = run emphasis m.mp sof.1

  -- 4.2.4 to 4.2.7
  abbrev pub codes : List ℤ
  codes = ratio_codes (r (sums s.1))

  -- 4.2.8 to 4.2.10
  abbrev pub d : List ℤ × List ℤ
  d = run analysed m.u (zip (coefficients m.LARpp (ratios codes)) (back_again s.1))

  -- the definition keeps these
  pub next_is : {o : Offset} {mp : ℤ} {larpp u : List ℤ} → o ≡ sof.0 → mp ≡ s.0 → larpp ≡ ratios codes → u ≡ d.0
      → record { z1 = o.z1; L_z2 = o.L_z2; mp = mp; LARpp = larpp; u = u; dp = m.dp } ≡ (analysis m sop).next
  unfolding analysis
  next_is eo em el eu = rw (eo, em, el, eu) refl

  -- and gives these
  pub gives : ((analysis m sop).LARc ≡ codes) × ((analysis m sop).ending ≡ ending (sums s.1)) × ((analysis m sop).d ≡ d.1)
  unfolding analysis
  gives = (refl, refl, refl)
