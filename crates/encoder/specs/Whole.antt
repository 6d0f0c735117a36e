-- 4.2, the whole: what a frame of samples is coded as, by the steps in which the code does it.
use Rattle.std.specs.Prelude.{◌≡◌, ℤ, replicate}
use Rattle.std.proofs.Math.Path.{refl}
use Rattle.std.proofs.Math.Option.{Option, some}
use mathlib.Core.List.{List, [], ◌++◌, map, flatten}
use Rattle.math_lists.specs.Scan.{run}
use Rattle.math_lists.specs.Cut.{cut}
use Rattle.standard.specs.Frame.{words}
use Rattle.standard.specs.Lpc.{Ending}
use Rattle.standard.specs.Coder.{Coder, analysis, sub_step, coded, frame}
use Rattle.standard.specs.House.{Mark, mark}
use Rattle.encoder.specs.Subframes.{dp₄, four, four_words, four_marks, run_four}

-- the marks that encode answers
abbrev pub coded_marks : Coder → List ℤ → List (Option Mark)
coded_marks c samples = map (λ s. some (mark s)) (coded c samples).1.subframes

-- the coder with an empty history: the analysis does not use the history
abbrev pub unseen : Coder → Coder
unseen c = record { z1 = c.z1; L_z2 = c.L_z2; mp = c.mp; LARpp = c.LARpp; u = c.u; dp = [] }

-- what is kept after a frame: what the analysis keeps, and a history
abbrev pub with_history : Coder → List ℤ → Coder
with_history n dp = record { z1 = n.z1; L_z2 = n.L_z2; mp = n.mp; LARpp = n.LARpp; u = n.u; dp = dp }

module _ (c : Coder) (sop : List ℤ) where
  -- the analysis, then the sub-frames
  coded_run : let a = analysis (unseen c) sop in let t = run sub_step c.dp (cut (replicate 4 40) a.d) in
      coded c sop ≡ (with_history a.next t.0, record { LARc = a.LARc; ending = a.ending; subframes = t.1 })
  unfolding coded analysis
  coded_run = refl

  module _ {n : Coder} {larc d : List ℤ} {e : Ending}
      (en : n ≡ (analysis (unseen c) sop).next) (el : larc ≡ (analysis (unseen c) sop).LARc) (ee : e ≡ (analysis (unseen c) sop).ending)
      (ed : d ≡ (analysis (unseen c) sop).d) where
    -- the frame, by what the steps give
    coded_is : coded c sop ≡ (with_history n (dp₄ c.dp d), record { LARc = larc; ending = e; subframes = four c.dp d })
    coded_is = rw (coded_run, ← ed, run_four c.dp d, ← en, ← el, ← ee) refl

    -- the state, the ending, the marks and the codewords are those of the steps
    pub steps_are : let t = coded c sop in
        (with_history n (dp₄ c.dp d) ≡ t.0) × ((e ≡ t.1.ending)
        × ((four_marks c.dp d ≡ coded_marks c sop) × (larc ++ four_words c.dp d ≡ words (frame t.1))))
    unfolding words frame flatten
    steps_are = rw coded_is (refl, (refl, (refl, refl)))
