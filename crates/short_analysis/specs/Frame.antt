-- 4.2.9, 4.2.10 over a frame: each section takes the 160 samples with its own coefficient of the four stretches.
use Rattle.std.specs.Prelude.{ℕ, suc, ◌+◌, ◌<◌, ◌≡◌, refl, true, ℤ, pos, length, get_or, drop, set}
use Rattle.std.proofs.Common.{sym, ap, ◌∙◌, arith, length-drop, length-set}
use mathlib.Core.List.{List, [], ◌∷◌, zip}
use Rattle.math_lists.specs.Scan.{run, Along, along_next}
use Rattle.math_lists.specs.Tab.{tab, tab_length, tab_at_zero, zip_at}
use Rattle.math_lists.specs.For.{tab_same}
use Rattle.math_lists.specs.Every.{every}
use Rattle.math_lists.specs.Lengths.{sized, pairs_length}
use Rattle.standard.specs.Tables.{◌at◌}
use Rattle.standard.specs.ShortTerm.{coefficients, analysed}
use Rattle.law_lengths.specs.Analysis.{coefficients_length, coefficients_sized}
use Rattle.short_ratios.specs.Stretches.{rps, coefficients_are}
use Rattle.short_analysis.specs.Sections.{spread, own, spread_length, stage, stage_length}
use Rattle.short_analysis.specs.Orders.{column, orders}

-- each section's coefficient at each sample, from the coefficients of the four stretches
unfoldable pub columns : List ℤ → List ℤ → List ℤ → List ℤ → List (List ℤ)
columns first second third fourth = tab (λ i. spread (first at i) (second at i) (third at i) (fourth at i)) 0 8

-- paired with the cells they are eight pairs
pub pairs_eight : (first second third fourth u : List ℤ) → length u ≡ 8 → length (zip (columns first second third fourth) u) ≡ 8
unfolding columns
pairs_eight first second third fourth u h = rw (pairs_length, tab_length) (omega arith)

-- and this is the one of section i
pub pairs_at : (first second third fourth u : List ℤ) (i : ℕ) → length u ≡ 8 → i < 8
    → (own first second third fourth i, u at i) ≡ get_or (zip (columns first second third fourth) u) i ([], pos 0)
unfolding columns zip
pairs_at first second third fourth u i h l =
    let f : ℕ → List ℤ = own first second third fourth in
    sym
    (zip_at (λ r v. (r, v)) (tab f 0 8) u i [] (pos 0) ([], pos 0) (rw tab_length l) (omega arith)
    ∙ ap (λ (r : List ℤ). (r, u at i)) (tab_at_zero f 8 i [] l))

-- ---- section after section: sav stands in a list of 161 after the index for a cell, and the next sav in another such list

module _ (first second third fourth u s : List ℤ) where
  -- i sections are done: di is what they give of the samples s, sav stands in p, q is free, and kept has their new cells
  pub record Done (i : ℕ) (di p q kept : List ℤ) : Type 0 where
    pub di_length : length di ≡ 160
    pub p_length : length p ≡ 161
    pub q_length : length q ≡ 161
    pub kept_length : length kept ≡ 8
    pub along : Along (stage 159) (s, s) (zip (columns first second third fourth) u) (di, drop 1 p) i kept

  -- the next section takes sav from p to q, so the two lists are exchanged; its new cell r is kept as r'
  pub done_next : {i : ℕ} {di p q kept rp di' p' q' : List ℤ} {v r r' : ℤ} → Done i di p q kept → length u ≡ 8 → i < 8
      → rp ≡ own first second third fourth i → v ≡ u at i → let t = stage 159 (di, drop 1 p) (rp, v) in
      p' ≡ v ∷ drop 1 p → di' ≡ t.0.0 → q' ≡ q at 0 ∷ t.0.1 → r ≡ t.1 → r' ≡ r → Done (i + 1) di' q' p' (set kept i r')
  done_next {i} {di} {p} h n l e f a b c d k =
      let x : List ℤ × ℤ = (own first second third fourth i, u at i) in
      let b' = rw (e, f) at b in
      let c' = rw (e, f) at c in
      let m : length (drop 1 p) ≡ 160 = rw length-drop (omega (arith, h.p_length)) in
      let (n₀, n₁) = stage_length 159 di (drop 1 p) x.0 x.1 (spread_length _ _ _ _) h.di_length m in
      record {
        di_length = ap length b' ∙ n₀;
        p_length = ap length c' ∙ ap suc n₁;
        q_length = ap length a ∙ ap suc m;
        kept_length = simp length-set h.kept_length;
        along =
            along_next (stage 159) (s, s) (zip (columns first second third fourth) u) ([], pos 0) {x = x} h.along
            (rw (pairs_eight first second third fourth u n) l) (rw h.kept_length l) (pairs_at first second third fourth u i n l)
            (rw (b', c') refl) (k ∙ rw (e, f) at d);
      }

-- ---- the frame

-- the columns are the coefficients of the samples, section by section
column_is : (old new : List ℤ) (i : ℕ)
    → column (coefficients old new) i ≡ own (rps 0 old new) (rps 1 old new) (rps 2 old new) (rps 3 old new) i
unfolding spread
column_is old new i = rw coefficients_are refl

-- a frame is the eight sections, one after the other over all samples
pub frame_is : (u old new s : List ℤ) → length u ≡ 8 → length old ≡ 8 → length new ≡ 8 → length s ≡ 160
    → run analysed u (zip (coefficients old new) s)
    ≡ (let t = run (stage 159) (s, s) (zip (columns (rps 0 old new) (rps 1 old new) (rps 2 old new) (rps 3 old new)) u) in (t.1, t.0.0))
unfolding columns
frame_is u old new s a b c d =
    let e : every (sized (length u)) (coefficients old new) ≡ true = rw a (coefficients_sized old new b c) in
    let k : tab (column (coefficients old new)) 0 8 ≡ tab (own (rps 0 old new) (rps 1 old new) (rps 2 old new) (rps 3 old new)) 0 8 =
    tab_same _ _ 8 0 (λ i _ _. column_is old new i) in
    rw (a, k) at (orders 159 (coefficients old new) u s e (coefficients_length old new) d)
