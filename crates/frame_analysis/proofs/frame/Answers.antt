-- The stages in the definition's order. The result of each is the definition's, because the result of the stage before is.
use mathlib.Core.Path.{◌≡◌, sym, ap, ap₂, ◌∙◌}
use mathlib.Core.List.{List, zip}
use lib.IntN.{ℤ}
use lib.ListN.{length}
use mir.Syntax.{w16, w32}
use mir.Val.{SFits, to_z, of_z}
use borrow.Author.Rules.{rules}
use Rattle.math_integers.specs.Ranges.{back}
use Rattle.math_lists.specs.Scan.{run, run_length}
use Rattle.standard.specs.Preprocessing.{offset, emphasis, downscaled}
use Rattle.standard.specs.Lpc.{r, ending, ratio_codes}
use Rattle.standard.specs.ShortTerm.{ratios, coefficients, analysed}
use Rattle.standard.specs.Coder.{Coder}
use Rattle.standard.specs.House.{sound_coder}
use Rattle.law_lengths.specs.Analysis.{downscaled_length, scaled_length, rescaled_length}
use Rattle.pre_processing.specs.Promise.{kept, emphasis_words}
use Rattle.frame_analysis.specs.Whole as whole
use Rattle.frame_analysis.specs.Whole.{coder_of, sums, back_again, next_is, gives}
use Rattle.frame_analysis.proofs.frame.Goals as goal
use Rattle.frame_analysis.proofs.frame.Goals.{After-emphasis-mp, After-filtered-u, After-measured-ending, After-offset-kept, After-ratios-larpp, Start}

-- the state that the filters start from, and the samples
module _ (s : Start) where
  abbrev c_of : Coder
  c_of = coder_of s.args.m

  abbrev sop_of : List ℤ
  sop_of = s.args.sop.now

  -- its numbers fit their types
  z1_fits : SFits w16 s.args.m.z1
  z1_fits = search rules

  l_z2_fits : SFits w32 s.args.m.l_z2
  l_z2_fits = search rules

  mp_fits : SFits w16 s.args.m.mp
  mp_fits = search rules

  -- each stage has 160 samples
  sof_length : length (whole.sof c_of sop_of).1 ≡ 160
  sof_length = run_length offset _ (downscaled sop_of) ∙ (downscaled_length sop_of ∙ s.requires.0)

  s_length : length (whole.s c_of sop_of).1 ≡ 160
  s_length = run_length emphasis _ (whole.sof c_of sop_of).1 ∙ sof_length

  d_length : length (back_again (whole.s c_of sop_of).1) ≡ 160
  d_length = rescaled_length _ _ ∙ (scaled_length _ _ ∙ s_length)

pub offset-kept-requires : goal.offset-kept-requires
unfolding kept sound_coder
offset-kept-requires c =
    let s = (goal.at.offset-kept-requires c).Start in
    (sym s.requires.0, rw (back (z1_fits s), back (l_z2_fits s)) s.requires.1.1)

-- 4.2.1, 4.2.2
module _ (t : After-offset-kept) where
  abbrev start : Start
  start = (goal.at.After-offset-kept t).Start

  offset_state : kept t.offset-kept.result ≡ (whole.sof (c_of start) (sop_of start)).0
  unfolding kept
  offset_state = rw (back (z1_fits start), back (l_z2_fits start)) at t.offset-kept.ensures.state

  offset_samples : t.offset-kept.new.sof ≡ (whole.sof (c_of start) (sop_of start)).1
  unfolding kept
  offset_samples = rw (back (z1_fits start), back (l_z2_fits start)) at t.offset-kept.ensures.samples

  -- the two numbers fit their types, so the state that is kept is the definition's
  z1_after : SFits w16 t.offset-kept.result.z1
  z1_after = search rules

  l_z2_after : SFits w32 t.offset-kept.result.l_z2
  l_z2_after = search rules

  offset_kept : record { z1 = to_z w16 (of_z w16 t.offset-kept.result.z1); L_z2 = to_z w32 (of_z w32 t.offset-kept.result.l_z2) }
      ≡ (whole.sof (c_of start) (sop_of start)).0
  unfolding kept
  offset_kept = rw (back z1_after, back l_z2_after) offset_state

pub emphasis-mp-requires : goal.emphasis-mp-requires
emphasis-mp-requires c =
    let t = (goal.at.emphasis-mp-requires c).After-offset-kept in
    (start t).requires.1.0 ∙ sym (ap length (offset_samples t) ∙ sof_length (start t))

-- 4.2.3
module _ (e : After-emphasis-mp) where
  abbrev filters : After-offset-kept
  filters = (goal.at.After-emphasis-mp e).After-offset-kept

  abbrev first : Start
  first = start filters

  mp_is : e.emphasis-mp.result ≡ (whole.s (c_of first) (sop_of first)).0
  mp_is =
      e.emphasis-mp.ensures.mp
      ∙ ap₂ (λ (mp : ℤ) (xs : List ℤ). (run emphasis mp xs).0) (back (mp_fits first)) (offset_samples filters)

  s_is : e.emphasis-mp.new.s ≡ (whole.s (c_of first) (sop_of first)).1
  s_is =
      e.emphasis-mp.ensures.samples
      ∙ ap₂ (λ (mp : ℤ) (xs : List ℤ). (run emphasis mp xs).1) (back (mp_fits first)) (offset_samples filters)

pub measured-ending-requires : goal.measured-ending-requires
measured-ending-requires c =
    let e = (goal.at.measured-ending-requires c).After-emphasis-mp in
    rw (s_is e) (s_length (first e), emphasis_words (c_of (first e)).mp (whole.sof (c_of (first e)) (sop_of (first e))).1)

-- 4.2.4 to 4.2.7
module _ (t : After-measured-ending) where
  abbrev heard : After-emphasis-mp
  heard = (goal.at.After-measured-ending t).After-emphasis-mp

  abbrev from : Start
  from = first heard

  codes_are : t.measured-ending.result.larc ≡ whole.codes (c_of from) (sop_of from)
  codes_are = t.measured-ending.ensures.larc ∙ ap (λ (s : List ℤ). ratio_codes (r (sums s))) (s_is heard)

  back_is : t.measured-ending.new.s ≡ back_again (whole.s (c_of from) (sop_of from)).1
  back_is = t.measured-ending.ensures.samples ∙ ap back_again (s_is heard)

pub filtered-u-requires : goal.filtered-u-requires
filtered-u-requires c =
    let t = (goal.at.filtered-u-requires c).After-measured-ending in
    ap length (back_is t) ∙ d_length (from t)

-- 4.2.8 to 4.2.10
module _ (n : After-filtered-u) where
  abbrev decoded : After-ratios-larpp
  decoded = (goal.at.After-filtered-u n).After-ratios-larpp

  abbrev coded : After-measured-ending
  coded = (goal.at.After-filtered-u n).After-measured-ending

  abbrev at-start : Start
  at-start = from coded

  new_is : decoded.ratios-larpp.result ≡ ratios (whole.codes (c_of at-start) (sop_of at-start))
  new_is = decoded.ratios-larpp.ensures ∙ ap ratios (codes_are coded)

  -- the lattice, from the old ratios to the new
  abbrev lattice : List ℤ → List ℤ → List ℤ × List ℤ
  lattice new xs = run analysed (c_of at-start).u (zip (coefficients (c_of at-start).LARpp new) xs)

  u_is : n.filtered-u.result ≡ (whole.d (c_of at-start) (sop_of at-start)).0
  u_is =
      let new = decoded.ratios-larpp.result in
      let given : n.filtered-u.result ≡ (lattice new coded.measured-ending.new.s).0 = n.filtered-u.ensures.u in
      given ∙ ap₂ (λ (new xs : List ℤ). (lattice new xs).0) new_is (back_is coded)

  d-is : n.filtered-u.new.s ≡ (whole.d (c_of at-start) (sop_of at-start)).1
  d-is = n.filtered-u.ensures.d ∙ ap₂ (λ (new xs : List ℤ). (lattice new xs).1) new_is (back_is coded)

pub returns : goal.returns
returns c =
    let n = (goal.at.returns c).After-filtered-u in
    let t = coded n in
    let e = heard t in
    let o = filters e in
    let s = at-start n in
    let m = c_of s in
    let sop = sop_of s in
    let (codes-given, ending-given, d-given) = gives m sop in record {
      next = next_is m sop (offset_kept o) (back {w = w16} (record { sfits = c.emphasis-mp.type_inv }) ∙ mp_is e) (new_is n) (u_is n);
      larc = codes_are t ∙ sym codes-given;
      ending = c.measured-ending.ensures.ending ∙ (ap (λ (s : List ℤ). ending (sums s)) (s_is e) ∙ sym ending-given);
      samples = d-is n ∙ sym d-given;
    }
