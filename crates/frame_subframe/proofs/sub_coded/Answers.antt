-- The stages in the definition's order, from the lag search to the new samples of the history. The result of each is the definition's,
-- because the result of the stage before is.
use Prim.Native.Nat.{ℕ}
use mathlib.Core.Path.{◌≡◌, sym, ap, ap₂, ◌∙◌}
use mathlib.Core.List.{List, ◌∷◌, ◌++◌, zip_with}
use native.Mathlib.Omega.{arith}
use lib.IntN.{ℤ, pos}
use lib.ListN.{take}
use lib.Signed.{lt_z}
use mir.Syntax.{w16}
use mir.Val.{SFits}
use borrow.Author.Rules.{rules}
use Rattle.math_integers.specs.Halves.{zar}
use Rattle.math_integers.specs.Ranges.{back}
use Rattle.math_lists.specs.Best.{Best}
use Rattle.standard.specs.Arithmetic.{add, peak}
use Rattle.standard.specs.LongTerm.{Nc, dpp, residual}
use Rattle.standard.specs.Rpe.{weighted, Mc, grid}
use Rattle.law_lengths.specs.Subframes.{found_lag}
use Rattle.law_fields.specs.Amplitudes.{peak_in, xmaxc_fits}
use Rattle.law_fields.specs.Pulses.{grid_in}
use Rattle.long_history.specs.Window.{put_last}
use Rattle.frame_subframe.specs.Whole.{block_code, pulse_codes, lag, gain, estimate, e, filtered, added}
use Rattle.frame_subframe.specs.Whole.{search_is, gain_range, codes_are, added_is}
use Rattle.frame_subframe.proofs.sub_coded.Goals as goal
use Rattle.frame_subframe.proofs.sub_coded.Goals.{After-estimate-dpp, After-lag_and_gain-found, After-positioned-ep, After-reconstructed, After-residual-e, After-selected-choice, After-written, Start}

-- the history and the samples that a sub-frame gets
abbrev dp-of : Start → List ℤ
dp-of s = take 120 s.args.dp.now

abbrev d-of : Start → List ℤ
d-of s = s.args.d.now

pub lag_and_gain-found-requires : goal.lag_and_gain-found-requires
lag_and_gain-found-requires c = (c.requires.0, search rules)

-- 4.2.11: the lag and the gain code
module _ (g : After-lag_and_gain-found) where
  abbrev start : Start
  start = (goal.at.After-lag_and_gain-found g).Start

  abbrev dp : List ℤ
  dp = dp-of start

  abbrev d : List ℤ
  d = d-of start

  lag-is : g.lag_and_gain-found.result.search.lag ≡ lag dp d
  lag-is = g.lag_and_gain-found.ensures.lag

  gain_is : g.lag_and_gain-found.result.bc ≡ gain dp d
  gain_is = g.lag_and_gain-found.ensures.bc

pub estimate-dpp-requires : goal.estimate-dpp-requires
estimate-dpp-requires c =
    let g = (goal.at.estimate-dpp-requires c).After-lag_and_gain-found in
    let t = found_lag (d g) (dp g) in
    (search rules, (omega (arith, lag-is g, t.least), omega (arith, lag-is g, t.most)))

-- 4.2.12: the estimate
module _ (p : After-estimate-dpp) where
  abbrev searched : After-lag_and_gain-found
  searched = (goal.at.After-estimate-dpp p).After-lag_and_gain-found

  estimate_is : p.estimate-dpp.result ≡ estimate (dp searched) (d searched)
  estimate_is =
      let f = searched.lag_and_gain-found.result in
      let given : p.estimate-dpp.result ≡ dpp f.search.lag f.bc (dp searched) = p.estimate-dpp.ensures in
      given ∙ ap₂ (λ (l b : ℕ). dpp l b (dp searched)) (lag-is searched) (gain_is searched)

-- 4.2.12: the residual
module _ (q : After-residual-e) where
  abbrev estimated : After-estimate-dpp
  estimated = (goal.at.After-residual-e q).After-estimate-dpp

  abbrev predicted : After-lag_and_gain-found
  predicted = searched estimated

  e_is : q.residual-e.result ≡ e (dp predicted) (d predicted)
  e_is = q.residual-e.ensures ∙ ap (residual (d predicted)) (estimate_is estimated)

-- 4.2.13 to 4.2.15: the weighted residual, and what was selected of it
module _ (k : After-selected-choice) where
  -- the residual, the estimate and the search before it
  abbrev filtering : After-residual-e
  filtering = (goal.at.After-selected-choice k).After-residual-e

  abbrev found : After-lag_and_gain-found
  found = predicted filtering

  abbrev x : List ℤ
  x = filtered (dp found) (d found)

  x-is : k.weighted.result ≡ x
  x-is = k.weighted.ensures ∙ ap weighted (e_is filtering)

  mc_is : k.selected-choice.result.mc ≡ Mc x
  mc_is = k.selected-choice.ensures.mc ∙ ap Mc x-is

  code_is : k.selected-choice.result.xmaxc ≡ block_code x
  code_is = k.selected-choice.ensures.xmaxc ∙ ap block_code x-is

  xmc_is : k.selected-choice.result.xmc ≡ pulse_codes x
  xmc_is = k.selected-choice.ensures.xmc ∙ ap pulse_codes x-is

  -- the lag, the gain code and the amplitude's code are words
  lag_word : SFits w16 (pos found.lag_and_gain-found.result.search.lag)
  lag_word = let t = found_lag (d found) (dp found) in omega (zar, lag-is found, t.most)

  gain_word : SFits w16 (pos found.lag_and_gain-found.result.bc)
  gain_word = omega (zar, gain_is found, gain_range (dp found) (d found))

  code_word : SFits w16 k.selected-choice.result.xmaxc
  code_word = search rules

pub overflow_cast-found : goal.overflow_cast-found
overflow_cast-found c =
    let k = (goal.at.overflow_cast-found c).After-selected-choice in
    let f = lag_word k in
    let g = gain_word k in
    search rules

pub overflow_cast-found-2 : goal.overflow_cast-found-2
overflow_cast-found-2 c =
    let k = (goal.at.overflow_cast-found-2 c).After-selected-choice in
    let f = lag_word k in
    let g = gain_word k in
    search rules

pub written-requires : goal.written-requires
written-requires c =
    let k = (goal.at.written-requires c).After-selected-choice in
    (c.requires.1.1, omega (arith, mc_is k, grid_in (x k)))

-- the codewords, as they were written
module _ (w : After-written) where
  abbrev chosen : After-selected-choice
  chosen = (goal.at.After-written w).After-selected-choice

  stored : let f = (found chosen).lag_and_gain-found.result in
      let q = chosen.selected-choice.result in
      w.written.new.c ≡ pos f.search.lag ∷ pos f.bc ∷ pos q.mc ∷ q.xmaxc ∷ q.xmc
  stored =
      rw (back (lag_word chosen), back (gain_word chosen)) at w.written.ensures

pub inverse-xmp-requires : goal.inverse-xmp-requires
inverse-xmp-requires c =
    let k = (goal.at.inverse-xmp-requires c).After-selected-choice in
    rw (back (code_word k), code_is k) (xmaxc_fits (peak (grid (Mc (x k)) (x k))) (peak_in (grid (Mc (x k)) (x k))))

pub positioned-ep-requires : goal.positioned-ep-requires
positioned-ep-requires c = let k = (goal.at.positioned-ep-requires c).After-selected-choice in omega (arith, mc_is k, grid_in (x k))

-- 4.2.16 to 4.2.18: the decoded pulses, added to the estimate
module _ (r : After-reconstructed) where
  abbrev placed : After-positioned-ep
  placed = (goal.at.After-reconstructed r).After-positioned-ep

  abbrev sent : After-written
  sent = (goal.at.After-reconstructed r).After-written

  abbrev code : After-selected-choice
  code = chosen sent

  new_are : r.reconstructed.new.new ≡ added (dp (found code)) (d (found code))
  new_are =
      let known = estimated (filtering code) in
      let new = r.reconstructed.new.new in
      let given : new ≡ zip_with add placed.positioned-ep.result known.estimate-dpp.result = r.reconstructed.ensures in
      let pulses = rw (back (code_word code)) at placed.inverse-xmp.ensures in
      given
      ∙ added_is (dp (found code)) (d (found code)) (mc_is code) (code_is code) (xmc_is code) pulses placed.positioned-ep.ensures
      (estimate_is known)

pub returns : goal.returns
returns c =
    let r = (goal.at.returns c).After-reconstructed in
    let k = code r in
    let g = found k in
    let s = start g in
    let found-is = sym (search_is (dp g) (d g)) in
    record {
      lag = lag-is g ∙ ap Nc found-is;
      sum = g.lag_and_gain-found.ensures.sum ∙ ap (λ (b : Best). b.sum) found-is;
      positive = g.lag_and_gain-found.ensures.positive ∙ ap (λ (b : Best). lt_z (pos 0) b.sum) found-is;
      codewords = stored (sent r) ∙ codes_are (dp g) (d g) (mc_is k) (code_is k) (xmc_is k) (lag-is g) (gain_is g);
      history = put_last s.args.dp.now _ s.requires.1.0 ∙ ap (dp g ++◌) (new_are r);
    }
