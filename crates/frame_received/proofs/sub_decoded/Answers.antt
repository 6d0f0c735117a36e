-- The received fields fit their widths, so every index and the lag are in range. Each step gives the definition's value, and `sub_steps`
-- puts them together.
use mathlib.Core.Path.{◌≡◌, ap, ◌∙◌}
use mathlib.Core.List.{◌++◌}
use native.Mathlib.Omega.{arith}
use borrow.Author.Rules.{rules}
use lib.ListN.{length, take, drop, length-drop}
use lib.Seq.{take_all}
use mir.Syntax.{w16}
use mir.Val.{SFits}
use Rattle.math_integers.specs.Halves.{P}
use Rattle.math_integers.specs.Ranges.{back, res}
use Rattle.standard.specs.Tables.{◌at◌}
use Rattle.standard.specs.Frame.{sub_widths}
use Rattle.standard.specs.Decoder.{Nr}
use Rattle.law_lengths.specs.Decoding.{Nr_range}
use Rattle.law_fields.specs.Fit.{fit_is}
use Rattle.long_history.specs.Window.{put_last}
use Rattle.frame_received.specs.Sub.{field_fit, lag_place, sub_steps}
use Rattle.frame_received.proofs.sub_decoded.Goals as goal
use Rattle.frame_received.proofs.sub_decoded.Goals.{After-place_of, After-place_of-2, After-used_lag-lag}

pub inverse-xmp-requires : goal.inverse-xmp-requires
unfolding sub_widths
inverse-xmp-requires c =
    let f : SFits w16 (c.sub_valid-v.result at 3) = search rules in
    rw (back f, c.sub_valid-v.ensures) (field_fit c.args.c.now 3 c.requires.0 (omega arith))

-- the grid, as an index
grid : (c : After-place_of) → c.place_of.result ≡ P (c.sub_valid-v.result at 2)
grid c =
    let f : SFits w16 (c.sub_valid-v.result at 2) = search rules in
    c.place_of.ensures ∙ ap P (back f)

pub positioned-ep-requires : goal.positioned-ep-requires
unfolding sub_widths
positioned-ep-requires c =
    rw (grid c, c.sub_valid-v.ensures) (omega (arith, fit_is 2 _ (field_fit c.args.c.now 2 c.requires.0 (omega arith))))

-- the lag in use
lag : (c : After-used_lag-lag) → c.used_lag-lag.result ≡ Nr c.args.nrp (c.sub_valid-v.result at 0)
lag c =
    let f : SFits w16 (c.sub_valid-v.result at 0) = search rules in
    rw (back f, back c.ranges.nrp) at c.used_lag-lag.ensures

-- the same, as an index
lag-at : (c : After-place_of-2) → c.place_of-2.result ≡ P c.used_lag-lag.result
lag-at c = c.place_of-2.ensures ∙ ap P (res c.used_lag-lag)

pub estimate-dpp-requires : goal.estimate-dpp-requires
estimate-dpp-requires c =
    let at-c = goal.at.estimate-dpp-requires c in
    let l = at-c.After-place_of-2 in
    let u = at-c.After-used_lag-lag in
    let in-range = Nr_range c.args.nrp (c.sub_valid-v.result at 0) c.requires.1.1 in
    let t = (lag_place c.used_lag-lag.result (rw (lag u) in-range)).1 in
    (search rules, rw (lag-at l) (t.least, t.most))

pub returns : goal.returns
returns c =
    let at-c = goal.at.returns c in
    let l = at-c.After-place_of-2 in
    let u = at-c.After-used_lag-lag in
    let o = at-c.After-place_of in
    let v = c.sub_valid-v in
    let amp : SFits w16 (v.result at 3) = search rules in
    let gain : SFits w16 (v.result at 1) = search rules in
    let long : length v.result ≡ 17 = search rules in
    let pulses = c.copy_from_slice.ensures.after ∙ take_all 13 (drop 4 v.result) (rw length-drop (omega arith)) in
    let xmp = rw (back amp, pulses) at c.inverse-xmp.ensures in
    let ep = rw (grid o) at c.positioned-ep.ensures in
    let dpp = rw (lag-at l, c.place_of-3.ensures, back gain) at c.estimate-dpp.ensures in
    let drp = c.args.drp.now in
    let t = sub_steps (take 120 drp) c.args.nrp c.args.c.now _ _ _ _ _ _ c.requires.0 c.requires.1.1
    v.ensures (lag u) xmp ep dpp c.reconstructed.ensures in
    record {
      lag = res c.used_lag-lag ∙ t.0;
      samples = put_last drp _ c.requires.1.0 ∙ ap (take 120 drp ++◌) t.1;
    }
