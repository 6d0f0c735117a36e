-- The steps in order: the analysis is the definition's, from the state as it was passed; the codes of the ratios are the first
-- eight codewords; the sub-frames read d and the history. What the steps give is put together by the laws of `Whole`.
use mathlib.Core.Path.{◌≡◌, refl, ap, ap₂, ◌∙◌}
use mathlib.Core.List.{List, ◌++◌, map}
use native.Mathlib.Omega.{arith}
use lib.IntN.{ℤ, pos}
use lib.ListN.{length, take, drop, replicate, length-drop}
use Rattle.std.proofs.lemmas.List.{take_all}
use Prim.Native.Nat.{◌≤◌}
use lib.Seq.{take_at}
use mir.Syntax.{w16, w32}
use mir.Val.{SFits}
use borrow.Author.Rules.{rules}
use Rattle.math_integers.specs.Ranges.{back}
use Rattle.math_lists.specs.Parts.{front_back}
use Rattle.standard.specs.Coder.{Coder, analysis}
use Rattle.standard.specs.House.{sound_coder}
use Rattle.law_lengths.specs.Analysis.{analysis_codes_length}
use Rattle.lpc_reflection.specs.Promise.{ended}
use Rattle.frame_analysis.specs.Whole.{coder_of}
use Rattle.encoder.specs.Promise.{coder, mark}
use Rattle.encoder.specs.Subframes.{dp₄, four_words, four_marks, four_added, four_length, four_last}
use Rattle.encoder.specs.Whole.{unseen, with_history, steps_are}
use Rattle.encoder.proofs.frame.Goals as goal
use Rattle.encoder.proofs.frame.Goals.{After-frame-a, After-sub_frames-marks, Start}

-- the state and the samples that it starts from
module _ (s : Start) where
  abbrev c_of : Coder
  c_of = coder s.args.e

  abbrev sop : List ℤ
  sop = s.args.samples.now

  abbrev d-of : List ℤ
  d-of = (analysis (unseen c_of) sop).d

  z1_fits : SFits w16 s.args.e.z1
  z1_fits = search rules

  l_z2_fits : SFits w32 s.args.e.l_z2
  l_z2_fits = search rules

  mp_fits : SFits w16 s.args.e.mp
  mp_fits = search rules

  history : length s.args.e.dp ≡ 120
  history = search rules

-- ---- the steps

pub frame-a-requires : goal.frame-a-requires
unfolding coder sound_coder
frame-a-requires c =
    let s = (goal.at.frame-a-requires c).Start in
    (c.requires.0, (refl, rw (back {w = w16} (z1_fits s), back {w = w32} (l_z2_fits s)) c.requires.1.1))

-- 4.2.0 to 4.2.10
module _ (t : After-frame-a) where
  abbrev start : Start
  start = (goal.at.After-frame-a t).Start

  -- what is kept, the codes, the ending and d are those of the analysis
  analysed_is : let a = analysis (unseen (c_of start)) (sop start) in let r = t.frame-a.result in
      (coder_of r.next ≡ a.next) × ((r.larc ≡ a.LARc) × ((ended r.ending ≡ a.ending) × (t.frame-a.new.signal ≡ a.d)))
  unfolding coder
  analysed_is =
      let e = t.frame-a.ensures in
      let z1 = back {w = w16} (z1_fits start) in
      let l_z2 = back {w = w32} (l_z2_fits start) in
      let mp = back {w = w16} (mp_fits start) in
      let next-is = rw (z1, l_z2, mp) at e.next in
      let larc-is = rw (z1, l_z2, mp) at e.larc in
      let ending-is = rw (z1, l_z2, mp) at e.ending in
      let d-is = rw (z1, l_z2, mp) at e.samples in
      (next-is, (larc-is, (ending-is, d-is)))

  d-is : t.frame-a.new.signal ≡ d-of start
  d-is = analysed_is.1.1.1

  z1_after : SFits w16 t.frame-a.result.next.z1
  z1_after = search rules

  l_z2_after : SFits w32 t.frame-a.result.next.l_z2
  l_z2_after = search rules

  mp_after : SFits w16 t.frame-a.result.next.mp
  mp_after = search rules

-- 4.2.11 to 4.2.18
module _ (q : After-sub_frames-marks) where
  abbrev found : After-frame-a
  found = (goal.at.After-sub_frames-marks q).After-frame-a

  abbrev begun : Start
  begun = start found

  -- the history as the sub-frames read it
  dp_lent : take 120 q.remembered-dp.result ≡ begun.args.e.dp
  dp_lent = ap (take 120) q.remembered-dp.ensures ∙ take_at begun.args.e.dp (replicate 160 (pos 0)) 120 (history begun)

  -- the codes of the ratios in front of the codewords
  larc_lent : (rest : List ℤ) → take 8 (q.copy_from_slice.new.self ++ rest) ≡ q.frame-a.result.larc
  larc_lent rest =
      let l = ap length (analysed_is found).1.0 ∙ analysis_codes_length (unseen (c_of begun)) (sop begun) in
      front_back 8 q.copy_from_slice.ensures.after l rest

  marks_given : map mark q.sub_frames-marks.result ≡ four_marks begun.args.e.dp (d-of begun)
  marks_given = q.sub_frames-marks.ensures.marks ∙ ap₂ four_marks dp_lent (d-is found)

  words_given : q.sub_frames-marks.new.codewords ≡ q.frame-a.result.larc ++ four_words begun.args.e.dp (d-of begun)
  words_given = q.sub_frames-marks.ensures.codewords ∙ ap₂ ◌++◌ (larc_lent _) (ap₂ four_words dp_lent (d-is found))

  -- the last 120 samples of the history and the four sub-frames are kept
  last_kept : take 120 (drop 160 q.sub_frames-marks.new.dp) ≡ dp₄ begun.args.e.dp (d-of begun)
  last_kept =
      let dp = begun.args.e.dp in
      let d = d-of begun in
      let all = q.sub_frames-marks.ensures.history ∙ ap₂ four_added dp_lent (d-is found) in
      let size : length (drop 160 (four_added dp d)) ≤ 120 = rw length-drop (omega (arith, four_length dp d (history begun))) in
      ap (λ y. take 120 (drop 160 y)) all ∙ (take_all 120 _ size ∙ four_last dp d (history begun))

pub returns : goal.returns
unfolding coder
returns c =
    let q = (goal.at.returns c).After-sub_frames-marks in
    let t = found q in
    let s = begun q in
    let m = c_of s in
    let (next_is, (larc-is, (how-is, d-is))) = analysed_is t in
    let (state, (how, (told, written))) = steps_are m (sop s) next_is larc-is how-is refl in record {
      state =
          rw (back {w = w16} (z1_after t), back {w = w32} (l_z2_after t), back {w = w16} (mp_after t))
          (ap (with_history (coder_of t.frame-a.result.next)) (c.last.ensures ∙ last_kept q) ∙ state);
      ending = how;
      marks = marks_given q ∙ told;
      codewords = words_given q ∙ written;
    }
