-- One list of 280 holds the history and then the 160 samples of residual. The sub-frames fill it; its last 160 go through the
-- synthesis, and its last 120 are the history of the next frame. The law `whole` puts the steps together.
use mathlib.Core.Path.{◌≡◌, ap, ◌∙◌}
use mathlib.Core.List.{List, ◌++◌, flatten}
use borrow.Author.Rules.{rules}
use lib.IntN.{ℤ, pos}
use lib.ListN.{length, take, replicate}
use lib.Seq.{take_at}
use mir.Syntax.{w16}
use mir.Val.{SFits}
use Rattle.math_integers.specs.Halves.{mem}
use Rattle.math_integers.specs.Ranges.{back}
use Rattle.frame_received.specs.Received.{ratio_words, frame_reconstructed}
use Rattle.frame_received.specs.Frame.{samples_after, history_after}
use Rattle.decoder.specs.Promise.{memory}
use Rattle.decoder.specs.Whole.{whole}
use Rattle.decoder.proofs.frame.Goals as goal
use Rattle.decoder.proofs.frame.Goals.{After-decoded-nrp, Start}

-- the start, from where the sub-frames are done
abbrev start : After-decoded-nrp → Start
start c = (goal.at.After-decoded-nrp c).Start

-- the 160 samples of residual
abbrev wt : Start → List ℤ
wt s = flatten (frame_reconstructed s.args.m.drp s.args.m.nrp s.args.codewords.now).1

-- what is known of the state at the start: its history has 120 samples, its lag and msr are words
module _ (s : Start) where
  history : length s.args.m.drp ≡ 120
  history = search rules

  lag : mem w16 s.args.m.nrp ≡ s.args.m.nrp
  lag = let f : SFits w16 s.args.m.nrp = search rules in back f

  msr-before : mem w16 s.args.m.msr ≡ s.args.m.msr
  msr-before = let f : SFits w16 s.args.m.msr = search rules in back f

module _ (c : After-decoded-nrp) where
  -- the history as the sub-frames read it
  lent : take 120 c.remembered-drp.result ≡ (start c).args.m.drp
  lent =
      let s = start c in
      ap (take 120) c.remembered-drp.ensures ∙ take_at s.args.m.drp (replicate 160 (pos 0)) 120 (history s)

  -- the list once the sub-frames are done holds the history, and these samples
  all : c.decoded-nrp.new.drp ≡ (start c).args.m.drp ++ wt (start c)
  all = rw (lag (start c), lent) at c.decoded-nrp.ensures.samples

  -- the lag that is remembered is the definition's
  lag-after : let a = (start c).args in c.decoded-nrp.result ≡ (frame_reconstructed a.m.drp a.m.nrp a.codewords.now).0.1
  lag-after = rw (lag (start c), lent) at c.decoded-nrp.ensures.lag

pub returns : goal.returns
unfolding memory ratio_words
returns c =
    let d = (goal.at.returns c).After-decoded-nrp in
    let s = start d in
    let drp = s.args.m.drp in
    let nrp = s.args.m.nrp in
    let cw = s.args.codewords.now in
    let l = history s in
    let nrp_fits : SFits w16 c.decoded-nrp.result = search rules in
    let msr_fits : SFits w16 c.frame-msr.result.msr = search rules in
    let kept = rw (all d, history_after drp nrp cw l s.requires.1.1 s.requires.0) at c.last.ensures in
    let larpp = rw c.larc_valid.ensures at c.ratios-larpp.ensures in
    let words = samples_after drp nrp cw l s.requires.1.1 s.requires.0 in
    let v = rw (all d, words, msr-before s) at c.frame-msr.ensures.v in
    let msr = rw (all d, words, msr-before s) at c.frame-msr.ensures.msr in
    let samples = rw (all d, words, msr-before s) at c.frame-msr.ensures.samples in
    let both =
    whole (memory s.args.m) cw _ _ _ _ _ _ kept (back nrp_fits ∙ lag-after d) larpp v (back msr_fits ∙ msr) samples
    in record { state = both.0; samples = both.1 }
