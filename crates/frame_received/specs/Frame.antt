-- 4.3.2: the four sub-frames of a frame, and what they add to the history that the frame started from: 160 reconstructed samples. The last
-- 120 are the next frame's history.
use Rattle.std.specs.Prelude.{◌≡◌, true, ℕ, ◌+◌, ◌≤◌, ℤ, length, take, drop}
use Rattle.std.proofs.Math.Path.{refl}
use mathlib.Core.List.{List, ◌++◌, append_assoc, append-nil, flatten}
use Rattle.std.proofs.Common.{le_of_eq, arith, length-take, length-drop, length-append, take_all, drop_at}
use Rattle.math_lists.specs.Scan.{run}
use Rattle.standard.specs.Frame.{Subframe, places}
use Rattle.standard.specs.LongTerm.{is_lag}
use Rattle.standard.specs.Decoder.{sub_decoded}
use Rattle.law_lengths.specs.Subframes.{full}
use Rattle.law_lengths.specs.Decoding.{sub_decoded_range}
use Rattle.long_history.specs.Window.{Grown, grown_start}
use Rattle.frame_received.specs.Received.{sub_frame, sub_frame_full, sub_frames, frame_reconstructed}
use Rattle.frame_received.specs.Turn.{grown}

module _ (drp : List ℤ) (nrp : ℤ) (c : List ℤ) where
  -- the sub-frame that starts at codeword p
  abbrev pub at : ℕ → Subframe
  at p = sub_frame (take 17 (drop p c))

  -- the history and the lag after each
  abbrev pub after₁ : List ℤ × ℤ
  after₁ = (sub_decoded (drp, nrp) (at 8)).0

  abbrev pub after₂ : List ℤ × ℤ
  after₂ = (sub_decoded after₁ (at 25)).0

  abbrev pub after₃ : List ℤ × ℤ
  after₃ = (sub_decoded after₂ (at 42)).0

  -- the history, and what they add to it one after the other
  abbrev pub added₁ : List ℤ
  added₁ = drp ++ (sub_decoded (drp, nrp) (at 8)).1

  abbrev pub added₂ : List ℤ
  added₂ = added₁ ++ (sub_decoded after₁ (at 25)).1

  abbrev pub added₃ : List ℤ
  added₃ = added₂ ++ (sub_decoded after₂ (at 42)).1

  abbrev pub added₄ : List ℤ
  added₄ = added₃ ++ (sub_decoded after₃ (at 59)).1

  -- the definition's run over the four gives these
  pub run_after : (frame_reconstructed drp nrp c).0 ≡ (sub_decoded after₃ (at 59)).0
  unfolding frame_reconstructed sub_frames places run
  run_after = refl

  pub run_added : drp ++ flatten (frame_reconstructed drp nrp c).1 ≡ added₄
  unfolding frame_reconstructed sub_frames places run flatten
  run_added = simp (append_assoc, append-nil)

  -- each has thirteen pulses
  pub at_full : length c ≡ 76 → (p : ℕ) → p + 17 ≤ 76 → full (at p) ≡ true
  at_full h p l = sub_frame_full _ (simp (length-take, length-drop) (omega arith))

module _ (drp : List ℤ) (nrp : ℤ) (c : List ℤ) (d : length drp ≡ 120) (sound : is_lag nrp ≡ true) (h : length c ≡ 76) where
  -- the history is at the end of what they have added
  all_four : Grown 160 (frame_reconstructed drp nrp c).0.0 (drp ++ flatten (frame_reconstructed drp nrp c).1)
  all_four =
      let whole : (p : ℕ) → p + 17 ≤ 76 → full (at drp nrp c p) ≡ true = at_full drp nrp c h in
      let sound₁ = sub_decoded_range (drp, nrp) (at drp nrp c 8) sound in
      let sound₂ = sub_decoded_range (after₁ drp nrp c) (at drp nrp c 25) sound₁ in
      let sound₃ = sub_decoded_range (after₂ drp nrp c) (at drp nrp c 42) sound₂ in
      let first = grown (drp, nrp) (at drp nrp c 8) (whole 8 (omega arith)) (grown_start drp d) sound in
      let second = grown (after₁ drp nrp c) (at drp nrp c 25) (whole 25 (omega arith)) first sound₁ in
      let third = grown (after₂ drp nrp c) (at drp nrp c 42) (whole 42 (omega arith)) second sound₂ in
      rw (run_added drp nrp c, run_after drp nrp c) (grown (after₃ drp nrp c) (at drp nrp c 59) (whole 59 (omega arith)) third sound₃)

  -- 160 samples
  pub samples_length : length (flatten (frame_reconstructed drp nrp c).1) ≡ 160
  samples_length = omega (arith, all_four.size, length-append drp (flatten (frame_reconstructed drp nrp c).1))

  -- which stand after the history
  pub samples_after : take 160 (drop 120 (drp ++ flatten (frame_reconstructed drp nrp c).1)) ≡ flatten (frame_reconstructed drp nrp c).1
  samples_after = rw (drop_at drp (flatten (frame_reconstructed drp nrp c).1) 120 d) (take_all 160 _ (le_of_eq samples_length))

  -- and the last 120 of all are the next history
  pub history_after : take 120 (drop 160 (drp ++ flatten (frame_reconstructed drp nrp c).1)) ≡ (frame_reconstructed drp nrp c).0.0
  history_after = rw all_four.last (take_all 120 _ (rw (← all_four.last, length-drop) (omega (arith, all_four.size))))
