-- Each sub-frame is decoded after the samples of the ones before. `Holds` says what the list then has, and one law, `turn`, takes it
-- from each sub-frame to the next.
use mathlib.Core.Path.{◌≡◌, sym, ap, ◌∙◌}
use mathlib.Core.Bool.{true}
use mathlib.Core.List.{List}
use Prim.Native.Nat.{ℕ, ◌+◌, ◌≤◌}
use native.Mathlib.Omega.{arith}
use borrow.Author.Rules.{rules, sfits_of}
use lib.IntN.{ℤ}
use lib.ListN.{length, take, drop, length-drop}
use mir.Syntax.{w16}
use Rattle.math_integers.specs.Halves.{mem}
use Rattle.math_integers.specs.Ranges.{back}
use Rattle.math_lists.specs.Parts.{put}
use Rattle.law_lengths.specs.Subframes.{full}
use Rattle.long_history.specs.Window.{stands_start, stands_all}
use Rattle.frame_received.specs.Received.{sub_reconstructed}
use Rattle.frame_received.specs.Turn.{Holds, turn}
use Rattle.frame_received.specs.Frame.{at, at_full, after₁, after₂, after₃, added₁, added₂, added₃, run_after, run_added}
use Rattle.frame_received.proofs.decoded.Goals as goal
use Rattle.frame_received.proofs.decoded.Goals.{After-sub_decoded-first, After-sub_decoded-second, After-sub_decoded-third, Start}

-- what the call is passed, and what the list holds after each sub-frame
module _ (s : Start) where
  abbrev drp : List ℤ
  drp = take 120 s.args.drp.now

  abbrev rest : List ℤ
  rest = drop 120 s.args.drp.now

  abbrev nrp : ℤ
  nrp = s.args.nrp

  abbrev c_of : List ℤ
  c_of = s.args.c.now

  abbrev Holds₁ : List ℤ → ℤ → Type 0
  Holds₁ = Holds 40 (after₁ drp nrp c_of) (added₁ drp nrp c_of) (drop 40 rest)

  abbrev Holds₂ : List ℤ → ℤ → Type 0
  Holds₂ = Holds 80 (after₂ drp nrp c_of) (added₂ drp nrp c_of) (drop 40 (drop 40 rest))

  abbrev Holds₃ : List ℤ → ℤ → Type 0
  Holds₃ = Holds 120 (after₃ drp nrp c_of) (added₃ drp nrp c_of) (drop 40 (drop 40 (drop 40 rest)))

  begins : Holds 0 (drp, nrp) drp rest s.args.drp.now (mem w16 nrp)
  begins =
      record {
        stands = stands_start s.args.drp.now (omega (arith, s.requires.1.0));
        lag = back s.ranges.nrp;
        sound = s.requires.1.1;
      }

  whole : (p : ℕ) → p + 17 ≤ 76 → full (at drp nrp c_of p) ≡ true
  whole = at_full drp nrp c_of s.requires.0

module _ (f : After-sub_decoded-first) where
  abbrev s₁ : Start
  s₁ = f.before.before.before

  abbrev list₁ : List ℤ
  list₁ = put 0 160 s₁.args.drp.now f.sub_decoded-first.new.drp

  first : Holds₁ s₁ list₁ (mem w16 f.sub_decoded-first.result)
  unfolding sub_reconstructed
  first =
      let g = f.sub_decoded-first in
      turn _ _ (whole s₁ 8 (omega arith)) (begins s₁) (back {w = w16} (sfits_of g.type_inv) ∙ g.ensures.lag) g.ensures.samples

module _ (f : After-sub_decoded-second) where
  abbrev f₁ : After-sub_decoded-first
  f₁ = f.before.before.before.before

  abbrev s₂ : Start
  s₂ = s₁ f₁

  abbrev list₂ : List ℤ
  list₂ = put 40 160 (list₁ f₁) f.sub_decoded-second.new.drp

  second : Holds₂ s₂ list₂ (mem w16 f.sub_decoded-second.result)
  unfolding sub_reconstructed
  second =
      let g = f.sub_decoded-second in
      turn _ _ (whole s₂ 25 (omega arith)) (first f₁) (back {w = w16} (sfits_of g.type_inv) ∙ g.ensures.lag) g.ensures.samples

module _ (f : After-sub_decoded-third) where
  abbrev f₂ : After-sub_decoded-second
  f₂ = f.before.before.before.before

  abbrev s₃ : Start
  s₃ = s₂ f₂

  third : Holds₃ s₃ (put 80 160 (list₂ f₂) f.sub_decoded-third.new.drp) (mem w16 f.sub_decoded-third.result)
  unfolding sub_reconstructed
  third =
      let g = f.sub_decoded-third in
      turn _ _ (whole s₃ 42 (omega arith)) (second f₂) (back {w = w16} (sfits_of g.type_inv) ∙ g.ensures.lag) g.ensures.samples

-- each call may be passed the lag of the one before
pub sub_decoded-second-requires : goal.sub_decoded-second-requires
sub_decoded-second-requires c = let t = first c.before.before.before in (search rules, (search rules, rw t.lag t.sound))

pub sub_decoded-third-requires : goal.sub_decoded-third-requires
sub_decoded-third-requires c = let t = second c.before.before.before in (search rules, (search rules, rw t.lag t.sound))

pub sub_decoded-requires : goal.sub_decoded-requires
sub_decoded-requires c = let t = third c.before.before.before in (search rules, (search rules, rw t.lag t.sound))

pub returns : goal.returns
unfolding sub_reconstructed
returns c =
    let g = c.sub_decoded in
    let f : After-sub_decoded-third = c.before.before.before.before.before in
    let s = s₃ f in
    let all = turn _ _ (whole s 59 (omega arith)) (third f) (back {w = w16} (sfits_of g.type_inv) ∙ g.ensures.lag) g.ensures.samples in
    let none : length (drop 40 (drop 40 (drop 40 (drop 40 (rest s))))) ≡ 0 = simp length-drop (omega (arith, s.requires.1.0)) in record {
      lag = all.lag ∙ ap (λ (q : List ℤ × ℤ). q.1) (sym (run_after (drp s) (nrp s) (c_of s)));
      samples = stands_all all.stands none ∙ sym (run_added (drp s) (nrp s) (c_of s));
    }
