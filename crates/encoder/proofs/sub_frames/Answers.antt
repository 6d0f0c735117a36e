-- The law `turn` carries the history from each sub-frame to the next (`Stands`), so each is coded from the history that the
-- definition has. The four parts of 17 codewords, joined, are the codewords after the first eight (`four_put`).
use mathlib.Core.Path.{◌≡◌, sym, ap, ap₂, ◌∙◌}
use mathlib.Core.List.{List, [], ◌∷◌, ◌++◌, append-nil, flatten}
use native.Mathlib.Omega.{arith}
use lib.IntN.{ℤ}
use lib.ListN.{length, take, drop, length-drop}
use Rattle.long_history.specs.Window.{Stands, stands_start, stands_all}
use Rattle.encoder.specs.Promise.{mark, marks}
use Rattle.encoder.specs.Subframes.{dp₁, dp₂, dp₃, added₁, added₂, added₃, Turned, turn, four_put}
use Rattle.encoder.proofs.sub_frames.Goals as goal
use Rattle.encoder.proofs.sub_frames.Goals.{After-sub_frame-fourth}

-- the sub-frames one after the other
module _ (c : After-sub_frame-fourth) where
  -- what the call is passed
  abbrev dp : List ℤ
  dp = take 120 c.args.dp.now

  abbrev rest : List ℤ
  rest = drop 120 c.args.dp.now

  abbrev d : List ℤ
  d = c.args.d.now

  begins : Stands 0 dp dp rest c.args.dp.now
  begins = stands_start c.args.dp.now (omega (arith, c.requires.1.0))

  -- after each sub-frame
  first : let g = c.sub_frame-first in Turned 0 dp d dp rest (mark g.result) g.new.c g.new.dp
  first = let e = c.sub_frame-first.ensures in turn 0 begins d (e.mark, (e.codewords, e.history))

  second : let g = c.sub_frame-second in
      Turned 1 (dp₁ dp d) d (added₁ dp d) (drop 40 rest) (mark g.result) g.new.c g.new.dp
  second = let e = c.sub_frame-second.ensures in turn 1 first.stands d (e.mark, (e.codewords, e.history))

  third : let g = c.sub_frame-third in
      Turned 2 (dp₂ dp d) d (added₂ dp d) (drop 40 (drop 40 rest)) (mark g.result) g.new.c g.new.dp
  third = let e = c.sub_frame-third.ensures in turn 2 second.stands d (e.mark, (e.codewords, e.history))

  fourth : let g = c.sub_frame-fourth in
      Turned 3 (dp₃ dp d) d (added₃ dp d) (drop 40 (drop 40 (drop 40 rest))) (mark g.result) g.new.c g.new.dp
  fourth = let e = c.sub_frame-fourth.ensures in turn 3 third.stands d (e.mark, (e.codewords, e.history))

pub returns : goal.returns
unfolding marks flatten
returns c =
    let f = (goal.at.returns c).After-sub_frame-fourth in
    let t₁ = first f in
    let t₂ = second f in
    let t₃ = third f in
    let t₄ = fourth f in
    let none : length (drop 40 (drop 40 (drop 40 (drop 40 (rest f))))) ≡ 0 = simp length-drop (omega (arith, c.requires.1.0)) in
    let placed =
    four_put c.args.codewords.now c.sub_frame-first.new.c c.sub_frame-second.new.c c.sub_frame-third.new.c
    c.sub_frame-fourth.new.c c.requires.1.1 t₁.size t₂.size t₃.size t₄.size in
    let made = ap₂ ◌++◌ t₁.written (ap₂ ◌++◌ t₂.written (ap₂ ◌++◌ t₃.written (t₄.written ∙ sym (append-nil _)))) in record {
      marks = ap₂ ◌∷◌ t₁.marked (ap₂ ◌∷◌ t₂.marked (ap₂ ◌∷◌ t₃.marked (ap (◌∷ []) t₄.marked)));
      codewords = placed ∙ ap (take 8 c.args.codewords.now ++◌) made;
      history = stands_all t₄.stands none;
    }
