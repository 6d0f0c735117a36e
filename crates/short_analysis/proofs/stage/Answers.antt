-- With the cell stored first, the front of p has what the section's cell holds at each sample, and the last index its new cell.
use mathlib.Core.Path.{◌≡◌, ap, ◌∙◌}
use mathlib.Core.List.{List, [], ◌∷◌, append-nil}
use native.Mathlib.Omega.{arith}
use borrow.Author.Rules.{sfits_of}
use lib.IntN.{ℤ}
use lib.ListN.{length, take, drop, set, length-set, drop_of_length-le}
use lib.Seq.{set_split}
use mir.Syntax.{w16}
use mir.Val.{SFits}
use Rattle.math_integers.specs.Halves.{mem}
use Rattle.math_integers.specs.Ranges.{back}
use Rattle.math_lists.specs.Parts.{put}
use Rattle.standard.specs.Tables.{◌at◌}
use Rattle.short_analysis.specs.Sections.{further, saved, stage}
use Rattle.short_analysis.proofs.stage.Goals as goal
use Rattle.short_analysis.proofs.stage.Goals.{Start}

-- p, with the cell put first
module _ (s : Start) where
  abbrev led : List ℤ
  led = set s.args.p.now 0 (mem w16 s.args.u)

  led_length : length led ≡ 161
  led_length = simp length-set s.requires.0.1

  led_is : led ≡ s.args.u ∷ drop 1 s.args.p.now
  led_is =
      let l : length s.args.p.now ≡ 161 = s.requires.0.1 in
      rw (back s.ranges.u) (set_split s.args.p.now 0 s.args.u (omega arith))

-- only the part of q after its first element is passed on, so the first element stays
after_first : (q y : List ℤ) → length q ≡ 161 → put 1 160 q y ≡ q at 0 ∷ y
after_first [] y h = absurd (omega arith)
after_first (x ∷ q) y h = rw (drop_of_length-le q {i = 160} (omega arith), append-nil y)

pub returns : goal.returns
unfolding stage
returns c =
    let s = (goal.at.returns c).Start in
    let q = c.args.q.now in
    let rp = c.args.rp.now in
    let di = c.args.di.now in
    let out : c.section.new.sav ≡ saved rp (take 160 (led s)) di = c.section.ensures.sav in
    let last : SFits w16 (led s at 160) = sfits_of c.result-1.given in record {
      p = led_is s;
      di = c.section.ensures.di ∙ ap (λ (p : List ℤ). further rp (take 160 p) di) (led_is s);
      q = after_first q _ c.requires.1.1.0 ∙ ap (q at 0 ∷◌) (out ∙ ap (λ (p : List ℤ). saved rp (take 160 p) di) (led_is s));
      u = back last ∙ ap (◌at 160) (led_is s);
    }
