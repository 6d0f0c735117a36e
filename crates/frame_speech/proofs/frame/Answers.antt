-- Each of the four calls gives the samples of its stretch, from the cells that the call before gives. The four parts joined are
-- the frame of the definition (`frame_four`).
use mathlib.Core.Path.{◌≡◌, refl, ◌∙◌}
use lib.ListN.{length}
use borrow.Author.Rules.{rules}
use Rattle.short_ratios.specs.Bounds.{rps_above}
use Rattle.math_lists.specs.Parts.{four}
use Rattle.frame_speech.specs.Four.{spoken_length, spoken_parts, frame_four}
use Rattle.frame_speech.proofs.frame.Goals as goal

-- ---- what each call asks

pub stretch-first-requires : goal.stretch-first-requires
stretch-first-requires c = (search rules, rw c.coefficients.ensures (rps_above _ _ _))

pub stretch-second-requires : goal.stretch-second-requires
stretch-second-requires c = (search rules, rw c.coefficients-2.ensures (rps_above _ _ _))

pub stretch-third-requires : goal.stretch-third-requires
stretch-third-requires c = (search rules, rw c.coefficients-3.ensures (rps_above _ _ _))

pub stretch-requires : goal.stretch-requires
stretch-requires c = (search rules, rw c.coefficients-4.ensures (rps_above _ _ _))

-- ---- the frame

pub returns : goal.returns
returns c =
    let s = c.args in
    let e₁ = rw c.coefficients.ensures at c.stretch-first.ensures in
    let e₂ = rw c.coefficients-2.ensures at c.stretch-second.ensures in
    let e₃ = rw c.coefficients-3.ensures at c.stretch-third.ensures in
    let e₄ = rw c.coefficients-4.ensures at c.stretch.ensures in
    let n₁ : length c.stretch-first.new.srop ≡ 13 = rw e₁.samples (spoken_length _ _ _ _ ∙ search rules) in
    let n₂ : length c.stretch-second.new.srop ≡ 14 = rw e₂.samples (spoken_length _ _ _ _ ∙ search rules) in
    let n₃ : length c.stretch-third.new.srop ≡ 13 = rw e₃.samples (spoken_length _ _ _ _ ∙ search rules) in
    let n₄ : length c.stretch.new.srop ≡ 120 = rw e₄.samples (spoken_length _ _ _ _ ∙ search rules) in
    let t =
    frame_four s.s.v s.s.msr s.old s.new s.wt.now _ _ _ _ c.requires.0
    (spoken_parts _ _ _ _ e₁.v e₁.msr e₁.samples) (spoken_parts _ _ _ _ e₂.v e₂.msr e₂.samples)
    (spoken_parts _ _ _ _ e₃.v e₃.msr e₃.samples) (spoken_parts _ _ _ _ e₄.v e₄.msr e₄.samples) in
    rw t (record { v = refl; msr = refl; samples = four s.srop.now _ _ _ 13 14 13 120 n₁ n₂ n₃ c.requires.1 _ n₄ })
