-- Four parts of the buffer are filled, one for each stretch. Joined they are the 160 coefficients.
use Prim.Native.Nat.{ℕ}
use mathlib.Core.Path.{◌≡◌, ap₂, ◌∙◌}
use mathlib.Core.List.{List, []}
use borrow.Author.Rules.{rules}
use lib.IntN.{ℤ}
use lib.ListN.{length, take, drop, get_or, replicate}
use mir.Syntax.{w16}
use mir.Val.{SFits}
use Rattle.math_integers.specs.Ranges.{back}
use Rattle.math_lists.specs.Parts.{put}
use Rattle.standard.specs.Tables.{◌at◌}
use Rattle.short_analysis.specs.Sections.{spread_parts}
use Rattle.short_analysis.proofs.own.Goals as goal

-- a part of length n that was filled with x is n copies of x
filled_by : (n : ℕ) (x : ℤ) (part : List ℤ) {y : ℤ} {ys : List ℤ}
    → ys ≡ replicate (length part) y → length part ≡ n → y ≡ x → ys ≡ replicate n x
filled_by n x part e k h = e ∙ ap₂ replicate k h

pub returns : goal.returns
returns c =
    let i = c.args.i in
    let all = c.args.stretches.now in
    let xs = c.args.rp.now in
    let y₀ = c.fill.new.self in
    let y₁ = c.fill-2.new.self in
    let y₂ = c.fill-3.new.self in
    let x₁ = put 0 13 xs y₀ in
    let x₂ = put 13 14 x₁ y₁ in
    let f₀ : SFits w16 (get_or all 0 [] at i) = search rules in
    let f₁ : SFits w16 (get_or all 1 [] at i) = search rules in
    let f₂ : SFits w16 (get_or all 2 [] at i) = search rules in
    let f₃ : SFits w16 (get_or all 3 [] at i) = search rules in
    spread_parts xs y₀ y₁ y₂ c.fill-4.new.self _ _ _ _ c.requires.1
    (filled_by 13 _ (take 13 xs) (c.fill.ensures.after (λ y h. h)) (search rules) (back f₀))
    (filled_by 14 _ (take 14 (drop 13 x₁)) (c.fill-2.ensures.after (λ y h. h)) (search rules) (back f₁))
    (filled_by 13 _ (take 13 (drop 27 x₂)) (c.fill-3.ensures.after (λ y h. h)) (search rules) (back f₂))
    (filled_by 120 _ (take 120 (drop 40 (put 27 13 x₂ y₂))) (c.fill-4.ensures.after (λ y h. h)) (search rules) (back f₃))
