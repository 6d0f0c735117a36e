-- One more sample is above the largest so far (`largest_new`) or not (`largest_old`).
use Rattle.std.proofs.Common.{◌≡◌, ℤ, pos, cond, ◌+◌, ◌<◌, length, take, get_or, refl, sym, ap, ◌∙◌, arith, rules, SFits, to_z}
use Rattle.std.proofs.lemmas.Int.{ints, clamps}
use Rattle.std.specs.Int.{w16, int_max}
use Rattle.std.specs.Int.Signed.{lt_z}
use mathlib.Core.List.{map}
use lib.ListN.{length-map}
use lib.Seq.{take_all}
use borrow.Author.Rules.{sfits_of}
use Rattle.math_integers.specs.Ranges.{back, res}
use Rattle.math_lists.specs.First.{by_cond}
use Rattle.math_lists.specs.Best.{largest, largest_new, largest_old}
use Rattle.math_lists.specs.Tab.{map_at}
use Rattle.standard.specs.Arithmetic.{abs, peak}
use Rattle.op_sums.proofs.peak.Goals as goal

larger : (m x : ℤ) → int_max m x ≡ cond (lt_z m x) x m
larger m x = grind (arith, ints, clamps)

pub loop-x-init : goal.loop-x-init
unfolding largest
loop-x-init c = refl

pub loop-x-preserved : goal.loop-x-preserved
loop-x-preserved c =
    let s = c.args.s.now in
    let i = c.loop-x.x-index in
    let f : SFits w16 (get_or s i (pos 0)) = search rules in
    let x-is : c.abs.result ≡ get_or (map abs s) i (pos 0) =
    rw (back f) at c.abs.ensures ∙ sym (map_at abs s i (pos 0) (pos 0) (omega arith))
    in
    let m = to_z w16 c.loop-x.max-bits in
    let l : i < length (map abs s) = omega (arith, length-map s abs) in
    let top = rw (res c.abs) at c.max-max.ensures.value ∙ larger m c.abs.result in
    back {w = w16} (sfits_of c.max-max.type_inv) ∙ (top ∙ by_cond (λ y. y ≡ largest (take (i + 1) (map abs s))) (lt_z m c.abs.result)
    (largest_new (map abs s) i c.loop-x.invariant l x-is) (largest_old (map abs s) i c.loop-x.invariant l x-is))

pub returns : goal.returns
unfolding peak
returns c =
    let xs = map abs c.args.s.now in
    c.loop-x.invariant ∙ ap largest (take_all c.loop-x.x-index xs (omega (arith, length-map c.args.s.now abs)))
