-- Iteration k stores one di and one sav: the elements at k of what the definition gives over all samples.
use mathlib.Core.Bool.{true}
use mathlib.Core.Path.{◌≡◌, refl, sym, ap₂, ◌∙◌}
use native.Mathlib.Omega.{arith}
use borrow.Author.Rules.{rules, sfits_of}
use lib.IntN.{pos}
use lib.ListN.{length, length-set}
use mir.Syntax.{w16}
use mir.Val.{SFits}
use Rattle.math_integers.specs.Halves.{mem}
use Rattle.math_integers.specs.Ranges.{back, res}
use Rattle.math_lists.specs.Every.{every_at}
use Rattle.math_lists.specs.Fill.{fill_next, fill_read, fill_end}
use Rattle.standard.specs.Arithmetic.{add, mult_r}
use Rattle.standard.specs.Tables.{◌at◌}
use Rattle.short_ratios.specs.Bounds.{factor}
use Rattle.short_analysis.specs.Sections.{further, saved, further_length, further_at}
use Rattle.short_analysis.proofs.section.Goals as goal
use Rattle.short_analysis.proofs.section.Goals.{After-d-1, After-p-1, After-r-1}

pub loop-k-init : goal.loop-k-init
loop-k-init c = (search rules, search rules, search rules, refl, refl)

-- what is read in an iteration: the coefficient and the cell,
r-is : (c : After-r-1) → mem w16 (c.args.rp.now at c.loop-k.k) ≡ c.args.rp.now at c.loop-k.k
r-is c = back {w = w16} (sfits_of c.r-1.given)

p-is : (c : After-p-1) → mem w16 (c.args.prev.now at c.loop-k.k) ≡ c.args.prev.now at c.loop-k.k
p-is c = back {w = w16} (sfits_of c.p-1.given)

-- and di, which at this index is still the old one
d-is : (c : After-d-1) → mem w16 (c.loop-k.di at c.loop-k.k) ≡ c.args.di.now at c.loop-k.k
d-is c =
    let rp = c.args.rp.now in
    let prev = c.args.prev.now in
    let di = c.args.di.now in
    let i = c.loop-k.k in
    let f : SFits w16 (c.loop-k.di at i) = sfits_of c.d-1.given in
    let n = further_length 160 rp prev di c.requires.0.0 c.requires.0.1 c.requires.1.0 in
    back f ∙ fill_read (further rp prev di) di i c.loop-k.invariant.3 i (pos 0) (omega (arith, n)) (omega arith)

-- so the coefficient is one of the factors
asked : (c : After-d-1) → factor (mem w16 (c.args.rp.now at c.loop-k.k)) ≡ true
asked c =
    let l : length c.args.rp.now ≡ 160 = c.requires.0.0 in
    rw (r-is (goal.at.After-d-1 c).After-r-1) (every_at factor c.args.rp.now c.loop-k.k (pos 0) c.requires.1.1.1 (omega arith))

pub product-requires : goal.product-requires
product-requires c = asked c

pub product-requires-in-loop-k : goal.product-requires-in-loop-k
product-requires-in-loop-k c = asked (goal.at.product-requires-in-loop-k c).After-d-1

pub loop-k-preserved : goal.loop-k-preserved
loop-k-preserved c =
    let at-c = goal.at.loop-k-preserved c in
    let d = at-c.After-d-1 in
    let i = c.loop-k.k in
    let rp = c.args.rp.now in
    let prev = c.args.prev.now in
    let di = c.args.di.now in
    let lr : length rp ≡ 160 = c.requires.0.0 in
    let lp : length prev ≡ 160 = c.requires.0.1 in
    let ld : length di ≡ 160 = c.requires.1.0 in
    let ls : length c.args.sav.now ≡ 160 = c.requires.1.1.0 in
    let r = r-is at-c.After-r-1 in
    let p = p-is at-c.After-p-1 in
    let out = c.add-out.ensures ∙ ap₂ add (d-is d) (res c.product ∙ (c.product.ensures ∙ ap₂ mult_r r p)) in
    let kept = c.add.ensures ∙ ap₂ add p (res c.product-in-loop-k ∙ (c.product-in-loop-k.ensures ∙ ap₂ mult_r r (d-is d))) in (
      search rules,
      simp length-set c.loop-k.invariant.1,
      simp length-set c.loop-k.invariant.2,
      fill_next (further rp prev di) di i c.loop-k.invariant.3 (pos 0) (omega (arith, further_length 160 rp prev di lr lp ld)) (omega arith)
          (res c.add-out ∙ (out ∙ sym (further_at 160 rp prev di lr lp ld i (omega arith)))),
      fill_next (saved rp prev di) c.args.sav.now i c.loop-k.invariant.4 (pos 0)
          (omega (arith, further_length 160 rp di prev lr ld lp)) (omega arith)
          (res c.add ∙ (kept ∙ sym (further_at 160 rp di prev lr ld lp i (omega arith)))),
    )

pub returns : goal.returns
returns c =
    let rp = c.args.rp.now in
    let prev = c.args.prev.now in
    let di = c.args.di.now in
    let lr : length rp ≡ 160 = c.requires.0.0 in
    let lp : length prev ≡ 160 = c.requires.0.1 in
    let ld : length di ≡ 160 = c.requires.1.0 in
    let ls : length c.args.sav.now ≡ 160 = c.requires.1.1.0 in record {
      di =
          fill_end (further rp prev di) di c.loop-k.k c.loop-k.invariant.3
          (omega (arith, further_length 160 rp prev di lr lp ld)) (omega arith);
      sav = fill_end (saved rp prev di) c.args.sav.now c.loop-k.k c.loop-k.invariant.4
          (omega (arith, further_length 160 rp di prev lr ld lp)) (omega arith);
    }
