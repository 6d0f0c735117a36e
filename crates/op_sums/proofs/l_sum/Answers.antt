-- Each pair of the zip is one more product of the sum (`zip_turn`), and at its end all pairs were added (`zip_end`).
use Rattle.std.proofs.Common.{◌≡◌, ◌≤◌, ◌<◌, pos, ◌*ℤ◌, nat_abs, length, ap₂, ◌∙◌, arith, rules, SFits}
use Rattle.std.proofs.lemmas.List.{length_push}
use Rattle.std.proofs.lemmas.Slice.Zip.{zip_turn, zip_end}
use Rattle.std.specs.Slice.Iter.{iter_rest}
use Rattle.std.specs.Iterator.Adapters.{zip_first, zip_second}
use Rattle.std.specs.Int.{w16, w32}
use Rattle.math_integers.specs.Halves.{mem}
use Rattle.math_integers.specs.Ranges.{back, wide, product_fits}
use Rattle.standard.specs.Tables.{◌at◌}
use Rattle.op_sums.specs.Along.{sum_start, sum_room, sum_next, sum_fits, sum_end}
use Rattle.op_sums.proofs.l_sum.Goals as goal
use Rattle.op_sums.proofs.l_sum.Goals.{After-y-1, In-None}

pub loop-x-init : goal.loop-x-init
loop-x-init c = (c.requires, sum_start _ _ _)

-- what an iteration adds is the product of the next words of both lists, which is within the bound
turn : (c : After-y-1) → let i = length c.loop-x.yielded in let x = c.in-Some.field-0-0.now in let y = c.in-Some.field-0-1.now in
    (i < length c.args.a.now) × (mem w32 (mem w32 (mem w16 x) *ℤ mem w32 (mem w16 y)) ≡ x *ℤ y)
    × (x *ℤ y ≡ c.args.a.now at i *ℤ c.args.b.now at i) × (nat_abs (x *ℤ y) ≤ c.loop-x.invariant.0.most)
turn c =
    let i = length c.loop-x.yielded in
    let first : iter_rest (zip_first c.into_iter-x-iterator.result) ≡ c.args.a.now = search rules in
    let second : iter_rest (zip_second c.into_iter-x-iterator.result) ≡ c.args.b.now = search rules in
    let (k, _, u, v) = zip_turn _ _ c.loop-x.yielded c.into_iter-x-iterator.result c.loop-x.x-iterator c.next.new.self _ first second
    c.loop-x.yielded_by _ c.in-Some.is c.next.ensures.steps in
    let x : SFits w16 c.in-Some.field-0-0.now = search rules in
    let y : SFits w16 c.in-Some.field-0-1.now = search rules in
    let e = ap₂ ◌*ℤ◌ (u (pos 0)) (v (pos 0)) in (
      k,
      rw (back x, back y, back (wide {v = w32} x tt), back (wide {v = w32} y tt)) (back {w = w32} (product_fits x y tt)),
      e,
      rw e (c.loop-x.invariant.0.each i k (rw (u (pos 0)) at x) (rw (v (pos 0)) at y)),
    )

pub overflow_add-sum : goal.overflow_add-sum
overflow_add-sum c =
    let (r, h) = c.loop-x.invariant in
    let (k, e, p, g) = turn c in
    rw e (sum_room _ _ r.most r.same r.fits h k p g)

pub loop-x-preserved : goal.loop-x-preserved
loop-x-preserved c =
    let (r, h) = c.loop-x.invariant in
    let (k, e, p, g) = turn c in
    let f = sum_room _ _ r.most r.same r.fits h k p g in
    (r, rw (length_push c.loop-x.yielded _, e, back f) (sum_next _ _ r.most r.same r.fits h k p g))

-- all pairs were added
count : (c : In-None) → length c.loop-x.yielded ≡ length c.args.a.now
count c =
    let first : iter_rest (zip_first c.into_iter-x-iterator.result) ≡ c.args.a.now = search rules in
    let second : iter_rest (zip_second c.into_iter-x-iterator.result) ≡ c.args.b.now = search rules in
    let e = zip_end _ _ c.loop-x.yielded c.into_iter-x-iterator.result c.loop-x.x-iterator c.next.new.self _ first second
    c.loop-x.yielded_by c.in-None.is c.next.ensures.steps in
    omega (arith, e, c.requires.same)

pub overflow_add-result : goal.overflow_add-result
overflow_add-result c =
    let (r, h) = c.loop-x.invariant in
    sum_fits _ _ r.most r.same r.fits h (omega (arith, count c)) (omega (arith, count c))

pub returns : goal.returns
returns c =
    let (r, h) = c.loop-x.invariant in
    back (overflow_add-result c) ∙ sum_end _ _ r.most r.same r.fits h (omega (arith, count c)) (omega (arith, count c))
