-- After n iterations each of the three is the plain sum of the first n squares of its grid, and that sum fits 32 bits.
use Prim.Native.Nat.{ℕ, ◌+◌, ◌*◌, ◌≤◌}
use mathlib.Core.Path.{◌≡◌, ap, ap₂, ◌∙◌}
use mathlib.Core.List.{List}
use native.Mathlib.Omega.{arith}
use lib.IntN.{ℤ, ◌+ℤ◌}
use lib.ListN.{length}
use mir.Syntax.{w32}
use mir.Val.{SFits}
use borrow.Author.Rules.{rules, sfits_of}
use Rattle.math_integers.specs.Halves.{zar, mem, abs_is}
use Rattle.math_integers.specs.Ranges.{back}
use Rattle.standard.specs.Tables.{◌at◌}
use Rattle.rpe_weighting.specs.Energy.{part, part_next, part_end, part_in}
use Rattle.rpe_weighting.proofs.totals.Goals as goal
use Rattle.rpe_weighting.proofs.totals.Goals.{In-loop-n}

-- an iteration: the squares, and how many of each grid are summed
module _ (t : In-loop-n) where
  abbrev q : List ℤ
  q = t.args.q

  abbrev n : ℕ
  n = t.loop-n.n

  -- s is the sum of the first n of grid m; the number at k, the next of the grid, is added to it
  module _ (m : ℕ) (h : m ≤ 3) {s : ℤ} (e : s ≡ part m q n) (k : ℕ) (p : k ≡ m + 3 * n) (f : SFits w32 (q at k)) where
    more_is : s +ℤ mem w32 (q at k) ≡ part m q (n + 1)
    more_is = ap₂ ◌+ℤ◌ e (back f ∙ ap (q at◌) p) ∙ part_next m q n (omega arith)

    more_fits : SFits w32 (s +ℤ mem w32 (q at k))
    more_fits =
        let l : length q ≡ 40 = search rules in
        rw more_is (omega (zar, part_in q l t.requires m h (n + 1), abs_is (part m q (n + 1))))

    next_is : mem w32 (s +ℤ mem w32 (q at k)) ≡ part m q (n + 1)
    next_is = back more_fits ∙ more_is

pub overflow_add-first : goal.overflow_add-first
overflow_add-first c =
    let t = c.before in
    more_fits t 0 (omega arith) t.loop-n.invariant.0 _ (omega arith) (sfits_of c.first-1.given)

pub overflow_add-second-in-loop-n : goal.overflow_add-second-in-loop-n
overflow_add-second-in-loop-n c =
    let t = c.before.before in
    more_fits t 1 (omega arith) t.loop-n.invariant.1 _ (omega arith) (sfits_of c.second-1.given)

pub overflow_add-third-in-loop-n : goal.overflow_add-third-in-loop-n
overflow_add-third-in-loop-n c =
    let t = c.before.before.before in
    more_fits t 2 (omega arith) t.loop-n.invariant.2 _ (omega arith) (sfits_of c.third-1.given)

pub loop-n-preserved : goal.loop-n-preserved
loop-n-preserved c =
    let b = c.before in
    let a = b.before in
    let t = a.before in
    let v = t.loop-n.invariant in (
      next_is t 0 (omega arith) v.0 _ (omega arith) (sfits_of a.first-1.given),
      next_is t 1 (omega arith) v.1 _ (omega arith) (sfits_of b.second-1.given),
      next_is t 2 (omega arith) v.2 _ (omega arith) (sfits_of c.third-1.given),
    )

pub returns : goal.returns
returns c =
    let t = c in
    let q = t.args.q in
    let v = t.loop-n.invariant in
    let l : 13 ≤ t.loop-n.n = c.loop-n-test.false in
    record { first = v.0 ∙ part_end 0 q _ l; second = v.1 ∙ part_end 1 q _ l; third = v.2 ∙ part_end 2 q _ l }
