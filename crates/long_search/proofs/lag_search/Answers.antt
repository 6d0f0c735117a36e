-- In iteration i the first 32 products and the last 8 are together the sum at lag 40 + i, and the better of two is kept.
use Prim.Native.Nat.{ℕ, ◌+◌, ◌-◌, ◌≤◌, ◌<◌}
use mathlib.Core.Path.{◌≡◌, sym, ap, ap₂, ◌∙◌}
use mathlib.Core.List.{List}
use native.Mathlib.Omega.{arith}
use lib.IntN.{ℤ, pos, ◌+ℤ◌}
use lib.ListN.{length, take, drop, length-take}
use lib.Seq.{take_all}
use lib.Signed.{lt_z}
use mir.Syntax.{w32}
use mir.Val.{SFits}
use borrow.Author.Rules.{rules, sfits_of}
use Rattle.math_integers.specs.Halves.{mem}
use Rattle.math_integers.specs.Ranges.{back, res}
use Rattle.math_lists.specs.Best.{Best, best, best_start, best_new, best_old, best_within}
use Rattle.math_lists.specs.First.{by_cond}
use Rattle.math_lists.specs.Tab.{tab_length, tab_at_zero}
use Rattle.standard.specs.Arithmetic.{L_sum}
use Rattle.standard.specs.Tables.{◌at◌}
use Rattle.op_sums.specs.Search.{chosen}
use Rattle.long_search.specs.Search.{correlated, correlated_at, last_at, back_is, part_room, lag_split, lag_fits}
use Rattle.long_search.proofs.lag_search.Goals as goal
use Rattle.long_search.proofs.lag_search.Goals.{After-better-arg-1, After-loop-i, At-loop-i, In-loop-i, Start}

pub loop-i-init : goal.loop-i-init
loop-i-init c = sym best_start

-- the start, from the loop
abbrev start : At-loop-i → Start
start t = t.before.before.before

-- the part of dp that is read
part : (dp : List ℤ) (i : ℕ) → i < 81 → take ((112 - i) - (80 - i)) (drop (80 - i) dp) ≡ take 32 (drop (80 - i) dp)
part dp i h = let e : (112 - i) - (80 - i) ≡ 32 = omega arith in rw e

pub l_sum-requires : goal.l_sum-requires
l_sum-requires c =
    let t = c.before.before in
    let s = start t in
    let i = t.loop-i.i in
    let ((m, n), small) = s.requires in
    rw (part s.args.dp.now i (omega arith))
    (part_room s.args.wt.now _ m n small t.each_a_word.ensures 32 0 (80 - i) (omega arith) (omega arith))

-- an iteration: what was read and what the call gave
module _ (c : After-better-arg-1) where
  abbrev t : At-loop-i
  t = let read : In-loop-i = c.before.before.before in read.before

  abbrev s : Start
  s = start t

  abbrev wt : List ℤ
  wt = s.args.wt.now

  abbrev dp : List ℤ
  dp = s.args.dp.now

  abbrev i : ℕ
  i = t.loop-i.i

  last_is : t.lasts-last.result at (80 - i) ≡ last_at wt dp (80 - i)
  last_is = ap (λ (xs : List ℤ). xs at (80 - i)) t.lasts-last.ensures ∙ tab_at_zero (last_at wt dp) 81 (80 - i) (pos 0) (omega arith)

  -- the sum of both, which is that of the lag
  sum_is : mem w32 c.l_sum.result +ℤ mem w32 (t.lasts-last.result at (80 - i))
      ≡ L_sum (pos 0) (take 32 wt) (take 32 (drop (80 - i) dp)) +ℤ last_at wt dp (80 - i)
  sum_is =
      let f : SFits w32 (t.lasts-last.result at (80 - i)) = sfits_of c.better-arg-1.given in
      let e = c.l_sum.ensures ∙ ap (L_sum (pos 0) (take 32 wt)) (part dp i (omega arith)) in
      ap₂ ◌+ℤ◌ (res c.l_sum ∙ e) (back f ∙ last_is)

  sum_fits : SFits w32 (mem w32 c.l_sum.result +ℤ mem w32 (t.lasts-last.result at (80 - i)))
  sum_fits =
      let ((m, n), small) = s.requires in
      rw sum_is (lag_fits wt dp m n small t.each_a_word.ensures (80 - i) (omega arith))

  turn : mem w32 (mem w32 c.l_sum.result +ℤ mem w32 (t.lasts-last.result at (80 - i))) ≡ correlated wt dp at i
  turn =
      let ((m, n), small) = s.requires in
      back sum_fits
      ∙ (sum_is
      ∙ (lag_split wt dp m n small t.each_a_word.ensures (80 - i) (omega arith)
      ∙ (ap (L_sum (pos 0) wt) (back_is dp i) ∙ sym (correlated_at wt dp i (omega arith)))))

pub loop-i-preserved : goal.loop-i-preserved
loop-i-preserved c =
    let b = c.before in
    let xs = correlated (wt b) (dp b) in
    let l : i b < length xs = rw tab_length (omega arith) in
    let h = (t b).loop-i.invariant in
    c.better-found.ensures
    ∙ by_cond (λ z. z ≡ best (take (i b + 1) xs)) (lt_z (t b).loop-i.found.sum _) (best_new xs (i b) h l (turn b))
    (best_old xs (i b) h l (turn b))

-- after the loop: the best of all 81
found-is : (c : After-loop-i) → let s = start c.before in
    chosen c.loop-i.found ≡ best (correlated s.args.wt.now s.args.dp.now)
found-is c =
    let t = c.before in
    let s = start t in
    let xs = correlated s.args.wt.now s.args.dp.now in
    let h : 81 ≤ t.loop-i.i = c.loop-i-test.false in
    t.loop-i.invariant ∙ ap best (take_all t.loop-i.i xs (rw tab_length h))

pub overflow_add-result : goal.overflow_add-result
overflow_add-result c =
    let s = start c.before.before in
    let xs = correlated s.args.wt.now s.args.dp.now in
    let n : length xs ≡ 81 = tab_length _ 40 81 in
    let e = ap (λ (b : Best). b.at) (found-is c.before) in
    rw e (omega (arith, best_within xs (omega arith)))

pub returns : goal.returns
returns c =
    let a = c.before.before.before.before in
    let e = found-is a in
    let f : SFits w32 a.loop-i.found.sum = search rules in
    record {
      lag = ap (λ (b : Best). 40 + b.at) e;
      sum = back {w = w32} f ∙ ap (λ (b : Best). b.sum) e;
      positive = rw (back {w = w32} f) (ap (λ (b : Best). lt_z (pos 0) b.sum) e);
    }

pub overflow_add-l_sum : goal.overflow_add-l_sum
overflow_add-l_sum = sum_fits

pub slice_bounds-l_sum-end : goal.slice_bounds-l_sum-end
slice_bounds-l_sum-end c = simp length-take (omega (arith, c.requires.0.0))
