-- Call j gives the sum of the last 8 products for the 40 that start at index j.
use Prim.Native.Nat.{ℕ, ◌+◌, ◌-◌, ◌<◌}
use mathlib.Core.Path.{◌≡◌, ap, ◌∙◌}
use mathlib.Core.List.{List}
use native.Mathlib.Omega.{arith}
use lib.IntN.{ℤ, pos}
use lib.ListN.{take, drop}
use borrow.Author.Rules.{rules}
use Rattle.math_lists.specs.Made.{made_tab}
use Rattle.standard.specs.Arithmetic.{L_sum}
use Rattle.op_sums.specs.Room.{Headroom}
use Rattle.std.proofs.iter.Serving.{serving}
use Rattle.long_search.specs.Search.{last_at, part_room}
use Rattle.long_search.proofs.lasts.Goals as goal

-- the part of dp that is read
part : (dp : List ℤ) (j : ℕ) → take ((40 + j) - (32 + j)) (drop (32 + j) dp) ≡ take 8 (drop (32 + j) dp)
part dp j = let e : (40 + j) - (32 + j) ≡ 8 = omega arith in rw e

pub from_fn-requires : goal.from_fn-requires
from_fn-requires c =
    let wt = c.args.wt.now in
    let dp = c.args.dp.now in
    let ((m, n), (small, words)) = c.requires in
    let room : (j : ℕ) → j < 81 → Headroom (take 8 (drop 32 wt)) (take ((40 + j) - (32 + j)) (drop (32 + j) dp)) =
    λ j b. rw (part dp j) (part_room wt dp m n small words 8 32 (32 + j) (omega arith) (omega arith)) in
    grind (arith, serving, room)

pub returns : goal.returns
returns c =
    let wt = c.args.wt.now in
    let dp = c.args.dp.now in
    made_tab c.from_fn.ensures.items (last_at wt dp) (pos 0)
    (λ j b y q t.
    let r : y ≡ L_sum (pos 0) (take 8 (drop 32 wt)) (take ((40 + j) - (32 + j)) (drop (32 + j) dp)) = search rules in
    (search rules, r ∙ ap (L_sum (pos 0) (take 8 (drop 32 wt))) (part dp j)))
