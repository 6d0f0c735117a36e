-- Call k gives the filter's output for the eleven samples from wt[k] on; the filter uses no more of them.
use Prim.Native.Nat.{◌+◌, ◌-◌}
use mathlib.Core.Path.{◌≡◌, ap, ◌∙◌}
use mathlib.Core.List.{List}
use native.Mathlib.Omega.{arith}
use lib.IntN.{ℤ, pos}
use lib.ListN.{take, drop}
use borrow.Author.Rules.{rules}
use Rattle.math_lists.specs.Tab.{tab}
use Rattle.math_lists.specs.Made.{made_tab}
use Rattle.standard.specs.Rpe.{filtered, weighted}
use Rattle.rpe_weighting.specs.Filter.{filtered_front}
use Rattle.rpe_weighting.proofs.weighted.Goals as goal

pub returns : goal.returns
unfolding weighted
returns c =
    let wt = c.surrounded-wt.result in
    made_tab c.from_fn.ensures.items (λ k. filtered (drop k wt)) (pos 0)
    (λ k b y q t.
    let n : k + 11 - k ≡ 11 = omega arith in
    let r : y ≡ filtered (take (k + 11 - k) (drop k wt)) = search rules in
    (search rules, rw n at r ∙ filtered_front (drop k wt)))
    ∙ ap (λ (xs : List ℤ). tab (λ k. filtered (drop k xs)) 0 40) c.surrounded-wt.ensures
