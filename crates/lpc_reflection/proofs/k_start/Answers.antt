-- Element i of the array is 0 below 2, and ACF[9 - i] from there on: that is what the standard's loop leaves.
use Rattle.std.specs.Prelude.{◌≡◌, refl, ℕ, ◌-◌, cond, List, ℤ, pos, replicate, ltb}
use Rattle.std.proofs.Common.{◌∙◌, arith, rules, to_z-of_z}
use Rattle.math_lists.specs.Made.{made_tab}
use Rattle.math_lists.specs.Tab.{tab}
use Rattle.math_lists.specs.Steps.{steps}
use Rattle.standard.specs.Tables.{◌at◌}
use Rattle.law_loops.specs.Recursion.{K_start}
use Rattle.lpc_reflection.proofs.k_start.Goals as goal

-- K[i] at the start
abbrev entry : List ℤ → ℕ → ℤ
entry acf i = cond (ltb i 2) (pos 0) (acf at (9 - i))

turned : (acf : List ℤ) → tab (entry acf) 0 9 ≡ K_start acf (replicate 9 (pos 0))
unfolding tab steps K_start
turned acf = refl

pub returns : goal.returns
returns c =
    made_tab c.from_fn.ensures.items (entry c.args.acf) (pos 0)
    (λ k b y q t. (search rules, grind (arith, to_z-of_z)))
    ∙ turned c.args.acf
