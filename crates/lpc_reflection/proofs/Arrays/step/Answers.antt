-- Iteration m makes one step of the standard's loop over P and K; what is left of that loop gives `PK_loop` at every iteration.
use Rattle.std.specs.Prelude.{◌≡◌, ℕ, ◌+◌, ◌-◌, List, ℤ, pos, set}
use Rattle.std.proofs.Common.{arith, refl, rules, to_z-of_z, get_or-set_other}
use Rattle.math_lists.specs.Steps.{steps_next, steps_end}
use Rattle.standard.specs.Arithmetic.{add, mult_r}
use Rattle.standard.specs.Tables.{◌at◌}
use Rattle.law_loops.specs.Recursion.{PK_turn, PK_loop}
use Rattle.lpc_reflection.proofs.Arrays.step.Goals as goal

-- iteration m of the standard's loop: it reads P[m + 1] after P[m] is stored, and that is still the old value
turned : (rn : ℤ) (m : ℕ) (P K : List ℤ) (p k : ℤ)
    → p ≡ add (P at (m + 1)) (mult_r (K at (9 - m)) rn) → k ≡ add (K at (9 - m)) (mult_r (P at (m + 1)) rn)
    → (set P m p, set K (9 - m) k) ≡ PK_turn rn m (P, K)
unfolding PK_turn
turned rn m P K p k e f = rw (e, f, get_or-set_other P m (m + 1) (add (P at (m + 1)) (mult_r (K at (9 - m)) rn)) (pos 0) (omega arith))

pub loop-m-init : goal.loop-m-init
loop-m-init c = (search rules, refl)

pub loop-m-preserved : goal.loop-m-preserved
loop-m-preserved c =
    let l = c.loop-m in
    let t = turned c.args.rn l.m l.p l.k c.add-in-loop-m.result c.add-in-loop-m-2.result (grind (arith, to_z-of_z))
    (grind (arith, to_z-of_z)) in
    let next = steps_next (PK_turn c.args.rn) (9 - c.args.n) l.m (l.p, l.k) (omega arith) in
    (search rules, grind (arith, to_z-of_z))

pub returns : goal.returns
unfolding PK_loop
returns c =
    let l = c.loop-m in
    let e : 9 - c.args.n - 1 ≡ 8 - c.args.n = omega arith in
    let end = steps_end (PK_turn c.args.rn) (9 - c.args.n) l.m (l.p, l.k) (omega arith) in
    record { p = grind (arith, to_z-of_z); k = grind (arith, to_z-of_z) }
