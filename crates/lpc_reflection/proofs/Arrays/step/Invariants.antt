-- Iteration m makes one step of the standard's loop over P and K; what is left of that loop gives `PK_loop` at every iteration.
use Rattle.std.specs.Prelude.{◌≡◌, ◌-◌, ◌≤◌}
use Rattle.math_lists.specs.Steps.{steps}
use Rattle.law_loops.specs.Recursion.{PK_turn}
use Rattle.lpc_reflection.proofs.Arrays.step.Given as goal

abbrev pub invariant-loop-m : goal.invariant-loop-m
invariant-loop-m l =
    ((1 ≤ l.m) × (l.m ≤ l.m-end))
    × (steps (PK_turn l.rn) (l.m-end - l.m) l.m (l.p, l.k) ≡ steps (PK_turn l.rn) (l.m-end - 1) 1 (l.initial.p, l.initial.k))
