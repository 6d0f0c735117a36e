-- The array of zeros is what the first loop of 4.2.17 leaves. Iteration i is iteration i of the second loop, so the result is ep.
use Prim.Native.Nat.{◌-◌}
use mathlib.Core.Path.{◌≡◌}
use Rattle.math_lists.specs.Steps.{steps}
use Rattle.law_loops.specs.Positions.{ep_turn}
use Rattle.rpe_inverse.proofs.positioned.Given as goal

abbrev pub invariant-loop-i : goal.invariant-loop-i
invariant-loop-i l = steps (ep_turn l.mc l.fn.xmp) (13 - l.i) l.i l.ep ≡ steps (ep_turn l.mc l.fn.xmp) 13 0 l.initial.ep
