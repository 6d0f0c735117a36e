-- Iteration i stores the code of sample i divided by 8. At the end the buffer is `alaw_octets`.
use Rattle.std.specs.Prelude.{◌≡◌}
use Rattle.math_lists.specs.Fill.{filled}
use Rattle.standard.specs.Alaw.{alaw_octets}
use Rattle.pcm_alaw.proofs.octets.Given as goal

abbrev pub invariant-loop-i : goal.invariant-loop-i
invariant-loop-i l = l.octets ≡ filled l.i (alaw_octets l.samples) l.initial.octets
