-- Iteration i stores 8 times the value of octet i. At the end the buffer is `alaw_samples`.
use Rattle.std.specs.Prelude.{◌≡◌}
use Rattle.math_lists.specs.Fill.{filled}
use Rattle.standard.specs.Alaw.{alaw_samples}
use Rattle.pcm_alaw.proofs.samples.Given as goal

abbrev pub invariant-loop-i : goal.invariant-loop-i
invariant-loop-i l = l.samples ≡ filled l.i (alaw_samples l.octets) l.initial.samples
