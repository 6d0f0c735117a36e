-- Iteration i stores 8 times the value of octet i. At the end the buffer is `alaw_samples`.
use Rattle.std.specs.Prelude.{ℕ, pos, ◌*ℤ◌}
use Rattle.std.proofs.Common.{arith, to_z-of_z}
use Rattle.math_lists.specs.Fill.{fill_next, fill_end}
use Rattle.math_lists.specs.Tab.{map_at}
use Rattle.standard.specs.Alaw.{expanded, alaw_samples}
use Rattle.pcm_alaw.specs.Facts.{expanded_fits, sample_fits, samples_length}
use Rattle.pcm_alaw.proofs.samples.Goals as goal

pub overflow_mul-samples : goal.overflow_mul-samples
overflow_mul-samples c = grind (arith, to_z-of_z, expanded_fits, sample_fits)

pub loop-i-preserved : goal.loop-i-preserved
unfolding alaw_samples
loop-i-preserved c =
    let l = c.loop-i in
    let octets = c.args.octets.now in
    let n = samples_length octets in
    let own = map_at (λ (code : ℕ). expanded code *ℤ pos 8) octets l.i 0 (pos 0) (omega arith) in
    fill_next (alaw_samples octets) c.args.samples.now l.i l.invariant (pos 0) (omega arith) (omega arith)
    (grind (arith, to_z-of_z, expanded_fits, sample_fits))

pub returns : goal.returns
returns c =
    let n = samples_length c.args.octets.now in
    fill_end (alaw_samples c.args.octets.now) c.args.samples.now c.loop-i.i c.loop-i.invariant (omega arith) (omega arith)
