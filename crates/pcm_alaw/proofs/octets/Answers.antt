-- Iteration i stores the code of sample i divided by 8. At the end the buffer is `alaw_octets`.
use Rattle.std.specs.Prelude.{pos}
use Rattle.std.proofs.Common.{arith, to_z-of_z}
use Rattle.math_lists.specs.Fill.{fill_next, fill_end}
use Rattle.math_lists.specs.Tab.{map_at}
use Rattle.standard.specs.Arithmetic.{◌>>◌}
use Rattle.law_arithmetic.specs.Shift.{down_bits}
use Rattle.standard.specs.Alaw.{compressed, alaw_octets}
use Rattle.pcm_alaw.specs.Facts.{octets_length}
use Rattle.pcm_alaw.proofs.octets.Goals as goal

pub loop-i-preserved : goal.loop-i-preserved
unfolding alaw_octets
loop-i-preserved c =
    let l = c.loop-i in
    let samples = c.args.samples.now in
    let n = octets_length samples in
    let own = map_at (λ x. compressed (x >> 3)) samples l.i (pos 0) 0 (omega arith) in
    fill_next (alaw_octets samples) c.args.octets.now l.i l.invariant 0 (omega arith) (omega arith) (grind (arith, to_z-of_z, down_bits))

pub returns : goal.returns
returns c =
    let n = octets_length c.args.samples.now in
    fill_end (alaw_octets c.args.samples.now) c.args.octets.now c.loop-i.i c.loop-i.invariant (omega arith) (omega arith)
