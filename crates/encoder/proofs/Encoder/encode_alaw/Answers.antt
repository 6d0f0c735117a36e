-- There are as many samples as octets, so the first test is that of encode; past it the promise is encode's own, of the
-- samples that the octets stand for.
use mathlib.Core.Path.{sym, ◌∙◌}
use Rattle.law_refusals.specs.Calls.{encode_exactly}
use Rattle.pcm_alaw.specs.Facts.{samples_length}
use Rattle.refusals.specs.Numbers.{refusal_of}
use Rattle.encoder.specs.Promise.{refused, refusal_keeps}
use Rattle.encoder.proofs.Encoder.encode_alaw.Goals as goal

pub returns-then-octets-ne160 : goal.returns-then-octets-ne160
unfolding refused refusal_of
returns-then-octets-ne160 c =
    let octets = c.args.octets.now in
    let due = (encode_exactly _ _ _).first (λ e. c.if-octets-ne160.true (sym (samples_length octets) ∙ e)) in
    rw c.with.ensures (refusal_keeps _ _ _ 0 due)

pub returns : goal.returns
returns c = rw c.samples.ensures at c.encode.ensures
