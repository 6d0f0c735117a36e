-- decode is called with a buffer of 160 samples, as many as there are octets, so it refuses as decode_alaw is to refuse.
-- Where it is done its samples are written as octets; where it refuses the octets stay.
use Rattle.std.proofs.lemmas.Result.{err_from_is_err_and}
use Rattle.law_refusals.specs.Calls.{decode_alaw_exactly}
use Rattle.refusals.specs.Numbers.{refusal_of}
use Rattle.decoder.specs.Promise.{refused, refusal_keeps_octets, done_octets, refused_octets}
use Rattle.decoder.proofs.Decoder.decode_alaw.Goals as goal

pub returns-then-octets-ne160 : goal.returns-then-octets-ne160
unfolding refused refusal_of
returns-then-octets-ne160 c =
    rw c.with.ensures (refusal_keeps_octets _ _ _ 0 ((decode_alaw_exactly _ _ _).first c.if-octets-ne160.true))

-- refused: the octets as they were passed
pub returns-in_err-state : goal.returns-in_err-state
returns-in_err-state c =
    let p = err_from_is_err_and c.from_residual.result c.from_residual.ensures.1 in
    rw (p.1, p.2) (refused_octets _ _ _ _ _ c.in_err-state.ensures c.args.octets.now c.if-octets-ne160.false)

-- done: the octets of the samples
pub returns : goal.returns
returns c =
    rw c.octets.ensures (done_octets _ _ _ _ _ c.in_ok-state.ensures c.args.octets.now c.if-octets-ne160.false)
