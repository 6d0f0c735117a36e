-- Number and state cross as they are.
use Rattle.refusals.specs.Numbers.{number_of}
use Rattle.decoder.specs.Promise.{memory, state}
use Rattle.boundary.specs.Promise.{decode_answer}
use Rattle.boundary.proofs.DecodeAnswerFromResultDecoderRefusedDecoder.from.Goals as goal

pub returns-in-Ok : goal.returns-in-Ok
unfolding decode_answer number_of memory state
returns-in-Ok c = rw c.in-Ok.is

pub returns-in-Err : goal.returns-in-Err
unfolding decode_answer number_of memory state
returns-in-Err c = rw (c.in-Err.is, c.into.ensures)
