-- The codewords are the words of the bytes, and the octets left are those that decode_alaw answers. Refused or not, the state is that
-- of the answer.
use Rattle.std.specs.Prelude.{◌≡◌}
use Rattle.std.proofs.Common.{rules, ap, ◌∙◌}
use Rattle.decoder.specs.Promise.{memory, state}
use Rattle.io_streams.specs.Frames.{puts_filled}
use Rattle.decode_alaw.specs.Frame.{decoded}
use Rattle.decode_alaw.proofs.FileDecoderFrameCoder.frame.Goals as goal
use Rattle.decode_alaw.proofs.FileDecoderFrameCoder.frame.Goals.{in-Ok, in-Err}

pub returns-clause-state : goal.returns-clause-state
unfolding decoded state
returns-clause-state c =
    let e = c.decode_alaw.ensures in
    let kept : c.match-decode_alaw.self ≡ state c.decode_alaw.result
    = elim c.match-decode_alaw.branch [ in-Ok w ↦ rw (w.in-Ok.is, w.self-is) | in-Err w ↦ rw (w.in-Err.is, w.self-is) ]
    in
    ap memory kept ∙ (rw c.from_bytes.ensures at e.state)

pub returns-clause-bytes : goal.returns-clause-bytes
unfolding decoded
returns-clause-bytes c told = puts_filled (rw (c.copy_from_slice.ensures.after, c.decode_alaw.ensures.octets, c.from_bytes.ensures))
    (search rules) (search rules)
