-- The codewords are the words of the bytes, and the bytes left are those of the samples that decode answers. Refused or not, the state is
-- that of the answer.
use Rattle.std.specs.Prelude.{◌≡◌}
use Rattle.std.proofs.Common.{rules, ap, ◌∙◌}
use Rattle.decoder.specs.Promise.{memory, state}
use Rattle.io_streams.specs.Frames.{puts_filled}
use Rattle.decode.specs.Frame.{decoded}
use Rattle.decode.proofs.FileDecoderFrameCoder.frame.Goals as goal
use Rattle.decode.proofs.FileDecoderFrameCoder.frame.Goals.{in-Ok, in-Err}

pub returns-clause-state : goal.returns-clause-state
unfolding decoded state
returns-clause-state c =
    let e = c.decode.ensures in
    let kept : c.match-decode.self ≡ state c.decode.result
    = elim c.match-decode.branch [ in-Ok w ↦ rw (w.in-Ok.is, w.self-is) | in-Err w ↦ rw (w.in-Err.is, w.self-is) ]
    in
    ap memory kept ∙ (rw c.from_bytes.ensures at e.state)

pub returns-clause-bytes : goal.returns-clause-bytes
unfolding decoded
returns-clause-bytes c told = puts_filled (rw (c.to_bytes.ensures, c.decode.ensures.samples, c.from_bytes.ensures)) (search rules)
    (search rules)
