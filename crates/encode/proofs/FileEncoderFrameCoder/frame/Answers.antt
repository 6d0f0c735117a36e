-- The samples are the words of the bytes, and the bytes left are those of the codewords that encode answers. Refused or not, the state is
-- that of the answer.
use Rattle.std.specs.Prelude.{◌≡◌}
use Rattle.std.proofs.Common.{rules, ap, ◌∙◌}
use Rattle.encoder.specs.Promise.{coder, state}
use Rattle.io_streams.specs.Frames.{puts_filled}
use Rattle.encode.specs.Frame.{encoded}
use Rattle.encode.proofs.FileEncoderFrameCoder.frame.Goals as goal
use Rattle.encode.proofs.FileEncoderFrameCoder.frame.Goals.{in-Ok, in-Err}

pub returns-clause-state : goal.returns-clause-state
unfolding encoded state
returns-clause-state c =
    let e = c.encode.ensures in
    let kept : c.match-encode.self ≡ state c.encode.result
    = elim c.match-encode.branch [ in-Ok w ↦ rw (w.in-Ok.is, w.self-is) | in-Err w ↦ rw (w.in-Err.is, w.self-is) ]
    in
    ap coder kept ∙ (rw c.from_bytes.ensures at e.state)

pub returns-clause-bytes : goal.returns-clause-bytes
unfolding encoded
returns-clause-bytes c told = puts_filled (rw (c.to_bytes.ensures, c.encode.ensures.codewords, c.from_bytes.ensures)) (search rules)
    (search rules)
