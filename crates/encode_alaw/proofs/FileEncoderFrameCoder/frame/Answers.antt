-- The bytes left are those of the codewords that encode_alaw answers. Refused or not, the state is that of the answer.
use Rattle.std.specs.Prelude.{◌≡◌}
use Rattle.std.proofs.Common.{rules, ap, ◌∙◌}
use Rattle.encoder.specs.Promise.{coder, state}
use Rattle.io_streams.specs.Frames.{puts_filled}
use Rattle.encode_alaw.specs.Frame.{encoded}
use Rattle.encode_alaw.proofs.FileEncoderFrameCoder.frame.Goals as goal
use Rattle.encode_alaw.proofs.FileEncoderFrameCoder.frame.Goals.{in-Ok, in-Err}

pub returns-clause-state : goal.returns-clause-state
unfolding encoded state
returns-clause-state c =
    let e = c.encode_alaw.ensures in
    let kept : c.match-encode_alaw.self ≡ state c.encode_alaw.result
    = elim c.match-encode_alaw.branch [ in-Ok w ↦ rw (w.in-Ok.is, w.self-is) | in-Err w ↦ rw (w.in-Err.is, w.self-is) ]
    in
    ap coder kept ∙ e.state

pub returns-clause-bytes : goal.returns-clause-bytes
unfolding encoded
returns-clause-bytes c told = puts_filled (rw (c.to_bytes.ensures, c.encode_alaw.ensures.codewords)) (search rules) (search rules)
