-- What the program makes of a frame of octets: the encoder's next state, and the codewords as bytes.
use Rattle.std.specs.Prelude.{List, ℕ, pos, replicate}
use Rattle.standard.specs.Files.{file_bytes}
use Rattle.standard.specs.Alaw.{alaw_samples}
use Rattle.standard.specs.Coder.{Coder}
use Rattle.standard.specs.Answers as answers

-- the coder after a frame of A-law octets, and the frame's codewords as annex A3 has them in a file
unfoldable pub encoded : Coder → List ℕ → Coder × List ℕ
encoded c octets =
    let a = answers.encode c (alaw_samples octets) (replicate 76 (pos 0)) in
    (a.state, file_bytes a.codewords)
