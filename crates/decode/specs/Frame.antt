-- What the program makes of a frame: the decoder's next state, and the samples as bytes.
use Rattle.std.specs.Prelude.{List, ℕ, pos, replicate}
use Rattle.standard.specs.Files.{file_words, file_bytes}
use Rattle.standard.specs.Decoder.{Decoder}
use Rattle.standard.specs.Answers as answers

-- the decoder after a frame of codewords, and the frame's samples; codewords and samples as annex A3 has them in a file
unfoldable pub decoded : Decoder → List ℕ → Decoder × List ℕ
decoded m bytes =
    let a = answers.decode m (file_words bytes) (replicate 160 (pos 0)) in
    (a.state, file_bytes a.samples)
