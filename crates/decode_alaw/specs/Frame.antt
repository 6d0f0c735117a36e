-- What the program makes of a frame: the decoder's next state, and the A-law octets.
use Rattle.std.specs.Prelude.{List, ℕ, replicate}
use Rattle.standard.specs.Files.{file_words}
use Rattle.standard.specs.Decoder.{Decoder}
use Rattle.standard.specs.Answers as answers

-- the decoder after a frame of codewords, as annex A3 has them in a file, and the frame's A-law octets
unfoldable pub decoded : Decoder → List ℕ → Decoder × List ℕ
decoded m bytes =
    let a = answers.decode_alaw m (file_words bytes) (replicate 160 0) in
    (a.state, a.octets)
