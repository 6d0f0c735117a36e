-- Annex A3.2: files of samples and of codewords, "written in binary using 16 bit words". House rules, 'Listing': the low byte first.
use Rattle.std.specs.Prelude.{ℕ, ◌+◌, ◌*◌, ◌/◌, ◌%◌, List, [], ◌∷◌, ℤ}
use Rattle.std.specs.Int.{w16}
use Rattle.std.proofs.Common.{to_z}
use Rattle.standard.specs.Arithmetic.{modulo}

-- the words that bytes stand for; a byte left over stands for none
unfoldable pub file_words : List ℕ → List ℤ
file_words [] = []
file_words (low ∷ []) = []
file_words (low ∷ high ∷ bytes) = to_z w16 (low + 256 * high) ∷ file_words bytes

-- the bytes of words, each in two's complement
unfoldable pub file_bytes : List ℤ → List ℕ
file_bytes [] = []
file_bytes (word ∷ words) =
    let n = modulo word 65536 in
    n % 256 ∷ n / 256 ∷ file_bytes words
