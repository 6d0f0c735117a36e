-- House rules, 'Listing': the text, in bytes, that the lister writes for the bytes that it reads.
use Rattle.std.specs.Prelude.{ℕ, zero, suc, ◌+◌, ◌*◌, ◌/◌, ◌%◌, ◌^◌, min, cond, List, [], ◌∷◌, ◌++◌, map, ℤ, nat_abs, length, replicate, ltb}
use Prim.Native.Char.{code}
use Prim.Native.String.{String, [] as end, ◌∷◌ as ◌then◌}
use Rattle.math_lists.specs.First.{first}
use Rattle.math_lists.specs.Scan.{run}
use Rattle.math_lists.specs.Cut.{cut}
use Rattle.standard.specs.Frame.{sub_words}
use Rattle.standard.specs.Files.{file_words}
use Rattle.standard.specs.Lpc.{Ending, silent, stopped, complete}
use Rattle.standard.specs.Coder.{Subcoded, Coded, coded}
use Rattle.standard.specs.House.{home_coder, Mark, rule, found, mark}

-- ---- fields

-- the bytes of a text
unfoldable pub text : String → List ℕ
text end = []
text (c then s) = code c ∷ text s

-- the last k decimal digits of n
unfoldable pub digits : ℕ → ℕ → List ℕ
digits zero n = []
digits (suc k) n = digits k (n / 10) ++ ((48 + n % 10) ∷ [])

-- n in as many digits as it needs, at least one
unfoldable pub decimal : ℕ → List ℕ
decimal n = digits (first (λ k. ltb n (10 ^ k)) n 1) n

-- a codeword
unfoldable pub word : ℤ → List ℕ
word c = decimal (nat_abs c)

unfoldable pub ending_text : Ending → List ℕ
ending_text silent = text "silent"
ending_text (stopped n) = text "stop" ++ decimal n
ending_text complete = text "complete"

unfoldable pub mark_text : Mark → List ℕ
mark_text rule = text "rule"
mark_text found = text "found"

-- ---- lines

-- one record on each line, and a tab between fields
unfoldable pub line : List (List ℕ) → List ℕ
line [] = 10 ∷ []
line (f ∷ []) = f ++ (10 ∷ [])
line (f ∷ g ∷ fs) = f ++ 9 ∷ line (g ∷ fs)

-- the name and the format number
unfoldable pub header : List ℕ
header = line (text "RPELTP" ∷ decimal 1 ∷ [])

-- the frame, the ending, the eight LARc
unfoldable pub F_line : ℕ → Coded → List ℕ
F_line frame c = line (text "F" ∷ decimal frame ∷ ending_text c.ending ∷ map word c.LARc)

-- the frame, the sub-frame, the mark, the 17 codewords of the sub-frame
unfoldable pub S_line : ℕ → ℕ → Subcoded → List ℕ
S_line frame n s = line (text "S" ∷ decimal frame ∷ decimal n ∷ mark_text (mark s) ∷ map word (sub_words s.codes))

-- f of each element and its number, counted from n
unfoldable pub numbered : {A : Type 0} → (ℕ → A → List ℕ) → ℕ → List A → List ℕ
numbered f n [] = []
numbered f n (x ∷ xs) = f n x ++ numbered f (suc n) xs

-- the five lines of a frame
unfoldable pub frame_lines : ℕ → Coded → List ℕ
frame_lines frame c = F_line frame c ++ numbered (S_line frame) 1 c.subframes

-- 160 samples of two bytes
abbrev pub frame_bytes : ℕ
frame_bytes = 320

-- the lister's limit
abbrev pub most_frames : ℕ
most_frames = 1000000

-- the whole frames, the samples left over, the bytes left over after these, "end"; or "limit", when a byte comes after frame 1,000,000
unfoldable pub E_line : ℕ → List ℕ
E_line bytes =
    cond (ltb (most_frames * frame_bytes) bytes)
    (line (text "E" ∷ decimal most_frames ∷ decimal 0 ∷ decimal 0 ∷ text "limit" ∷ []))
    (line (text "E" ∷ decimal (bytes / frame_bytes) ∷ decimal (bytes % frame_bytes / 2) ∷ decimal (bytes % 2) ∷ text "end" ∷ []))

-- ---- the whole

-- the whole frames of samples, up to the limit; left-over samples are never filled up to a frame and coded
unfoldable pub frames : List ℕ → List (List ℤ)
frames bytes = map file_words (cut (replicate (min (length bytes / frame_bytes) most_frames) frame_bytes) bytes)

-- the whole text, from home: the header, the lines of each frame, the E line
unfoldable pub listing : List ℕ → List ℕ
listing bytes = header ++ (numbered frame_lines 1 (run coded home_coder (frames bytes)).1 ++ E_line (length bytes))
