-- The lines of a frame from what encode answers, and that they are those of the definition (`standard`, Listing).
use Rattle.std.specs.Prelude.{ℕ, suc, ◌<◌, ◌≡◌, true, ℤ, length, take, drop, get_or}
use Rattle.std.proofs.Math.Path.{refl}
use Rattle.std.proofs.Common.{sym, ◌∙◌, arith, length-append, take_at, drop_at}
use Rattle.std.proofs.Math.Option.{Option, none, some}
use mathlib.Core.List.{List, [], ◌∷◌, ◌++◌, map, append_assoc, append-nil, flatten}
use Rattle.std.proofs.lemmas.List.{length-map}
use Rattle.standard.specs.Frame.{sub_words, words}
use Rattle.standard.specs.Lpc.{Ending}
use Rattle.standard.specs.Coder.{Subcoded, Coded, frame}
use Rattle.standard.specs.House.{Mark, mark}
use Rattle.standard.specs.Listing.{text, decimal, word, ending_text, mark_text, F_line, S_line, numbered, frame_lines}
use Rattle.math_lists.specs.Every.{every, every_at, every_map}
use Rattle.math_lists.specs.Lengths.{sized_length}
use Rattle.law_lengths.specs.Subframes.{full}
use Rattle.law_lengths.specs.Frames.{FrameSizes, sub_words_sized}
use Rattle.list_text.specs.Fields.{tabbed, line_is}

-- the ending after its tab; nothing, where there is none
unfoldable pub ending_field : Option Ending → List ℕ
ending_field none = []
ending_field (some e) = 9 ∷ ending_text e

-- a mark after its tab; nothing, where there is none
unfoldable pub mark_field : Option Mark → List ℕ
mark_field none = []
mark_field (some m) = 9 ∷ mark_text m

-- the F line of an ending and eight codewords
unfoldable pub F_text : ℕ → Option Ending → List ℤ → List ℕ
F_text frame e larc = ((text "F" ++ 9 ∷ decimal frame) ++ ending_field e) ++ (tabbed (map word larc) ++ (10 ∷ []))

-- the S line of sub-frame n, a mark and 17 codewords
unfoldable pub S_text : ℕ → ℕ → Option Mark → List ℤ → List ℕ
S_text frame n m words = (((text "S" ++ 9 ∷ decimal frame) ++ (9 ∷ decimal n)) ++ mark_field m) ++ (tabbed (map word words) ++ (10 ∷ []))

-- the five lines of a frame's 76 codewords
unfoldable pub frame_text : ℕ → Option Ending → List (Option Mark) → List ℤ → List ℕ
frame_text frame e ms c =
    let s : ℕ → ℕ → List ℕ = λ n k. S_text frame (suc n) (get_or ms n none) (take 17 (drop k c)) in
    (((F_text frame e (take 8 c) ++ s 0 8) ++ s 1 25) ++ s 2 42) ++ s 3 59

-- ---- they are the definition's lines

-- an F line
F_is : (frame : ℕ) (c : Coded) → F_text frame (some c.ending) c.LARc ≡ F_line frame c
unfolding F_text F_line ending_field tabbed
F_is frame c = rw (line_is (text "F") _) (simp append_assoc refl)

-- an S line
S_is : (frame n : ℕ) (s : Subcoded) → S_text frame n (some (mark s)) (sub_words s.codes) ≡ S_line frame n s
unfolding S_text S_line mark_field tabbed
S_is frame n s = rw (line_is (text "S") _) (simp append_assoc refl)

-- the 17 codewords x after p
after : (p x q : List ℤ) (a : ℕ) → length p ≡ a → length x ≡ 17 → take 17 (drop a (p ++ (x ++ q))) ≡ x
after p x q a h l = rw (drop_at p (x ++ q) a h) (take_at x q 17 l)

-- and the lines of a frame of four sub-frames whose parts have their lengths
module _ (n : ℕ) (e : Ending) (l : List ℤ) (a b c d : Subcoded) (hl : length l ≡ 8)
    (ha : length (sub_words a.codes) ≡ 17) (hb : length (sub_words b.codes) ≡ 17)
    (hc : length (sub_words c.codes) ≡ 17) (hd : length (sub_words d.codes) ≡ 17) where
  abbrev of_four : Coded
  of_four = record { LARc = l; ending = e; subframes = a ∷ b ∷ c ∷ d ∷ [] }

  abbrev to_b : List ℤ
  to_b = l ++ sub_words a.codes

  abbrev to_c : List ℤ
  to_c = to_b ++ sub_words b.codes

  abbrev to_d : List ℤ
  to_d = to_c ++ sub_words c.codes

  abbrev all : List ℤ
  all = to_d ++ (sub_words d.codes ++ [])

  words_four : words (frame of_four) ≡ all
  unfolding words frame flatten
  words_four = simp append_assoc refl

  at_a : take 17 (drop 8 all) ≡ sub_words a.codes
  at_a = rw (append_assoc to_c, append_assoc to_b, append_assoc l) (after l _ _ 8 hl ha)

  at_b : take 17 (drop 25 all) ≡ sub_words b.codes
  at_b = rw (append_assoc to_c, append_assoc to_b) (after to_b _ _ 25 (rw length-append (omega arith)) hb)

  at_c : take 17 (drop 42 all) ≡ sub_words c.codes
  at_c = rw (append_assoc to_c) (after to_c _ _ 42 (simp length-append (omega arith)) hc)

  at_d : take 17 (drop 59 all) ≡ sub_words d.codes
  at_d = after to_d _ [] 59 (simp length-append (omega arith)) hd

  at_l : take 8 all ≡ l
  at_l = rw (append_assoc to_c, append_assoc to_b, append_assoc l) (take_at l _ 8 hl)

  four_lines : frame_text n (some e) (map (λ s. some (mark s)) of_four.subframes) all ≡ frame_lines n of_four
  unfolding frame_text frame_lines numbered
  four_lines =
      rw (at_l, at_a, at_b, at_c, at_d, F_is n of_four, S_is n 1 a, S_is n 2 b, S_is n 3 c, S_is n 4 d)
      (simp (append_assoc, append-nil) refl)

-- the 17 codewords of a sub-frame
17_of : (s : Subcoded) → full s.codes ≡ true → length (sub_words s.codes) ≡ 17
17_of s f = sized_length 17 (sub_words s.codes) (sub_words_sized s.codes f)

by_list : (n : ℕ) (e : Ending) (l : List ℤ) (ss : List Subcoded) → length l ≡ 8 → length ss ≡ 4 → every (λ s. full s.codes) ss ≡ true
    → let c : Coded = record { LARc = l; ending = e; subframes = ss } in
    frame_text n (some e) (map (λ s. some (mark s)) ss) (words (frame c)) ≡ frame_lines n c
by_list n e l [] hl h f = absurd (omega arith)
by_list n e l (a ∷ []) hl h f = absurd (omega arith)
by_list n e l (a ∷ b ∷ []) hl h f = absurd (omega arith)
by_list n e l (a ∷ b ∷ c ∷ []) hl h f = absurd (omega arith)
by_list n e l (a ∷ b ∷ c ∷ d ∷ s ∷ ss) hl h f = absurd (omega arith)
by_list n e l (a ∷ b ∷ c ∷ d ∷ []) hl h f =
    let g : (i : ℕ) → i < 4 → full (get_or (a ∷ b ∷ c ∷ d ∷ []) i a).codes ≡ true =
    λ i k. every_at (λ (s : Subcoded). full s.codes) (a ∷ b ∷ c ∷ d ∷ []) i a f k in
    let ha = 17_of a (g 0 (omega arith)) in
    let hb = 17_of b (g 1 (omega arith)) in
    let hc = 17_of c (g 2 (omega arith)) in
    let hd = 17_of d (g 3 (omega arith)) in
    rw (words_four n e l a b c d hl ha hb hc hd) (four_lines n e l a b c d hl ha hb hc hd)

pub lines_are : (n : ℕ) (c : Coded) → FrameSizes (frame c)
    → frame_text n (some c.ending) (map (λ s. some (mark s)) c.subframes) (words (frame c)) ≡ frame_lines n c
unfolding frame
lines_are n c h =
    by_list n c.ending c.LARc c.subframes h.LARc
    (sym (length-map c.subframes (λ (s : Subcoded). s.codes)) ∙ h.subframes)
    (sym (every_map full (λ (s : Subcoded). s.codes) c.subframes) ∙ h.pulses)
