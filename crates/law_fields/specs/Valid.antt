-- House rules, 'Samples and codewords': the valid bits of a codeword, and that the decoder reads what the coder writes.
use Rattle.std.specs.Prelude.{ℕ, zero, suc, ◌+◌, ◌^◌, ◌≤◌, ◌≡◌, refl, true, ℤ, pos, negsuc, length, take, drop}
use Rattle.std.proofs.Common.{sym, ap, ap₂, true≢false, mod-eq_of_lt, arith, pow_pos, length-append, take_at, drop_at, ltb-true, lt-ltb}
use mathlib.Core.List.{List, [], ◌∷◌, ◌++◌, map, zip_with, flatten, append_assoc}
use Rattle.math_lists.specs.Tab.{zip_length}
use Rattle.math_lists.specs.Every.{every, every_cons}
use Rattle.math_lists.specs.Lengths.{sized_length}
use Rattle.standard.specs.Arithmetic.{modulo}
use Rattle.standard.specs.Frame.{Subframe, Frame, sub_words, words, places, widths, valid, sub_received, received}
use Rattle.standard.specs.Coder.{Coder, frame, coded}
use Rattle.standard.specs.Decoder.{Decoder}
use Rattle.standard.specs.House.{fit, fits, decode_refusal}
use Rattle.standard.specs.Answers.{decode}
use Rattle.law_arithmetic.specs.Shift.{modulo_below}
use Rattle.law_lengths.specs.Subframes.{full}
use Rattle.law_lengths.specs.Frames.{FrameSizes, sub_words_sized, words_length, valid_length, coded_frame_sizes}
use Rattle.law_fields.specs.Fit.{all_fit}
use Rattle.law_fields.specs.Fields.{coded_fits}

-- ---- a codeword's valid bits

-- the low bits of a codeword, as many as its field has
abbrev pub low_bits : ℕ → ℤ → ℤ
low_bits width c = pos (modulo c (2 ^ width))

-- they fit the field
pub low_bits_fit : (width : ℕ) (c : ℤ) → fit width (low_bits width c) ≡ true
unfolding fit
low_bits_fit width c = lt-ltb (modulo c (2 ^ width)) (2 ^ width) (modulo_below c (pow_pos width))

-- and are the codeword, if that fits
pub low_bits_own : (width : ℕ) (c : ℤ) → fit width c ≡ true → low_bits width c ≡ c
unfolding fit modulo
low_bits_own width (pos n) h = ap pos (mod-eq_of_lt (ltb-true n (2 ^ width) h))
low_bits_own width (negsuc n) h = absurd (true≢false (sym h))

-- ---- those of a frame

-- the low bits of each codeword fit
all_low_fit : (ws : List ℕ) (cs : List ℤ) → all_fit ws (zip_with low_bits ws cs) ≡ true
unfolding every zip_with
all_low_fit [] cs = refl
all_low_fit (w ∷ ws) [] = refl
all_low_fit (w ∷ ws) (c ∷ cs) = rw (low_bits_fit w c) (all_low_fit ws cs)

-- and are the codewords, if those fit
all_low_own : (ws : List ℕ) (cs : List ℤ) → length cs ≤ length ws → all_fit ws cs ≡ true → zip_with low_bits ws cs ≡ cs
unfolding every zip_with
all_low_own [] [] l h = refl
all_low_own [] (c ∷ cs) l h = absurd (omega arith)
all_low_own (w ∷ ws) [] l h = refl
all_low_own (w ∷ ws) (c ∷ cs) l h =
    let (a, b) = (every_cons (λ b. b) (fit w c) (zip_with fit ws cs)).0 h in
    ap₂ ◌∷◌ (low_bits_own w c a) (all_low_own ws cs (omega arith) b)

-- valid bits fit their fields
pub valid_fits : (c : List ℤ) → fits (valid c) ≡ true
unfolding fits valid
valid_fits c = all_low_fit widths c

-- codewords that fit are their own valid bits
pub valid_own : (c : List ℤ) → length c ≡ 76 → fits c ≡ true → valid c ≡ c
unfolding fits valid
valid_own c l h = all_low_own widths c (omega (arith, valid_length c l, zip_length low_bits widths c)) h

-- so are valid bits
pub valid_twice : (c : List ℤ) → valid (valid c) ≡ valid c
unfolding fits valid
valid_twice c = all_low_own widths (valid c) (omega (arith, zip_length low_bits widths c)) (valid_fits c)

-- the decoder uses the valid bits only: codewords with the same valid bits are received as the same frame
pub received_valid : (c c' : List ℤ) → valid c ≡ valid c' → received c ≡ received c'
unfolding received
received_valid c c' e = rw e

-- and decoded alike
pub decode_valid : (m : Decoder) (c c' s : List ℤ) → length c ≡ length c' → valid c ≡ valid c' → decode m c s ≡ decode m c' s
unfolding decode decode_refusal
decode_valid m c c' s l e = rw (l, received_valid c c' e)

-- ---- what the coder writes the decoder reads

-- the start indices of n sub-frames, the first at p
starts : ℕ → ℕ → List ℕ
starts p zero = []
starts p (suc n) = p ∷ starts (p + 17) n

-- the sub-frame that starts at an index of some codewords
abbrev read : List ℤ → ℕ → Subframe
read v p = sub_received (take 17 (drop p v))

-- a sub-frame is read as it was written
sub_read : (s : Subframe) → sub_received (sub_words s) ≡ s
unfolding sub_received sub_words
sub_read s = refl

-- also where other codewords stand around it
read_first : (l q : List ℤ) (s : Subframe) → length (sub_words s) ≡ 17 → read (l ++ (sub_words s ++ q)) (length l) ≡ s
read_first l q s h = rw (drop_at l (sub_words s ++ q) (length l) refl, take_at (sub_words s) q 17 h, sub_read)

-- so are sub-frames that follow one another
read_all : (l : List ℤ) (ss : List Subframe) → every full ss ≡ true
    → map (read (l ++ flatten (map sub_words ss))) (starts (length l) (length ss)) ≡ ss
unfolding starts every flatten
read_all l [] h = refl
read_all l (s ∷ ss) h =
    let (a, b) = (every_cons full s ss).0 h in
    let w = sized_length 17 (sub_words s) (sub_words_sized s a) in
    ap₂ ◌∷◌ (read_first l (flatten (map sub_words ss)) s w)
    (rw (append_assoc, length-append, w) at (read_all (l ++ sub_words s) ss b))

-- a frame whose codewords fit is read as it was written
pub received_words : (f : Frame) → FrameSizes f → fits (words f) ≡ true → received (words f) ≡ f
unfolding words received places starts
received_words f s h =
    let rest = flatten (map sub_words f.subframes) in
    let ss = read_all f.LARc f.subframes s.pulses in
    rw (valid_own (words f) (words_length f s) h, take_at f.LARc rest 8 s.LARc, rw (s.LARc, s.subframes) at ss)

-- so is a coded frame
pub received_coded : (c : Coder) (sop : List ℤ) → received (words (frame (coded c sop).1)) ≡ frame (coded c sop).1
received_coded c sop = received_words (frame (coded c sop).1) (coded_frame_sizes c sop) (coded_fits c sop)
