-- House rules, 'A-law', for every code and every value: a code comes back, its range, the one segment; samples of octets are words.
use Rattle.std.specs.Prelude.{ℕ, ◌+◌, ◌-◌, ◌/◌, ◌%◌, ◌<◌, ◌≤◌, ◌≡◌, refl, Bool, true, not, ◌&&◌, ◌||◌, List, eqb, leb, ltb, ℤ, pos, negsuc, nat_abs, ◌*ℤ◌, length}
use Rattle.std.proofs.Common.{ap, arith, eqb-true, leb-true, ltb-true}
use Rattle.std.proofs.Math.Bool.{and-eq-true_iff}
use Rattle.std.proofs.lemmas.List.{length-map}
use Rattle.std.specs.Int.{w16}
use mir.Val.{SFits}
use Rattle.math_integers.specs.Halves.{zar, abs_is}
use Rattle.math_integers.specs.Sums.{neg_is, scale_is}
use Rattle.math_lists.specs.First.{first, by_cond}
use Rattle.math_lists.specs.Every.{every, every_tab, every_map, every_all}
use Rattle.math_lists.specs.Tab.{tab}
use Rattle.standard.specs.Arithmetic.{◌>>◌}
use Rattle.standard.specs.Tables.{neg}
use Rattle.standard.specs.Alaw.{turned, magnitude, expanded, in_segment, segment, placed, compressed, limited, alaw_samples, alaw_octets}
use Rattle.law_arithmetic.specs.Within.{word, word_yes}
use Rattle.pcm_alaw.specs.Rules.{placed_below}

-- ---- a code that is expanded and then compressed is the same code again

all_back : every (λ c. eqb (compressed (expanded c)) c) (tab (λ c. c) 0 256) ≡ true
unfolding every tab first magnitude expanded segment placed compressed
all_back = refl

pub compress_expand : (c : ℕ) → c < 256 → compressed (expanded c) ≡ c
compress_expand c h = eqb-true (compressed (expanded c)) c (every_tab _ (λ c. c) 256 c all_back h)

-- ---- the magnitude of a value is from 1 to 4032, for every code

-- for all 128 pairs of segment and step, by one computed test
all_magnitudes : every (λ k. leb 1 (magnitude (k / 16) (k % 16)) && leb (magnitude (k / 16) (k % 16)) 4032) (tab (λ k. k) 0 128) ≡ true
unfolding every tab magnitude
all_magnitudes = refl

magnitude_range : (k : ℕ) → let m = magnitude (k / 16 % 8) (k % 16) in (1 ≤ m) × (m ≤ 4032)
magnitude_range k =
    let t = every_tab _ (λ (i : ℕ). i) 128 (k % 128) all_magnitudes (omega arith) in
    let segments : k % 128 / 16 ≡ k / 16 % 8 = omega arith in
    let steps : k % 128 % 16 ≡ k % 16 = omega arith in
    let (least, most) = (and-eq-true_iff _ _).0 (rw (segments, steps) at t) in
    (leb-true 1 _ least, leb-true _ 4032 most)

pub expanded_range : (c : ℕ) → (1 ≤ nat_abs (expanded c)) × (nat_abs (expanded c) ≤ 4032)
unfolding expanded
expanded_range c =
    let r = magnitude_range (turned c) in
    let m = magnitude (turned c / 16 % 8) (turned c % 16) in
    by_cond (λ z. (1 ≤ nat_abs z) × (nat_abs z ≤ 4032)) (ltb (turned c) 128)
    (λ _. omega (arith, abs_is (neg m), neg_is (pos m), r))
    (λ _. r)

-- the magnitude is at most 4032
pub expanded_most : (c : ℕ) → nat_abs (expanded c) ≤ 4032
expanded_most c = (expanded_range c).1

-- no code stands for 0
pub never_zero : (c : ℕ) → ¬ (expanded c ≡ pos 0)
never_zero c e = let l : nat_abs (expanded c) ≡ 0 = ap nat_abs e in absurd (omega (arith, expanded_range c))

-- ---- there is one segment, and no other

-- if the quotient test holds for s, then s is the segment
abbrev as_said : ℕ → ℕ → Bool
as_said n s = not (in_segment n s) || eqb s (segment n)

all_segments : every
    (λ n. (leb 1 (segment n) && leb (segment n) 7) && (in_segment n (segment n) && every (as_said n) (tab (1 +◌) 0 7)))
    (tab (32 +◌) 0 4064)
    ≡ true
unfolding every tab first segment
all_segments = refl

-- from 32 to 4095 the segment is from 1 to 7, its quotient is 16 to 31, and no other segment has such a quotient
pub one_segment : (n : ℕ) → 32 ≤ n → n < 4096
    → (1 ≤ segment n) × (segment n ≤ 7) × (in_segment n (segment n) ≡ true)
    × ((s : ℕ) → 1 ≤ s → s ≤ 7 → in_segment n s ≡ true → s ≡ segment n)
one_segment n l h =
    let place : 32 + (n - 32) ≡ n = omega arith in
    let t = rw place at (every_tab _ (32 +◌) 4064 (n - 32) all_segments (omega arith)) in
    let (range, rest) = (and-eq-true_iff _ _).0 t in
    let (least, most) = (and-eq-true_iff _ _).0 range in
    let (own, others) = (and-eq-true_iff _ _).0 rest in
    (leb-true 1 _ least, leb-true _ 7 most, own, only n others)
  where
    only : (n : ℕ) → every (as_said n) (tab (1 +◌) 0 7) ≡ true → (s : ℕ) → 1 ≤ s → s ≤ 7 → in_segment n s ≡ true → s ≡ segment n
    only n others s a b e =
        let place : 1 + (s - 1) ≡ s = omega arith in
        let u = rw (place, e) at (every_tab (as_said n) (1 +◌) 7 (s - 1) others (omega arith)) in
        eqb-true s (segment n) u

-- ---- a code has eight bits

all_turned : every (λ c. ltb (turned c) 256) (tab (λ c. c) 0 256) ≡ true
unfolding every tab
all_turned = refl

turned_byte : (c : ℕ) → c < 256 → turned c < 256
turned_byte c h = ltb-true (turned c) 256 (every_tab _ (λ c. c) 256 c all_turned h)

pub compressed_byte : (v : ℤ) → compressed v < 256
unfolding compressed
compressed_byte (pos n) = turned_byte (128 + placed (limited n)) (omega (arith, placed_below (limited n) (omega arith)))
compressed_byte (negsuc n) = turned_byte (placed (limited n)) (omega (arith, placed_below (limited n) (omega arith)))

-- ---- samples are words, for all octets, and so are their values

pub expanded_fits : (c : ℕ) → SFits w16 (expanded c)
expanded_fits c = omega (zar, expanded_most c, abs_is (expanded c))

pub sample_fits : (c : ℕ) → SFits w16 (expanded c *ℤ pos 8)
sample_fits c = omega (zar, expanded_most c, abs_is (expanded c), scale_is (expanded c) 8)

sample_word : (c : ℕ) → word (expanded c *ℤ pos 8) ≡ true
sample_word c = word_yes _ (sample_fits c)

pub samples_words : (octets : List ℕ) → every word (alaw_samples octets) ≡ true
unfolding alaw_samples
samples_words octets = rw every_map (every_all (λ c. word (expanded c *ℤ pos 8)) sample_word octets)

-- ---- as many samples as octets, and as many octets as samples

pub samples_length : (octets : List ℕ) → length (alaw_samples octets) ≡ length octets
unfolding alaw_samples
samples_length octets = length-map octets (λ code. expanded code *ℤ pos 8)

pub octets_length : (samples : List ℤ) → length (alaw_octets samples) ≡ length samples
unfolding alaw_octets
octets_length samples = length-map samples (λ x. compressed (x >> 3))
