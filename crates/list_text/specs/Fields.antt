-- Fields of a line, each after its tab; and how long a number's field can be.
use Rattle.std.specs.Prelude.{ℕ, zero, suc, ◌+◌, ◌/◌, ◌%◌, ◌^◌, ◌≤◌, ◌<◌, ◌≡◌, refl, Bool, false, List, [], ◌∷◌, ◌++◌, map, ltb, ℤ, pos, length, get_or, take, drop, set}
use Rattle.std.specs.Fmt as fmt
use Rattle.std.proofs.Common.{sym, ⊎_elim, append_assoc, append-nil, add-one, arith, length-append, length-set, take-suc, drop-cons, get_or-set_same, drop-set-lt, lt-ltb, le-ltb, ltb-true, ltb-false, pow-suc}
use Rattle.std.proofs.lemmas.Fmt.{decimal_by_steps}
use Rattle.std.proofs.lemmas.List.{map-append}
use Rattle.std.proofs.Math.Seq.{append_snoc}
use Rattle.math_integers.specs.Halves.{le_or_lt}
use Rattle.math_lists.specs.First.{first, first_ge, first_holds, first_least, first_until, first_unique}
use Rattle.standard.specs.Listing.{digits, decimal, word, line}

-- each field after a tab
unfoldable pub tabbed : List (List ℕ) → List ℕ
tabbed [] = []
tabbed (f ∷ fs) = 9 ∷ (f ++ tabbed fs)

-- a line is its first field, the others each after a tab, and the line feed
pub line_is : (f : List ℕ) (fs : List (List ℕ)) → line (f ∷ fs) ≡ f ++ (tabbed fs ++ (10 ∷ []))
unfolding tabbed line
line_is f [] = refl
line_is f (g ∷ fs) = rw (line_is g fs, append_assoc)

-- the fields of two lists, joined
tabbed_append : (fs gs : List (List ℕ)) → tabbed (fs ++ gs) ≡ tabbed fs ++ tabbed gs
unfolding tabbed
tabbed_append [] gs = refl
tabbed_append (f ∷ fs) gs = rw (tabbed_append fs gs, append_assoc)

-- the fields of one word more, a turn of a loop over words
pub tabbed_next : (ws : List ℤ) (i : ℕ) → i < length ws
    → tabbed (map word (take (i + 1) ws)) ≡ tabbed (map word (take i ws)) ++ (9 ∷ word (get_or ws i (pos 0)))
unfolding tabbed
tabbed_next ws i h =
    let w = get_or ws i (pos 0) in
    rw (add-one, take-suc ws i (pos 0) h, map-append word (take i ws) (w ∷ []), tabbed_append, append-nil (word w)) refl

-- as many digits as n needs
abbrev pub digit_count : ℕ → ℕ
digit_count n = first (λ k. ltb n (10 ^ k)) n 1

-- there are k of the last k digits
pub digits_length : (k n : ℕ) → length (digits k n) ≡ k
unfolding digits
digits_length zero n = refl
digits_length (suc k) n = omega (arith, length-append (digits k (n / 10)) ((48 + n % 10) ∷ []), digits_length k (n / 10))

-- a turn of a loop that stores the digits from the right, whose invariant is `digits e n ≡ digits i rest ++ drop i out`. No function has
-- such a loop now
pub digits_next : (i rest : ℕ) (out : List ℕ) → i < length out
    → digits (suc i) rest ++ drop (suc i) out ≡ digits i (rest / 10) ++ drop i (set out i (48 + rest % 10))
unfolding digits
digits_next i rest out h =
    let d = 48 + rest % 10 in
    let split = drop-cons (set out i d) i 0 (omega (arith, length-set out i d)) in
    rw (split, get_or-set_same out i d 0 h, drop-set-lt (suc i) out i d (omega arith), append_snoc)

-- a number has as many digits as it needs
pub decimal_length : (n : ℕ) → length (decimal n) ≡ digit_count n
unfolding decimal
decimal_length n = digits_length (digit_count n) n

-- and below ten million at most seven
pub digit_count_most : (n : ℕ) → n < 10000000 → digit_count n ≤ 7
digit_count_most n h = first_until (λ k. ltb n (10 ^ k)) n 1 7 (omega arith) (lt-ltb n 10000000 h)

-- a number below ten needs one
digit_one : (n : ℕ) → n < 10 → digit_count n ≡ 1
digit_one n h =
    let p : ℕ → Bool = λ k. ltb n (10 ^ k) in
    omega (arith, first_ge p n 1, first_until p n 1 1 (omega arith) (lt-ltb n 10 h))

-- which is its byte
pub decimal_one : (n : ℕ) → n < 10 → decimal n ≡ (48 + n) ∷ []
unfolding decimal digits
decimal_one n h =
    let same : n % 10 ≡ n = omega arith in
    rw (digit_one n h, same) refl

-- so its digits are enough for it
pub digits_enough : (n : ℕ) → n < 10000000 → n < 10 ^ digit_count n
digits_enough n h = ⊎_elim (λ (few : n ≤ 9). rw (digit_one n (omega arith)) (omega arith)) enough (le_or_lt n 9)
  where
    enough : 9 < n → n < 10 ^ digit_count n
    enough many = ltb-true n (10 ^ digit_count n) (first_holds (λ k. ltb n (10 ^ k)) n 1 (omega (arith, digit_count_most n h)))

-- a number from ten on needs one more than its tenth
digit_more : (n : ℕ) → 10 ≤ n → n < 10000000 → digit_count n ≡ suc (digit_count (n / 10))
digit_more n h l =
    first_unique (λ k. ltb n (10 ^ k)) n 1 (suc (digit_count (n / 10))) (omega arith)
    (omega (arith, digit_count_most (n / 10) (omega arith))) before
    (λ _. lt-ltb n (10 ^ suc (digit_count (n / 10))) (rw pow-suc (omega (arith, digits_enough (n / 10) (omega arith)))))
  where
    before : (j : ℕ) → 1 ≤ j → j < suc (digit_count (n / 10)) → ltb n (10 ^ j) ≡ false
    before zero a b = absurd (omega arith)
    before (suc zero) a b = le-ltb n 10 h
    before (suc (suc i)) a b =
        let t = first_least (λ k. ltb (n / 10) (10 ^ k)) (n / 10) 1 (suc i) (omega arith) (omega arith) in
        le-ltb n (10 ^ suc (suc i)) (rw pow-suc (omega (arith, ltb-false (n / 10) (10 ^ suc i) t)))

-- what the library prints of a number of at most seven digits is the definition's text
pub printed : (n : ℕ) → n < 10000000 → fmt.decimal n ≡ decimal n
unfolding decimal digits
printed n h = decimal_by_steps (λ m ds. m < 10000000 → ds ≡ decimal m) one more n (omega arith) h
  where
    one : (m : ℕ) → m < 10 → m < 10000000 → (48 + m) ∷ [] ≡ decimal m
    one m few l = sym (decimal_one m few)

    more : (m : ℕ) (ds : List ℕ) → 10 ≤ m → (m / 10 < 10000000 → ds ≡ decimal (m / 10)) → m < 10000000
        → ds ++ ((48 + m % 10) ∷ []) ≡ decimal m
    more m ds many e l = rw (digit_more m many l, e (omega arith)) refl

-- and at most seven bytes
pub decimal_most : (n : ℕ) → n < 10000000 → length (decimal n) ≤ 7
decimal_most n h = omega (arith, decimal_length n, digit_count_most n h)
