-- For a loop that codes the frames of one buffer, all of one size, into another buffer, one behind the other.
use Rattle.std.specs.Prelude.{ℕ, zero, suc, ◌+◌, ◌-◌, ◌*◌, ◌≤◌, ◌<◌, ◌≡◌, refl, length, take, drop, replicate}
use Rattle.std.proofs.Common.{sym, ap, ◌∙◌, mul-zero, mul-suc, add_comm, mul-le-mul_left, add-one, arith, append_assoc, take-append-drop, length-take, length-drop, drop_of_length-le, drop-drop}
use lib.Seq.{drop-append-le}
use mathlib.Core.List.{List, [], ◌∷◌, ◌++◌, append-nil, flatten}
use Rattle.math_lists.specs.Scan.{run, run_append}
use Rattle.math_lists.specs.Cut.{cut, flatten_last}
use Rattle.math_lists.specs.Parts.{put}
use Rattle.list_text.specs.Written.{Puts, puts_none, puts_length, puts_then}

-- parts of one size, and one more behind them
cut_more : (k n : ℕ) (xs : List ℕ) → cut (replicate (suc n) k) xs ≡ cut (replicate n k) xs ++ (take k (drop (k * n) xs) ∷ [])
unfolding cut
cut_more k zero xs = rw mul-zero
cut_more k (suc n) xs = rw (cut_more k n (drop k xs), drop-drop (k * n) k xs, mul-suc k n, add_comm k (k * n))

-- bytes put from the front of a buffer that is as long as they are fill it
pub puts_all : (t xs : List ℕ) {r : ℕ} {ys : List ℕ} → Puts 0 t xs r ys → length xs ≡ length t → ys ≡ t
puts_all t xs p h = p.text ∙ rw (drop_of_length-le xs {i = length t} (omega arith), append-nil)

-- and bytes that fill a buffer are put from its front on
pub puts_filled : {t xs ys : List ℕ} {r : ℕ} → ys ≡ t → length ys ≡ length xs → r ≡ length xs → Puts 0 t xs r ys
puts_filled {t} {xs} {ys} e l k =
    let n = ap length e in
    record { place = omega arith; text = e ∙ sym (rw (drop_of_length-le xs {i = length t} (omega arith), append-nil) refl) }

-- bytes put at the front of a part of a buffer, k bytes from index a on, are put where the part begins
pub puts_part : (a k : ℕ) {t xs ys : List ℕ} {r : ℕ} → a + k ≤ length xs → r ≤ k → Puts 0 t (take k (drop a xs)) r ys
    → Puts a t xs (a + r) (put a k xs ys)
puts_part a k {t} {xs} h l p =
    let d = drop a xs in
    let m = length t in
    let few : m ≤ length (take k d) = simp (length-take, length-drop) (omega (arith, p.place)) in
    let behind : drop m (take k d) ++ drop k d ≡ drop m d = sym (drop-append-le m (take k d) (drop k d) few)
    ∙ ap (drop m) (take-append-drop k d) in
    record {
      place = omega (arith, p.place);
      text = rw p.text (rw (append_assoc t (drop m (take k d)) (drop k d), behind) refl);
    }

-- a step takes a state and a frame's bytes to the next state and the bytes to be written
module _ {S : Type 0} (step : S → List ℕ → S × List ℕ) (size : ℕ) where
  -- the first n frames of xs one after the other, from the state s on
  abbrev pub through : S → ℕ → List ℕ → S × List (List ℕ)
  through s n xs = run step s (cut (replicate n size) xs)

  -- what coding them gives: the state after them, and their bytes at the front of the buffer, up to the index r
  pub record Through (s : S) (n : ℕ) (xs lent : List ℕ) (t : S) (r : ℕ) (left : List ℕ) : Type 0 where
    pub state : t ≡ (through s n xs).0
    pub bytes : Puts 0 (flatten (through s n xs).1) lent r left

  -- a step more
  run_last : (s : S) (ps : List (List ℕ)) (x : List ℕ)
      → let t = step (run step s ps).0 x in run step s (ps ++ (x ∷ [])) ≡ (t.0, (run step s ps).1 ++ (t.1 ∷ []))
  unfolding run
  run_last s ps x = run_append step s ps (x ∷ [])

  -- before the loop
  pub through_none : (s : S) (xs lent : List ℕ) → Through s 0 xs lent s 0 lent
  unfolding cut run flatten
  through_none s xs lent = record { state = refl; bytes = puts_none 0 lent }

  -- a frame more: the one behind the first n
  through_more : (s : S) (n : ℕ) (xs : List ℕ) → let t = step (through s n xs).0 (take size (drop (size * n) xs)) in
      through s (n + 1) xs ≡ (t.0, (through s n xs).1 ++ (t.1 ∷ []))
  through_more s n xs = rw (add-one, cut_more size n xs) (run_last s (cut (replicate n size) xs) (take size (drop (size * n) xs)))

  -- the state after it, as the code takes it
  pub through_goes : (s : S) (n : ℕ) (xs : List ℕ) {t u : S} → t ≡ (through s n xs).0
      → let f = take (size * n + size - size * n) (drop (size * n) xs) in u ≡ (step t f).0 → u ≡ (through s (n + 1) xs).0
  through_goes s n xs p e =
      let k : size * n + size - size * n ≡ size = omega arith in
      rw (through_more s n xs, ← p) (rw k at e)

  -- a turn: this frame, and its bytes put behind theirs
  pub through_next : {s t : S} {n r : ℕ} {xs lent left : List ℕ} → Through s n xs lent t r left → r ≤ length lent
      → {u : S} {q : ℕ} {after : List ℕ} → let f = take (size * n + size - size * n) (drop (size * n) xs) in
      u ≡ (step t f).0 → Puts r (step t f).1 left q after → Through s (n + 1) xs lent u q after
  through_next {s} {t} {n} {r} {xs} p h e w =
      let k : size * n + size - size * n ≡ size = omega arith in
      let x = take size (drop (size * n) xs) in
      record {
        state = through_goes s n xs p.state e;
        bytes = rw (through_more s n xs, ← p.state) (rw (flatten_last (through s n xs).1 (step t x).1) (puts_then p.bytes h (rw k at w)));
      }

  -- a turn where each frame gives m bytes, and the part of the buffer for them is passed
  through_part : (m : ℕ) {s t : S} {n : ℕ} {xs lent left : List ℕ} → Through s n xs lent t (m * n) left → m * n ≤ length lent
      → {u : S} {y : List ℕ} → length y ≡ m → let f = take (size * n + size - size * n) (drop (size * n) xs) in
      u ≡ (step t f).0 → y ≡ (step t f).1
      → Through s (n + 1) xs lent u (m * (n + 1)) (put (m * n) (m * n + m - m * n) left y)
  through_part m {n} p h {y} l e w =
      let j : m * n + m - m * n ≡ length y = omega arith in
      through_next p h e (record { place = rw (add-one, mul-suc, ← w) (omega arith); text = rw (j, ← w) })

  -- ---- a loop over n frames, each of which gives m bytes

  -- before frame i the first i are coded
  pub record Coding (m : ℕ) (s : S) (n : ℕ) (xs lent : List ℕ) (t : S) (i : ℕ) (left : List ℕ) : Type 0 where
    pub within : i ≤ n
    pub room : length left ≡ length lent
    pub coded : Through s i xs lent t (m * i) left

  -- before the first
  pub coding_start : (m : ℕ) (s : S) (n : ℕ) (xs lent : List ℕ) → Coding m s n xs lent s 0 lent
  coding_start m s n xs lent = record { within = omega arith; room = refl; coded = rw mul-zero (through_none s xs lent) }

  -- a turn: frame i, and its bytes in the part of the buffer that is passed for them
  pub coding_next : (m : ℕ) {s t : S} {n i : ℕ} {xs lent left : List ℕ} → Coding m s n xs lent t i left
      → i < n → m * n ≤ length lent → {u : S} {y : List ℕ} → length y ≡ m
      → let f = take (size * i + size - size * i) (drop (size * i) xs) in u ≡ (step t f).0 → y ≡ (step t f).1
      → Coding m s n xs lent u (i + 1) (put (m * i) (m * i + m - m * i) left y)
  coding_next m {n} {i} p h r l e w =
      let k : m * i + m ≤ m * n = rw mul-suc at (mul-le-mul_left m h) in
      let c = through_part m p.coded (omega arith) l e w in
      record { within = omega arith; room = puts_length c.bytes (rw (add-one, mul-suc) (omega arith)); coded = c }

  -- after the last
  pub coding_end : (m : ℕ) {s t : S} {n i : ℕ} {xs lent left : List ℕ} → Coding m s n xs lent t i left → n ≤ i
      → Through s n xs lent t (m * n) left
  coding_end m {n} {i} p h =
      let e : i ≡ n = omega arith in
      rw e at p.coded
