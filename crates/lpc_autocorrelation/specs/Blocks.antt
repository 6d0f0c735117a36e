-- 4.2.4 in blocks of 32: with eight zeros before the samples, each of the nine sums goes over all 160, and is the sum of five blocks.
use Rattle.std.specs.Prelude.{ℕ, ◌+◌, ◌-◌, ◌*◌, ◌≤◌, ◌<◌, ◌≡◌, refl, true, List, ◌++◌, ℤ, pos, ◌+ℤ◌, ◌*ℤ◌, nat_abs, length, take, drop, replicate}
use Rattle.std.proofs.Common.{sym, ap, ◌∙◌, append_assoc, arith, length-take, length-drop, length-append, take_all, take_at, drop_at, drop-drop, length-take-le, SFits, leb-true}
use Rattle.std.proofs.lemmas.List.{length-replicate, get_or-replicate, replicate-append-replicate}
use Rattle.std.specs.Int.{w32}
use Rattle.math_integers.specs.Halves.{P, N, zar, abs_is}
use Rattle.math_integers.specs.Sums.{add_is, mul_in}
use Rattle.math_lists.specs.Every.{every, every_at, every_take, every_drop, every_append, every_replicate}
use Rattle.standard.specs.Arithmetic.{L_sum}
use Rattle.standard.specs.Tables.{◌at◌}
use Rattle.standard.specs.Lpc.{L_ACF}
use Rattle.op_sums.specs.Room.{at_most, Headroom, L_sum_in}
use Rattle.op_sums.specs.Split.{L_sum_parts}
use Rattle.lpc_autocorrelation.specs.Bounds.{small_room, small_within, small_in, L_ACF_at}

-- the samples after eight zeros
abbrev pub padded : List ℤ → List ℤ
padded s = replicate 8 (pos 0) ++ s

-- the sum of n products, from indices a and b on
abbrev pub products : List ℤ → ℕ → ℕ → ℕ → ℤ
products z n a b = L_sum (pos 0) (take n (drop a z)) (take n (drop b z))

-- that of the first n at distance k
abbrev pub upto : List ℤ → ℕ → ℕ → ℤ
upto z k n = products z n 8 (8 - k)

-- ---- block by block

module _ (z : List ℤ) (l : length z ≡ 168) (p : every (at_most 2048) z ≡ true) where
  module _ (n a b : ℕ) (u : a + n ≤ 168) (v : b + n ≤ 168) (q : n ≤ 160) where
    part_length : (c : ℕ) → c + n ≤ 168 → length (take n (drop c z)) ≡ n
    part_length c h = simp (length-take, length-drop) (omega arith)

    part_small : (c : ℕ) → every (at_most 2048) (take n (drop c z)) ≡ true
    part_small c = every_take (at_most 2048) n (drop c z) (every_drop (at_most 2048) c z p)

    same : length (take n (drop a z)) ≡ length (take n (drop b z))
    same = part_length a u ∙ sym (part_length b v)

    few : length (take n (drop a z)) ≤ 160
    few = rw (part_length a u) q

    -- the code may add them on 32 bits
    pub parts_room : Headroom (take n (drop a z)) (take n (drop b z))
    parts_room = small_room _ _ same few (part_small a) (part_small b)

    -- their sum is within as many times the greatest product, doubled
    pub parts_in : nat_abs (products z n a b) ≤ n * 8388608
    parts_in = rw (part_length a u) at (small_within _ _ same few (part_small a) (part_small b))

    -- and fits
    pub parts_fit : SFits w32 (products z n a b)
    parts_fit = omega (zar, small_in _ _ same few (part_small a) (part_small b), abs_is (products z n a b))

  -- each of them is small
  each : (a b i : ℕ) → a + i < 168 → b + i < 168 → nat_abs (drop a z at i *ℤ drop b z at i) ≤ 4194304
  each a b i u v =
      let x = drop a z at i in
      let y = drop b z at i in
      let f : (c : ℕ) → c + i < 168 → nat_abs (drop c z at i) ≤ 2048 =
      λ c h. let s = every_drop (at_most 2048) c z p in
      leb-true _ 2048 (every_at (at_most 2048) (drop c z) i (pos 0) s (omega (arith, length-drop c z))) in
      rw (abs_is (x *ℤ y)) (mul_in 2048 2048 x y (omega (arith, f a u, abs_is x)) (omega (arith, f b v, abs_is y)))

  -- the first n and the m after them
  pub parts_next : (n m a b : ℕ) → a + (n + m) ≤ 168 → b + (n + m) ≤ 168 → n + m ≤ 160
      → products z (n + m) a b ≡ products z n a b +ℤ products z m (a + n) (b + n)
  parts_next n m a b u v q =
      let x : n + m ≤ length (drop a z) = omega (arith, length-drop a z) in
      let y : n + m ≤ length (drop b z) = omega (arith, length-drop b z) in
      L_sum_parts n m (drop a z) (drop b z) 4194304 x y (λ i h. each a b i (omega arith) (omega arith)) (omega arith)
      ∙ rw (drop-drop n a z, drop-drop n b z) refl

-- ---- all of them are the nine sums

-- a sum of products with zeros is 0
zeros_sum : (xs : List ℤ) (n : ℕ) → length xs ≡ n → L_sum (pos 0) xs (replicate n (pos 0)) ≡ pos 0
zeros_sum xs n l =
    let ys = replicate n (pos 0) in
    let each : (i : ℕ) → i < length xs → nat_abs (xs at i *ℤ ys at i) ≤ 0 =
    λ i h. rw (get_or-replicate n i (pos 0) (pos 0) (omega arith), abs_is (xs at i *ℤ pos 0))
    (omega (arith, mul_in (P (xs at i) + N (xs at i)) 0 (xs at i) (pos 0) (omega arith) (omega arith))) in
    let b = L_sum_in xs ys 0 (l ∙ sym (length-replicate n (pos 0))) each (omega arith) in
    omega (zar, b, abs_is (L_sum (pos 0) xs ys))

module _ (s : List ℤ) (l : length s ≡ 160) (p : every (at_most 2048) s ≡ true) where
  pub padded_length : length (padded s) ≡ 168
  padded_length = omega (arith, length-append (replicate 8 (pos 0)) s)

  pub padded_small : every (at_most 2048) (padded s) ≡ true
  padded_small = rw (every_append (at_most 2048) (replicate 8 (pos 0)) s, every_replicate (at_most 2048) 8 (pos 0) refl) p

  module _ (k : ℕ) (h : k < 9) where
    -- the list from k before the samples on
    before : drop (8 - k) (padded s) ≡ replicate k (pos 0) ++ s
    before =
        let e : (8 - k) + k ≡ 8 = omega arith in
        let x = replicate (8 - k) (pos 0) in
        let y = replicate k (pos 0) in
        ap (λ (n : ℕ). drop (8 - k) (replicate n (pos 0) ++ s)) (sym e)
        ∙ (ap (λ (t : List ℤ). drop (8 - k) (t ++ s)) (sym (replicate-append-replicate (8 - k) k (pos 0)))
        ∙ (ap (drop (8 - k)) (append_assoc x y s) ∙ drop_at x (y ++ s) (8 - k) (length-replicate (8 - k) (pos 0))))

    -- the first k products are with zeros
    none : products (padded s) k 8 (8 - k) ≡ pos 0
    none =
        let z = replicate k (pos 0) in
        ap (λ (t : List ℤ). L_sum (pos 0) (take k s) (take k t)) before
        ∙ rw (take_at z s k (length-replicate k (pos 0))) (zeros_sum (take k s) k (length-take-le k s (omega arith)))

    -- the others are those of 4.2.4
    others : products (padded s) (160 - k) (8 + k) ((8 - k) + k) ≡ L_ACF s at k
    others =
        let e : (8 - k) + k ≡ 8 = omega arith in
        let late = drop-drop k 8 (padded s) in
        let all = take_all (160 - k) (drop k s) (omega (arith, length-drop k s)) in
        rw (e, ← late, all) (sym (L_ACF_at s l k h))

    pub upto_all : upto (padded s) k 160 ≡ L_ACF s at k
    upto_all =
        let e : k + (160 - k) ≡ 160 = omega arith in
        ap (upto (padded s) k) (sym e)
        ∙ (parts_next (padded s) padded_length padded_small k (160 - k) 8 (8 - k) (omega arith) (omega arith) (omega arith)
        ∙ rw (none, others) (omega (zar, add_is (pos 0) (L_ACF s at k))))
