-- For a loop that fills a slice from the front. Its invariant is `l ≡ filled i t d`: t is the target, d what stood there before.
use Rattle.std.specs.Prelude.{◌≡◌, List, ◌++◌, ℕ, suc, ◌+◌, ◌-◌, ◌≤◌, ◌<◌, length, set, drop, take, get_or}
use Rattle.std.proofs.Common.{append-nil, add-one, arith, length-append, length-take, length-drop, drop_of_length-le, take_all, take-suc, drop-cons, length-take-le, get_or-append-add, get_or-drop}
use Rattle.std.proofs.Math.Seq.{append_snoc}
use Rattle.std.proofs.lemmas.List.{set_at}

module _ {A : Type 0} where
  -- the first i elements of t, then what d has from i on
  abbrev pub filled : ℕ → List A → List A → List A
  filled i t d = take i t ++ drop i d

  module _ (t d : List A) (i : ℕ) {l : List A} (h : l ≡ filled i t d) where
    -- an iteration: t's element is stored at index i
    pub fill_next : (z : A) {v : A} → i < length t → i < length d → v ≡ get_or t i z → set l i v ≡ filled (i + 1) t d
    fill_next z p q e =
        rw (h, e, add-one, take-suc t i z, append_snoc, drop-cons d i z)
        (set_at (take i t) (get_or d i z) (drop (suc i) d) (get_or t i z) i (length-take-le i t (omega arith)))

    -- within an iteration: what is read at i or beyond is what stood there before, so a map in place reads the old element
    pub fill_read : (j : ℕ) (z : A) → i ≤ length t → i ≤ j → get_or l j z ≡ get_or d j z
    fill_read j z p q =
        let k : j ≡ length (take i t) + (j - i) = rw (length-take-le i t) (omega arith) in
        rw (h, k, get_or-append-add, get_or-drop, length-take-le i t)

    -- at any iteration: the list keeps its length
    pub fill_length : i ≤ length t → i ≤ length d → length l ≡ length d
    fill_length p q = rw h (simp (length-append, length-take, length-drop) (omega arith))

    -- after the loop: the list is t
    pub fill_end : length t ≤ i → length d ≤ i → l ≡ t
    fill_end p q = rw (take_all i t p, drop_of_length-le d q, append-nil) at h
