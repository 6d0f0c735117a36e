-- Text written into a list from an index on.
use Rattle.std.specs.Prelude.{ℕ, ◌+◌, ◌≤◌, ◌≡◌, refl, List, [], ◌++◌, length, take, drop}
use Rattle.std.proofs.Common.{sym, ap, ◌∙◌, append_assoc, arith, take-append-drop, length-append, length-take, length-drop, length-take-le, drop-drop}
use Rattle.std.proofs.Math.Seq.{take-append_seam}
use Rattle.math_lists.specs.Parts.{put, lent_next}

module _ {A : Type 0} where
  -- xs with t in it from index a on
  abbrev pub written : ℕ → List A → List A → List A
  written a t xs = put a (length t) xs t

  -- an empty text changes nothing
  written_none : (a : ℕ) (xs : List A) → written a [] xs ≡ xs
  written_none a xs = take-append-drop a xs

  -- the list keeps its length
  written_length : (a : ℕ) (t xs : List A) → a + length t ≤ length xs → length (written a t xs) ≡ length xs
  written_length a t xs h = simp (length-append, length-take, length-drop) (omega arith)

  -- a text written where another one ends: the list has both, joined
  written_then : (a : ℕ) (t u xs : List A) → a + length t ≤ length xs
      → written (a + length t) u (written a t xs) ≡ written a (t ++ u) xs
  written_then a t u xs h =
      let l : length (take a xs ++ t) ≡ a + length t = rw (length-append, length-take-le a xs (omega arith)) refl in
      let joined = append_assoc (take a xs) (t ++ u) (drop (length (t ++ u)) (drop a xs)) in
      ap (λ (ys : List A). written (a + length t) u ys) (sym (append_assoc (take a xs) t (drop (length t) (drop a xs))))
      ∙ lent_next (take a xs ++ t) (drop (length t) (drop a xs)) u (a + length t) (length u) l
      ∙ rw (drop-drop (length u) (length t) (drop a xs), ← length-append t u, append_assoc (take a xs) t u, joined)

-- what a function that puts text t gives: r, the index after t, and ys, the list xs with t in it from index a on
pub record Puts {A : Type 0} (a : ℕ) (t xs : List A) (r : ℕ) (ys : List A) : Type 0 where
  pub place : r ≡ a + length t
  pub text : ys ≡ written a t xs

-- nothing put
pub puts_none : {A : Type 0} (a : ℕ) (xs : List A) → Puts a [] xs a xs
puts_none a xs = record { place = omega arith; text = sym (written_none a xs) }

-- what is put from the front is what the list begins with
pub puts_front : {A : Type 0} {t xs : List A} {r : ℕ} {ys : List A} → Puts 0 t xs r ys → take r ys ≡ t
puts_front {t} {xs} p =
    let r : _ ≡ length t = p.place ∙ omega arith in
    rw (r, p.text) (take-append_seam t (drop (length t) xs))

module _ {A : Type 0} {a : ℕ} {t xs : List A} {r : ℕ} {ys : List A} (p : Puts a t xs r ys) (h : r ≤ length xs) where
  -- the list keeps its length
  pub puts_length : length ys ≡ length xs
  puts_length = rw p.text (written_length a t xs (omega (arith, p.place)))

  -- a text put where it ends: both are put, joined
  pub puts_then : {u : List A} {s : ℕ} {zs : List A} → Puts r u ys s zs → Puts a (t ++ u) xs s zs
  puts_then {u} q =
      record {
        place = rw length-append (omega (arith, p.place, q.place));
        text = q.text ∙ rw (p.place, p.text) (written_then a t u xs (omega (arith, p.place)));
      }

-- the same of a text that ends at k at the latest
module _ {A : Type 0} {a k : ℕ} {t xs : List A} {r : ℕ} {ys : List A} (p : Puts a t xs r ys × (r ≤ k)) where
  -- where there were m more bytes behind k, there are m behind the text
  pub puts_room : (m : ℕ) → k + m ≤ length xs → r + m ≤ length ys
  puts_room m h = omega (arith, p.1, puts_length p.0 (omega (arith, p.1)))

  -- and one of at most m bytes, put where it ends, ends at k + m at the latest
  pub puts_more : (m : ℕ) → k ≤ length xs → {u : List A} {s : ℕ} {zs : List A}
      → Puts r u ys s zs × (s ≤ r + m) → Puts a (t ++ u) xs s zs × (s ≤ k + m)
  puts_more m h q = (puts_then p.0 (omega (arith, p.1)) q.0, omega (arith, p.1, q.1))
