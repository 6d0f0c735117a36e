-- For a function that passes parts of one slice, one after the other, as buffers to functions that fill them.
use Rattle.std.specs.Prelude.{◌≡◌, ℕ, ◌+◌, ◌≤◌, take}
use Rattle.std.proofs.Math.Path.{refl}
use Rattle.std.proofs.Common.{ap, ◌∙◌, arith, length-drop, drop_of_length-le, take_at, drop_at}
use mathlib.Core.List.{List, [], ◌∷◌, ◌++◌, append_assoc, append-nil, flatten}
use Rattle.std.proofs.Math.ListN.{length, drop, length-append, length-take}
use Rattle.std.proofs.Math.Seq.{drop-drop}

module _ {A : Type 0} where
  -- xs after its k elements from index a on were passed as a buffer and came back as ys
  abbrev pub put : ℕ → ℕ → List A → List A → List A
  put a k xs ys = take a xs ++ (ys ++ drop k (drop a xs))

  -- p stands first, and the part that was passed starts where p ends
  pub lent_next : (p q y : List A) (a k : ℕ) → length p ≡ a → put a k (p ++ q) y ≡ (p ++ y) ++ drop k q
  lent_next p q y a k h = rw (take_at p q a h, drop_at p q a h, append_assoc)

  -- a part of n elements that was put first, and came back as t
  module _ (n : ℕ) {y t : List A} (e : y ≡ t) (h : length t ≡ n) (rest : List A) where
    -- is read there
    pub front_back : take n (y ++ rest) ≡ t
    front_back = take_at y rest n (ap length e ∙ h) ∙ e

    -- so there is room for it
    pub front_room : n ≤ length (y ++ rest)
    front_room = omega (arith, length-append y rest, ap length e)

  -- each part is put where the one before ended, the first at a
  unfoldable pub lends : ℕ → List (List A) → List A → List A
  lends a [] xs = xs
  lends a (p ∷ ps) xs = lends (a + length p) ps (put a (length p) xs p)

  lends_from : (ps : List (List A)) (d r : List A) → lends (length d) ps (d ++ r) ≡ (d ++ flatten ps) ++ drop (length (flatten ps)) r
  unfolding lends flatten
  lends_from [] d r = rw append-nil
  lends_from (p ∷ ps) d r =
      rw (
        lent_next d r p (length d) (length p) refl,
        ← length-append d p,
        lends_from ps (d ++ p) (drop (length p) r),
        drop-drop,
        length-append p (flatten ps),
        append_assoc d p (flatten ps),
      )

  -- parts that follow d and fill the list up are what the list has after d; with no d, they are the list
  pub lends_all : (d r : List A) (ps : List (List A)) → length r ≡ length (flatten ps) → lends (length d) ps (d ++ r) ≡ d ++ flatten ps
  lends_all d r ps h = rw (lends_from ps d r, drop_of_length-le r {i = length (flatten ps)} (omega arith), append-nil)

  -- parts that lie within the list leave its length as it was
  pub lends_length : (a : ℕ) (ps : List (List A)) (xs : List A) → a + length (flatten ps) ≤ length xs → length (lends a ps xs) ≡ length xs
  unfolding lends flatten
  lends_length a [] xs h = refl
  lends_length a (p ∷ ps) xs h =
      let t = simp length-append at h in
      let e : length (put a (length p) xs p) ≡ length xs = simp (length-append, length-take, length-drop) (omega arith) in
      lends_length (a + length p) ps (put a (length p) xs p) (omega arith) ∙ e

module _ {A : Type 0} (xs y₀ y₁ y₂ : List A) (k₀ k₁ k₂ : ℕ) where
  -- what xs is after three parts of it, of k₀ to k₂ elements, were passed as buffers and came back as y₀ to y₂
  abbrev pub lent_three : List A
  lent_three = put (k₀ + k₁) k₂ (put k₀ k₁ (put 0 k₀ xs y₀) y₁) y₂

  -- and after a fourth
  abbrev pub lent_four : List A → ℕ → List A
  lent_four y₃ k₃ = put (k₀ + k₁ + k₂) k₃ lent_three y₃

  module _ (k₃ : ℕ) (h₀ : length y₀ ≡ k₀) (h₁ : length y₁ ≡ k₁) (h₂ : length y₂ ≡ k₂) (h : length xs ≡ k₀ + k₁ + k₂ + k₃) where
    -- the list keeps its length
    pub three_length : length lent_three ≡ length xs
    unfolding lends flatten
    three_length =
        rw (← h₀, ← h₁, ← h₂)
        (lends_length (length y₀) (y₁ ∷ y₂ ∷ []) (y₀ ++ drop (length y₀) xs) (simp (length-append, length-drop) (omega arith))
        ∙ simp (length-append, length-drop) (omega arith))

    -- four parts that fill the list are the list
    pub four : (y₃ : List A) → length y₃ ≡ k₃ → lent_four y₃ k₃ ≡ y₀ ++ (y₁ ++ (y₂ ++ y₃))
    unfolding lends flatten
    four y₃ h₃ =
        rw (← h₀, ← h₁, ← h₂, ← h₃)
        (lends_all y₀ (drop (length y₀) xs) (y₁ ∷ y₂ ∷ y₃ ∷ []) (simp (length-drop, length-append) (omega arith)) ∙ simp append-nil)

module _ {A : Type 0} (xs y₀ y₁ y₂ y₃ y₄ : List A) (k₀ k₁ k₂ k₃ k₄ : ℕ) where
  -- what xs is after five parts of it, of k₀ to k₄ elements, were passed as buffers and came back as y₀ to y₄
  abbrev pub lent_five : List A
  lent_five = put (k₀ + k₁ + k₂ + k₃) k₄ (put (k₀ + k₁ + k₂) k₃ (put (k₀ + k₁) k₂ (put k₀ k₁ (put 0 k₀ xs y₀) y₁) y₂) y₃) y₄

  module _ (h₀ : length y₀ ≡ k₀) (h₁ : length y₁ ≡ k₁) (h₂ : length y₂ ≡ k₂) (h₃ : length y₃ ≡ k₃) (h₄ : length y₄ ≡ k₄)
      (h : length xs ≡ k₀ + k₁ + k₂ + k₃ + k₄) where
    -- five parts that fill the list are the list
    pub five : lent_five ≡ y₀ ++ y₁ ++ y₂ ++ y₃ ++ y₄
    unfolding lends flatten
    five =
        rw (← h₀, ← h₁, ← h₂, ← h₃, ← h₄)
        (lends_all y₀ (drop (length y₀) xs) (y₁ ∷ y₂ ∷ y₃ ∷ y₄ ∷ []) (simp (length-drop, length-append) (omega arith))
        ∙ simp (append_assoc, append-nil))
