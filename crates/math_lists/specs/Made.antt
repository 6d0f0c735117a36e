-- For an array that `std::array::from_fn` makes: it is the list whose elements the calls give.
use Rattle.std.specs.Prelude.{◌≡◌, ℕ, zero, suc, ◌+◌, ◌<◌, List, map, length, get_or}
use Rattle.std.proofs.Common.{sym, ◌∙◌}
use Rattle.std.proofs.lemmas.List.{ext_get_or, length-map}
use Rattle.std.specs.Array.{IsFromFnResult, IsFromFnResultFrom}
use Rattle.std.specs.Fn.{Called}
use mathlib.Core.List.{zip_with}
use denote.Param.Members.{Mut}
use native.Mathlib.Omega.{arith}
use Rattle.math_lists.specs.Tab.{tab, tab_length, tab_at_zero, map_at, zip_at, zip_length}

-- a call leaves the closure as it was, and gives v
abbrev pub Gives : {F B : Type 0} → Mut F (ℕ × Unit {0}) B → F → ℕ → B → Type 0
Gives {F} {B} g f k v = (y : B) (q : F) → Called g f (k, tt) y q → (q ≡ f) × (y ≡ v)

module _ {F B : Type 0} (g : Mut F (ℕ × Unit {0}) B) (f : F) (ys zs : List B) (d : B) where
  -- at the index j places behind i, of the n indices from i on
  made_from : (i n j : ℕ) → IsFromFnResultFrom g f ys i n
      → ((k : ℕ) → k < i + n → Gives g f k (get_or zs k d)) → j < n → get_or ys (i + j) d ≡ get_or zs (i + j) d
  made_from i zero j r h b = absurd (omega arith)
  made_from i (suc n) zero (q, y, e, c, r) h b =
      let k : i + 0 ≡ i = omega arith in
      rw k (e.1 d ∙ (h i (omega arith) y q c).1)
  made_from i (suc n) (suc j) (q, y, e, c, r) h b =
      let k : i + suc j ≡ i + 1 + j = omega arith in
      let s = rw (h i (omega arith) y q c).0 at r in
      rw k (made_from (i + 1) n j s (λ m l. h m (omega arith)) (omega arith))

module _ {F B : Type 0} {g : Mut F (ℕ × Unit {0}) B} {f : F} {ys : List B} {n : ℕ} (r : IsFromFnResult g f ys n) where
  -- where call k gives element k of zs, the array is zs
  pub made : (zs : List B) (d : B) → length zs ≡ n → ((k : ℕ) → k < n → Gives g f k (get_or zs k d)) → ys ≡ zs
  made zs d l h =
      ext_get_or d ys zs (r.long ∙ sym l)
      (λ k b.
      let z : 0 + k ≡ k = omega arith in
      rw z at (made_from g f ys zs d 0 n k r.each (λ m t. h m (omega arith)) (omega (arith, r.long))))

  -- where call k gives h k, it is the table of h
  pub made_tab : (h : ℕ → B) (d : B) → ((k : ℕ) → k < n → Gives g f k (h k)) → ys ≡ tab h 0 n
  made_tab h d e =
      made (tab h 0 n) d (tab_length h 0 n)
      (λ k b y q c. let t = e k b y q c in (t.0, t.1 ∙ sym (tab_at_zero h n k d b)))

  -- where call k gives h of element k of xs, it is the map of xs by h
  pub made_map : {A : Type 0} (h : A → B) (xs : List A) (a : A) (d : B) → length xs ≡ n
      → ((k : ℕ) → k < n → Gives g f k (h (get_or xs k a))) → ys ≡ map h xs
  made_map h xs a d l e =
      made (map h xs) d (length-map xs h ∙ l)
      (λ k b y q c. let t = e k b y q c in (t.0, t.1 ∙ sym (map_at h xs k a d (omega (arith, l)))))

  -- where call k gives h of element k of xs and of vs, it is the two joined by h
  pub made_zip : {A C : Type 0} (h : A → C → B) (xs : List A) (vs : List C) (a : A) (z : C) (d : B)
      → length xs ≡ n → length vs ≡ n
      → ((k : ℕ) → k < n → Gives g f k (h (get_or xs k a) (get_or vs k z))) → ys ≡ zip_with h xs vs
  made_zip h xs vs a z d l m e =
      made (zip_with h xs vs) d (omega (arith, zip_length h xs vs, l, m))
      (λ k b y q c.
      let t = e k b y q c in
      (t.0, t.1 ∙ sym (zip_at h xs vs k a z d (omega (arith, l)) (omega (arith, m)))))
