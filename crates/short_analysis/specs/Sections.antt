-- 4.2.10, section by section: what one section gives over all samples, and the elements of it.
use Rattle.std.specs.Prelude.{ℕ, suc, ◌<◌, ◌≡◌, refl, Bool, true, ℤ, pos, length, take, get_or, replicate}
use Rattle.std.proofs.Common.{ap, ◌∙◌, arith, length-take}
use mathlib.Core.List.{List, [], ◌∷◌, ◌++◌, zip_with}
use Rattle.math_lists.specs.Tab.{zip_length, zip_at}
use Rattle.math_lists.specs.Every.{every, every_append, every_replicate}
use Rattle.math_lists.specs.Parts.{lent_four, four}
use Rattle.standard.specs.Arithmetic.{add, mult_r}
use Rattle.standard.specs.Tables.{◌at◌}

-- a section's coefficient at each sample of the four stretches
unfoldable pub spread : ℤ → ℤ → ℤ → ℤ → List ℤ
spread a b c d = replicate 13 a ++ (replicate 14 b ++ (replicate 13 c ++ replicate 120 d))

-- section i's, from the coefficients of the four stretches
abbrev pub own : List ℤ → List ℤ → List ℤ → List ℤ → ℕ → List ℤ
own first second third fourth i = spread (first at i) (second at i) (third at i) (fourth at i)

-- the same, from the four in a list
abbrev pub own_of : List (List ℤ) → ℕ → List ℤ
own_of rows = own (get_or rows 0 []) (get_or rows 1 []) (get_or rows 2 []) (get_or rows 3 [])

-- di after a section, from its coefficient, its cell and di at each sample
abbrev pub further : List ℤ → List ℤ → List ℤ → List ℤ
further rp prev di = zip_with add di (zip_with mult_r rp prev)

-- and sav
abbrev pub saved : List ℤ → List ℤ → List ℤ → List ℤ
saved rp prev di = zip_with add prev (zip_with mult_r rp di)

-- a section over n + 1 samples: from di and sav, its rp at each sample and its u, to the next di and sav and its new u
unfoldable pub stage : ℕ → List ℤ × List ℤ → List ℤ × ℤ → (List ℤ × List ℤ) × ℤ
stage n (di, sav) (rp, u) =
    let prev = u ∷ take n sav in
    ((further rp prev di, saved rp prev di), sav at n)

-- ---- what the loops store; sav is as di is, with prev and di exchanged

module _ (n : ℕ) (rp prev di : List ℤ) (r : length rp ≡ n) (p : length prev ≡ n) (d : length di ≡ n) where
  -- there is one for each sample
  pub further_length : length (further rp prev di) ≡ n
  further_length = omega (arith, zip_length add di (zip_with mult_r rp prev), zip_length mult_r rp prev)

  -- and this is the one at k
  pub further_at : (k : ℕ) → k < n → further rp prev di at k ≡ add (di at k) (mult_r (rp at k) (prev at k))
  further_at k h =
      zip_at add di (zip_with mult_r rp prev) k (pos 0) (pos 0) (pos 0) (omega arith) (omega (arith, zip_length mult_r rp prev))
      ∙ ap (add (di at k)) (zip_at mult_r rp prev k (pos 0) (pos 0) (pos 0) (omega arith) (omega arith))

-- so a stage gives as many di and sav as it takes
pub stage_length : (n : ℕ) (di sav rp : List ℤ) (u : ℤ) → length rp ≡ suc n → length di ≡ suc n → length sav ≡ suc n
    → let t = stage n (di, sav) (rp, u) in (length t.0.0 ≡ suc n) × (length t.0.1 ≡ suc n)
unfolding stage
stage_length n di sav rp u r d s =
    let p : length (u ∷ take n sav) ≡ suc n = omega (arith, length-take n sav) in
    (further_length (suc n) rp (u ∷ take n sav) di r p d, further_length (suc n) rp di (u ∷ take n sav) r d p)

-- ---- the coefficients of the four stretches

-- a list of 160 whose four parts are filled with one coefficient each
pub spread_parts : (xs y₀ y₁ y₂ y₃ : List ℤ) (a b c d : ℤ) → length xs ≡ 160
    → y₀ ≡ replicate 13 a → y₁ ≡ replicate 14 b → y₂ ≡ replicate 13 c → y₃ ≡ replicate 120 d
    → lent_four xs y₀ y₁ y₂ 13 14 13 y₃ 120 ≡ spread a b c d
unfolding spread
spread_parts xs y₀ y₁ y₂ y₃ a b c d h e₀ e₁ e₂ e₃ =
    four xs y₀ y₁ y₂ 13 14 13 120 (ap length e₀) (ap length e₁) (ap length e₂) h y₃ (ap length e₃) ∙ rw (e₀, e₁, e₂, e₃) refl

-- a test that holds for each of the four coefficients holds at each sample
pub spread_every : (p : ℤ → Bool) (a b c d : ℤ) → p a ≡ true → p b ≡ true → p c ≡ true → p d ≡ true → every p (spread a b c d) ≡ true
unfolding spread
spread_every p a b c d h₀ h₁ h₂ h₃ =
    joined (replicate 13 a) _ (every_replicate p 13 a h₀)
    (joined (replicate 14 b) _ (every_replicate p 14 b h₁)
    (joined (replicate 13 c) (replicate 120 d) (every_replicate p 13 c h₂) (every_replicate p 120 d h₃)))
  where
    joined : (xs ys : List ℤ) → every p xs ≡ true → every p ys ≡ true → every p (xs ++ ys) ≡ true
    joined xs ys g h = rw (every_append p xs ys, g, h)

-- there is a coefficient for each of 160 samples
pub spread_length : (a b c d : ℤ) → length (spread a b c d) ≡ 160
unfolding spread
spread_length a b c d = refl
