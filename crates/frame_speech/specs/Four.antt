-- 4.3.3 to 4.3.7 over a frame: the 160 samples are those of four stretches, each from the cells that the one before gives.
use Rattle.std.specs.Prelude.{ℕ, ◌≡◌, refl, ℤ, length, take, drop, replicate}
use Rattle.std.proofs.Common.{ap, ◌∙◌, arith, length-take, length-drop, take-append-drop, drop-drop, take_all}
use mathlib.Core.List.{List, ◌++◌, zip}
use Rattle.std.proofs.lemmas.List.{length-replicate}
use Rattle.math_lists.specs.Scan.{run, run_length, run_append}
use Rattle.math_lists.specs.Tab.{zip_append}
use Rattle.standard.specs.ShortTerm.{coefficients}
use Rattle.short_synthesis.specs.Speech.{speech, spoken, paired_length}
use Rattle.short_ratios.specs.Stretches.{rps, coefficients_are}

-- a frame, from v[0..7] and msr, the ratios of the frame before and of this one, and wt[0..159]
unfoldable pub frame_spoken : List ℤ → ℤ → List ℤ → List ℤ → List ℤ → (List ℤ × ℤ) × List ℤ
frame_spoken v msr old new wt = run speech (v, msr) (zip (coefficients old new) wt)

-- a stretch gives as many samples as it takes
pub spoken_length : (v : List ℤ) (msr : ℤ) (rrp wt : List ℤ) → length (spoken v msr rrp wt).1 ≡ length wt
unfolding spoken
spoken_length v msr rrp wt = run_length speech (v, msr) (zip (replicate (length wt) rrp) wt) ∙ paired_length rrp wt

-- what a stretch gives, from its three parts
pub spoken_parts : (v : List ℤ) (msr : ℤ) (rrp wt : List ℤ) {w : List ℤ} {m : ℤ} {y : List ℤ} → let t = spoken v msr rrp wt in
    w ≡ t.0.0 → m ≡ t.0.1 → y ≡ t.1 → ◌≡◌ {A = (List ℤ × ℤ) × List ℤ} ((w, m), y) t
spoken_parts v msr rrp wt p q r = rw (p, q, r) refl

-- ---- a stretch, and what follows it

-- n samples have the coefficients rrp, and those after them others
stretch_first : (s : List ℤ × ℤ) (n : ℕ) (rrp : List ℤ) (rest : List (List ℤ)) (wt : List ℤ) → n ≡ length (take n wt)
    → run speech s (zip (replicate n rrp ++ rest) wt)
    ≡ (let t = spoken s.0 s.1 rrp (take n wt) in
    let u = run speech t.0 (zip rest (drop n wt)) in
    (u.0, t.1 ++ u.1))
unfolding spoken zip
stretch_first s n rrp rest wt h =
    let own = zip (replicate (length (take n wt)) rrp) (take n wt) in
    let parts : zip (replicate n rrp ++ rest) (take n wt ++ drop n wt) ≡ zip (replicate n rrp) (take n wt) ++ zip rest (drop n wt) =
    zip_append _ (replicate n rrp) rest (take n wt) (drop n wt) (length-replicate n rrp ∙ h) in
    let each : zip (replicate n rrp) (take n wt) ≡ own = ap (λ (k : ℕ). zip (replicate k rrp) (take n wt)) h in
    let z : zip (replicate n rrp ++ rest) wt ≡ own ++ zip rest (drop n wt) = rw (take-append-drop, each) at parts in
    rw z (run_append speech s own (zip rest (drop n wt)))

-- the last stretch, after which nothing follows
stretch_last : (s : List ℤ × ℤ) (n : ℕ) (rrp wt : List ℤ) → length wt ≡ n
    → run speech s (zip (replicate n rrp) wt) ≡ spoken s.0 s.1 rrp (take n wt)
unfolding spoken
stretch_last s n rrp wt h = rw (take_all n wt (omega arith), h) refl

-- a frame is its four stretches, each from the cells that the one before gives
pub frame_four : (v : List ℤ) (msr : ℤ) (old new wt : List ℤ) (s₁ s₂ s₃ s₄ : (List ℤ × ℤ) × List ℤ)
    → length wt ≡ 160
    → s₁ ≡ spoken v msr (rps 0 old new) (take 13 wt)
    → s₂ ≡ spoken s₁.0.0 s₁.0.1 (rps 1 old new) (take 14 (drop 13 wt))
    → s₃ ≡ spoken s₂.0.0 s₂.0.1 (rps 2 old new) (take 13 (drop 27 wt))
    → s₄ ≡ spoken s₃.0.0 s₃.0.1 (rps 3 old new) (take 120 (drop 40 wt))
    → frame_spoken v msr old new wt ≡ (s₄.0, s₁.1 ++ (s₂.1 ++ (s₃.1 ++ s₄.1)))
unfolding frame_spoken
frame_four v msr old new wt s₁ s₂ s₃ s₄ h e₁ e₂ e₃ e₄ =
    let c₄ = replicate 120 (rps 3 old new) in
    let c₃ = replicate 13 (rps 2 old new) ++ c₄ in
    let c₂ = replicate 14 (rps 1 old new) ++ c₃ in
    let f₁ = stretch_first (v, msr) 13 (rps 0 old new) c₂ wt (rw length-take (omega arith)) in
    let f₂ = stretch_first s₁.0 14 (rps 1 old new) c₃ (drop 13 wt) (simp (length-take, length-drop) (omega arith)) in
    let f₃ = stretch_first s₂.0 13 (rps 2 old new) c₄ (drop 27 wt) (simp (length-take, length-drop) (omega arith)) in
    let f₄ = stretch_last s₃.0 120 (rps 3 old new) (drop 40 wt) (rw length-drop (omega arith)) in
    let g₃ = rw (← e₃, drop-drop 13 27 wt, f₄, ← e₄) at f₃ in
    let g₂ = rw (← e₂, drop-drop 14 13 wt, g₃) at f₂ in
    rw coefficients_are (rw (← e₁, g₂) at f₁)
