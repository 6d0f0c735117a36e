-- 4.2.10: the standard takes each sample through all sections. All samples through one section, then the next, gives the same.
use Rattle.std.specs.Prelude.{ℕ, zero, suc, ◌+◌, ◌<◌, ◌≡◌, refl, true, ℤ, pos, length, drop}
use Rattle.std.proofs.Common.{ap, ◌∙◌, arith, drop-cons}
use mathlib.Core.List.{List, [], ◌∷◌, map, map-id, zip, zip_with}
use Rattle.std.proofs.lemmas.List.{length-map}
use Rattle.math_lists.specs.Scan.{run}
use Rattle.math_lists.specs.Tab.{tab}
use Rattle.math_lists.specs.Every.{every, every_cons}
use Rattle.math_lists.specs.Lengths.{sized, sized_length}
use Rattle.standard.specs.Arithmetic.{add, mult_r}
use Rattle.standard.specs.Tables.{◌at◌}
use Rattle.standard.specs.ShortTerm.{section, analysed}
use Rattle.short_analysis.specs.Sections.{stage, stage_length}

-- one sample through some of the sections, from its di and sav before them: their new cells, and the last di
sampled : List ℤ → List ℤ × (ℤ × ℤ) → List ℤ × ℤ
sampled u (rps, x) =
    let t = run section x (zip rps u) in
    (t.1, t.0.0)

-- one section at one sample: its new cell, and its di and sav for the next section
through : ℤ → ℤ × (ℤ × ℤ) → ℤ × (ℤ × ℤ)
through u (rpi, x) =
    let t = section x (rpi, u) in
    (t.1, t.0)

-- section i's coefficient at each sample
abbrev pub column : List (List ℤ) → ℕ → List ℤ
column rows i = map (λ rps. rps at i) rows

-- the first of the sections may take all samples before the others take any
first_section : (m i : ℕ) → i < m → (rows : List (List ℤ)) (u : ℤ) (us : List ℤ) (xs : List (ℤ × ℤ)) → every (sized m) rows ≡ true
    → run sampled (u ∷ us) (zip (map (drop i) rows) xs)
    ≡ (let t = run through u (zip (column rows i) xs) in
    let w = run sampled us (zip (map (drop (suc i)) rows) t.1) in
    (t.0 ∷ w.0, w.1))
unfolding run zip zip_with sampled through every
first_section m i h [] u us xs e = refl
first_section m i h (row ∷ rows) u us [] e = refl
first_section m i h (row ∷ rows) u us (x ∷ xs) e =
    let (e₀, e₁) = (every_cons (sized m) row rows).0 e in
    let l : i < length row = omega (arith, sized_length m row e₀) in
    let t = section x (row at i, u) in
    let r = run section t.0 (zip (drop (suc i) row) us) in
    rw (drop-cons row i (pos 0) l)
    (ap (λ (w : List ℤ × List ℤ). (w.0, r.0.0 ∷ w.1)) (first_section m i h rows t.1 r.1 xs e₁))

-- a section over n + 1 samples is its stage
through_all : (n : ℕ) (rs di sav : List ℤ) (u : ℤ) → length rs ≡ suc n → length di ≡ suc n → length sav ≡ suc n
    → run through u (zip rs (zip di sav)) ≡ (let t = stage n (di, sav) (rs, u) in (t.1, zip t.0.0 t.0.1))
unfolding run zip zip_with section through stage
through_all n [] di sav u a b c = absurd (omega arith)
through_all n (r ∷ rs) [] sav u a b c = absurd (omega arith)
through_all n (r ∷ rs) (d ∷ di) [] u a b c = absurd (omega arith)
through_all zero (r ∷ []) (d ∷ []) (s ∷ []) u a b c = refl
through_all zero (r ∷ r' ∷ rs) (d ∷ di) (s ∷ sav) u a b c = absurd (omega arith)
through_all zero (r ∷ []) (d ∷ d' ∷ di) (s ∷ sav) u a b c = absurd (omega arith)
through_all zero (r ∷ []) (d ∷ []) (s ∷ s' ∷ sav) u a b c = absurd (omega arith)
through_all (suc n) (r ∷ rs) (d ∷ di) (s ∷ sav) u a b c =
    let x : ℤ × ℤ = (add d (mult_r r u), add u (mult_r r d)) in
    ap (λ (t : ℤ × List (ℤ × ℤ)). (t.0, x ∷ t.1)) (through_all n rs di sav s (omega arith) (omega arith) (omega arith))

-- where no section is left, di stays as it is
through_none : (rows : List (List ℤ)) (di sav : List ℤ) → length rows ≡ length di → length sav ≡ length di
    → run sampled [] (zip rows (zip di sav)) ≡ ([], di)
unfolding run zip zip_with sampled
through_none [] [] sav a b = refl
through_none [] (d ∷ di) sav a b = absurd (omega arith)
through_none (row ∷ rows) [] sav a b = absurd (omega arith)
through_none (row ∷ rows) (d ∷ di) [] a b = absurd (omega arith)
through_none ([] ∷ rows) (d ∷ di) (s ∷ sav) a b =
    ap (λ (t : List ℤ × List ℤ). (t.0, d ∷ t.1)) (through_none rows di sav (omega arith) (omega arith))
through_none ((r ∷ rs) ∷ rows) (d ∷ di) (s ∷ sav) a b =
    ap (λ (t : List ℤ × List ℤ). (t.0, d ∷ t.1)) (through_none rows di sav (omega arith) (omega arith))

-- the sections from i on
orders_from : (m n i : ℕ) (rows : List (List ℤ)) (us di sav : List ℤ) → every (sized m) rows ≡ true → i + length us ≡ m
    → length rows ≡ suc n → length di ≡ suc n → length sav ≡ suc n
    → run sampled us (zip (map (drop i) rows) (zip di sav))
    ≡ (let t = run (stage n) (di, sav) (zip (tab (column rows) i (length us)) us) in (t.1, t.0.0))
unfolding run zip zip_with tab
orders_from m n i rows [] di sav e l a b c =
    let k : length (map (drop i) rows) ≡ length di = rw length-map (omega arith) in
    through_none (map (drop i) rows) di sav k (omega arith)
orders_from m n i rows (u ∷ us) di sav e l a b c =
    let rs = column rows i in
    let k : length rs ≡ suc n = rw length-map a in
    let t = stage n (di, sav) (rs, u) in
    let rest : ℤ × List (ℤ × ℤ) → List ℤ × List ℤ =
    λ q. let w = run sampled us (zip (map (drop (suc i)) rows) q.1) in (q.0 ∷ w.0, w.1) in
    let (f, g) = stage_length n di sav rs u k b c in
    first_section m i (omega arith) rows u us (zip di sav) e
    ∙ (ap rest (through_all n rs di sav u k b c)
    ∙ ap (λ (w : List ℤ × List ℤ). (t.1 ∷ w.0, w.1)) (orders_from m n (suc i) rows us t.0.0 t.0.1 e (omega arith) a f g))

-- di and sav of the first section are both the sample
doubled : (u : List ℤ) (rows : List (List ℤ)) (s : List ℤ) → run analysed u (zip rows s) ≡ run sampled u (zip rows (zip s s))
unfolding run zip zip_with analysed sampled
doubled u [] s = refl
doubled u (row ∷ rows) [] = refl
doubled u (row ∷ rows) (x ∷ s) =
    let t = run section (x, x) (zip row u) in
    ap (λ (w : List ℤ × List ℤ). (w.0, t.0.0 ∷ w.1)) (doubled t.1 rows s)

-- the two orders give the same, if each of the n + 1 samples has as many coefficients as there are cells
pub orders : (n : ℕ) (rows : List (List ℤ)) (u s : List ℤ) → every (sized (length u)) rows ≡ true → length rows ≡ suc n → length s ≡ suc n
    → run analysed u (zip rows s) ≡ (let t = run (stage n) (s, s) (zip (tab (column rows) 0 (length u)) u) in (t.1, t.0.0))
orders n rows u s e a b =
    rw (map-id rows, ← doubled u rows s) at (orders_from (length u) n 0 rows u s s e (omega arith) a b b)
