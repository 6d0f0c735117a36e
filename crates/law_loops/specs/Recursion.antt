-- 4.2.5 as the standard writes it, on the arrays P[0..8], K[0..8] and r[1..8], changed in place: it gives the definition's r[1..8].
use Rattle.std.specs.Prelude.{ℕ, zero, suc, ◌+◌, ◌-◌, ◌<◌, ◌≤◌, ◌≡◌, refl, Bool, true, false, cond, eqb, ℤ, pos, length, set, take, replicate}
use Rattle.std.proofs.Common.{ap, ◌∙◌, arith, length-set, take_all, take-suc-set, eqb-true}
use mathlib.Core.List.{List, [], ◌∷◌, ◌++◌, zip_with, tail, append-nil}
use Rattle.std.proofs.Math.Seq.{append_snoc}
use Rattle.std.specs.Int.Signed.{lt_z}
use Rattle.math_lists.specs.First.{by_cond}
use Rattle.math_lists.specs.Steps.{steps}
use Rattle.math_lists.specs.Tab.{tab, zip_front}
use Rattle.math_lists.specs.For.{by_entries, by_both, by_three, tab_each}
use Rattle.standard.specs.Arithmetic.{is_zero, abs, add, mult_r}
use Rattle.standard.specs.Tables.{◌at◌}
use Rattle.standard.specs.Lpc.{ACF, reflection, measured, schur, r as reflections}
use Rattle.law_lengths.specs.Analysis.{ACF_length}

-- ---- "Schur recursion": P[0..8] and K[0..8] in iteration n, with rn for r[n]

-- iteration m of the inner loop
unfoldable pub PK_turn : ℤ → ℕ → List ℤ × List ℤ → List ℤ × List ℤ
PK_turn rn m (P, K) =
    let P' = set P m (add (P at (m + 1)) (mult_r (K at (9 - m)) rn)) in
    let K' = set K (9 - m) (add (K at (9 - m)) (mult_r (P' at (m + 1)) rn)) in
    (P', K')

-- P[0], then for m = 1 to 8 − n
unfoldable pub PK_loop : ℕ → ℤ → List ℤ → List ℤ → List ℤ × List ℤ
PK_loop n rn P K = steps (PK_turn rn) (8 - n) 1 (set P 0 (add (P at 0) (mult_r (P at 1) rn)), K)

-- what the definition has of the arrays where k steps are to come: P[0]; P[1], P[2] ..; K[8], K[7] ..
abbrev pub seen : ℕ → List ℤ × List ℤ → ℤ × List ℤ × List ℤ
seen k (P, K) = (P at 0, tab (λ j. P at (1 + j)) 0 k, tab (λ j. K at (8 - j)) 0 k)

-- and what a step of the definition makes of that, where k steps are to come after it
abbrev pub stepped : ℕ → ℤ → List ℤ → List ℤ → ℤ × List ℤ × List ℤ
stepped k rn P K =
    let Ps = tab (λ j. P at (1 + j)) 1 k in
    let Ks = tab (λ j. K at (8 - j)) 0 (suc k) in
    (add (P at 0) (mult_r (P at 1) rn), zip_with (λ p k. add p (mult_r k rn)) Ps Ks, zip_with (λ p k. add k (mult_r p rn)) Ps Ks)

-- the two are the same: the eight iterations are computed on arrays of any entries
PK_steps : (rn : ℤ) (f g : ℕ → ℤ) → let P = tab f 0 9 in let K = tab g 0 9 in
    tab (λ n. seen (8 - n) (PK_loop n rn P K)) 1 8 ≡ tab (λ n. stepped (8 - n) rn P K) 1 8
unfolding steps PK_turn PK_loop tab zip_with
PK_steps rn f g = refl

-- so what the definition sees after the standard's iteration n is what its own step makes
pub PK_step : (n : ℕ) (rn : ℤ) → 1 ≤ n → n ≤ 8 → (P K : List ℤ) → length P ≡ 9 → length K ≡ 9
    → seen (8 - n) (PK_loop n rn P K) ≡ stepped (8 - n) rn P K
PK_step n rn p q =
    by_both (λ P K. seen (8 - n) (PK_loop n rn P K) ≡ stepped (8 - n) rn P K) (pos 0) 9 9
    (λ f g. tab_each (λ n. seen (8 - n) (PK_loop n rn (tab f 0 9) (tab g 0 9))) (λ n. stepped (8 - n) rn (tab f 0 9) (tab g 0 9)) 8 1
    (PK_steps rn f g) n p (omega arith))

-- the inner loop keeps the lengths
PK_inner_length : (rn : ℤ) (n i : ℕ) (P K : List ℤ) → length P ≡ 9 → length K ≡ 9
    → let t = steps (PK_turn rn) n i (P, K) in (length t.0 ≡ 9) × (length t.1 ≡ 9)
unfolding steps PK_turn
PK_inner_length rn zero i P K p q = (p, q)
PK_inner_length rn (suc n) i P K p q = PK_inner_length rn n (suc i) _ _ (length-set P i _ ∙ p) (length-set K (9 - i) _ ∙ q)

-- and so does the whole iteration
pub PK_length : (n : ℕ) (rn : ℤ) (P K : List ℤ) → length P ≡ 9 → length K ≡ 9
    → let t = PK_loop n rn P K in (length t.0 ≡ 9) × (length t.1 ≡ 9)
unfolding PK_loop
PK_length n rn P K p q = PK_inner_length rn (8 - n) 1 _ K (length-set P 0 _ ∙ p) q

-- what the definition measures in k steps of what it sees
abbrev pub measures : ℕ → ℤ × List ℤ × List ℤ → List ℤ
measures k s = measured k s.0 s.1 s.2

-- after the standard's iteration m + 1, with k iterations to come, it measures what it measures after its own step
pub turn_measures : (k m : ℕ) (rn : ℤ) (P K : List ℤ) → m + suc k ≡ 8 → length P ≡ 9 → length K ≡ 9
    → measures k (seen k (PK_loop (suc m) rn P K)) ≡ measures k (stepped k rn P K)
turn_measures k m rn P K e p q =
    let g : 8 - suc m ≡ k = omega arith in
    ap (measures k) (rw g at (PK_step (suc m) rn (omega arith) (omega arith) P K p q))

-- ---- "Compute reflection coefficients". r[i] stands at index i − 1

-- r[i] = 0
unfoldable pub r_zero : ℕ → List ℤ → List ℤ
r_zero i r = set r (i - 1) (pos 0)

-- iteration n and those after it, k in all
unfoldable pub r_loop : ℕ → ℕ → List ℤ → List ℤ → List ℤ → List ℤ
r_loop zero n P K r = r
r_loop (suc k) n P K r =
    let rn = reflection (P at 0) (P at 1) in
    let r' = set r (n - 1) rn in
    let t = PK_loop n rn P K in
    let next = r_loop k (suc n) t.0 t.1 r' in
    cond (lt_z (P at 0) (abs (P at 1))) (steps r_zero (9 - n) n r) (cond (eqb n 8) r' next)

-- k coefficients: those measured, and then 0
abbrev padded : ℕ → List ℤ → List ℤ
padded k m = m ++ replicate (k - length m) (pos 0)

-- "FOR i = n to 8", where n is m + 1
zero_rest : (m : ℕ) → m < 8 → (r : List ℤ) → length r ≡ 8 → steps r_zero (9 - suc m) (suc m) r ≡ take m r ++ padded (8 - m) []
unfolding steps r_zero tab
zero_rest m h =
    by_entries (λ r. steps r_zero (9 - suc m) (suc m) r ≡ take m r ++ padded (8 - m) []) (pos 0) 8
    (λ f.
    tab_each (λ m. steps r_zero (9 - suc m) (suc m) (tab f 0 8)) (λ m. take m (tab f 0 8) ++ padded (8 - m) []) 8 0 refl m (omega arith) h)

-- the EXIT at n = 8 gives what the loop with no further iteration gives
exits : (k n : ℕ) (P K r : List ℤ) → n + k ≡ 8 → cond (eqb n 8) r (r_loop k (suc n) P K r) ≡ r_loop k (suc n) P K r
unfolding r_loop
exits k n P K r e =
    by_cond (λ x. x ≡ r_loop k (suc n) P K r) (eqb n 8) (λ h. let z : k ≡ 0 = omega (arith, eqb-true n 8 h) in rw z) (λ h. refl)

-- r[n] stands before the coefficients of the later iterations
stored : (k m : ℕ) (r : List ℤ) (rn : ℤ) {x y : List ℤ} → m < length r → x ≡ y
    → take (suc m) (set r m rn) ++ padded k x ≡ take m r ++ padded (suc k) (rn ∷ y)
stored k m r rn {x} {y} h e =
    let f : suc k - suc (length y) ≡ k - length y = omega arith in
    rw (e, f, take-suc-set r m rn h, append_snoc)

-- one test that decides both sides
pub decides : {A B : Type 0} (b : Bool) (x y : A) (u v : B) (F : B → A)
    → (b ≡ true → x ≡ F u) → (b ≡ false → y ≡ F v) → cond b x y ≡ F (cond b u v)
decides true x y u v F p q = p refl
decides false x y u v F p q = q refl

-- the last k iterations store, after r[1..m], what the definition measures in k steps
r_loop_is : (k m : ℕ) (P K r : List ℤ) → m + k ≡ 8 → length P ≡ 9 → length K ≡ 9 → length r ≡ 8
    → r_loop k (suc m) P K r ≡ take m r ++ padded k (measures k (seen k (P, K)))
unfolding r_loop measured tab
r_loop_is zero m P K r e p q l = let f : m ≡ 8 = omega arith in rw (f, take_all 8 r (omega arith), append-nil r)
r_loop_is (suc k) m P K r e p q l =
    let rn = reflection (P at 0) (P at 1) in
    let t = PK_loop (suc m) rn P K in
    let (a, b) = PK_length (suc m) rn P K p q in
    let f : 8 - m ≡ suc k = omega arith in
    let h : suc m - 1 ≡ m = omega arith in
    let later = r_loop_is k (suc m) t.0 t.1 (set r m rn) (omega arith) a b (length-set r m rn ∙ l) in
    decides (lt_z (P at 0) (abs (P at 1))) _ _ [] _ (λ x. take m r ++ padded (suc k) x)
    (λ _. rw f at (zero_rest m (omega arith) r l))
    (λ _.
    rw h (exits k (suc m) t.0 t.1 (set r m rn) (omega arith)
    ∙ (later ∙ stored k m r rn (omega arith) (turn_measures k m rn P K e p q))))

-- ---- the whole

-- K[9 − i] = ACF[i], for i = 1 to 7
unfoldable pub K_start : List ℤ → List ℤ → List ℤ
K_start acf = steps (λ i K. set K (9 - i) (acf at i)) 7 1

-- P[i] = ACF[i], for i = 0 to 8
unfoldable pub P_start : List ℤ → List ℤ → List ℤ
P_start acf = steps (λ i P. set P i (acf at i)) 9 0

-- 4.2.5 on L_ACF[0..8], whatever P, K and r were before
unfoldable pub reflection_loop : List ℤ → List ℤ → List ℤ → List ℤ → List ℤ
reflection_loop L-acf P K r =
    let acf = ACF L-acf in
    cond (is_zero (L-acf at 0)) (steps r_zero 8 1 r) (r_loop 8 1 (P_start acf P) (K_start acf K) r)

-- what the definition sees at the start: ACF[0]; ACF[1..8]; ACF[1..7] and, after them, K[1] as it was
started : (acf P K : List ℤ) → length acf ≡ 9 → length P ≡ 9 → length K ≡ 9
    → seen 8 (P_start acf P, K_start acf K) ≡ (acf at 0, tail acf, take 7 (tail acf) ++ (K at 1 ∷ []))
unfolding steps P_start K_start tab
started =
    by_three (λ acf P K. seen 8 (P_start acf P, K_start acf K) ≡ (acf at 0, tail acf, take 7 (tail acf) ++ (K at 1 ∷ []))) (pos 0) 9 9 9
    (λ f g h. refl)

-- the lengths stay, and there is a K for each P but the first
pub sizes : (acf P K : List ℤ) → length acf ≡ 9 → length P ≡ 9 → length K ≡ 9
    → (length (P_start acf P) ≡ 9) × (length (K_start acf K) ≡ 9) × (length (tail acf) ≤ suc (length (take 7 (tail acf))))
unfolding steps P_start K_start tab
sizes =
    by_three
    (λ acf P K. (length (P_start acf P) ≡ 9) × (length (K_start acf K) ≡ 9) × (length (tail acf) ≤ suc (length (take 7 (tail acf)))))
    (pos 0) 9 9 9 (λ f g h. (refl, refl, omega arith))

-- what K has beyond P is not read
measured_reads : (n : ℕ) (P0 : ℤ) (P K more : List ℤ) → length P ≤ suc (length K) → measured n P0 P (K ++ more) ≡ measured n P0 P K
unfolding measured
measured_reads zero P0 P K more h = refl
measured_reads (suc n) P0 [] K more h = refl
measured_reads (suc n) P0 (P1 ∷ P) K more h =
    let r = reflection P0 P1 in
    let front : (f : ℤ → ℤ → ℤ) → zip_with f P (K ++ more) ≡ zip_with f P K = λ f. zip_front f P K more (omega arith) in
    rw (front (λ p k. add p (mult_r k r)), front (λ p k. add k (mult_r p r)))

-- so what is measured from the start is what the definition measures of ACF[0..8]
pub start_measures : (acf P K : List ℤ) → length acf ≡ 9 → length P ≡ 9 → length K ≡ 9
    → measures 8 (seen 8 (P_start acf P, K_start acf K)) ≡ measured 8 (acf at 0) (tail acf) (take 7 (tail acf))
start_measures acf P K a p q =
    ap (measures 8) (started acf P K a p q)
    ∙ measured_reads 8 (acf at 0) (tail acf) (take 7 (tail acf)) (K at 1 ∷ []) (sizes acf P K a p q).2

-- the eight iterations measure what the definition measures
recursion_is : (acf P K r : List ℤ) → length acf ≡ 9 → length P ≡ 9 → length K ≡ 9 → length r ≡ 8
    → r_loop 8 1 (P_start acf P) (K_start acf K) r ≡ padded 8 (measured 8 (acf at 0) (tail acf) (take 7 (tail acf)))
recursion_is acf P K r a p q l =
    let (b, c, _) = sizes acf P K a p q in
    r_loop_is 8 0 (P_start acf P) (K_start acf K) r refl b c l ∙ ap (padded 8) (start_measures acf P K a p q)

-- 4.2.5 gives the definition's r[1..8]
pub reflection_is : (L-acf P K r : List ℤ) → length L-acf ≡ 9 → length P ≡ 9 → length K ≡ 9 → length r ≡ 8
    → reflection_loop L-acf P K r ≡ reflections L-acf
unfolding reflection_loop reflections schur
reflection_is L-acf P K r a p q l =
    decides (is_zero (L-acf at 0)) _ _ [] _ (padded 8) (λ _. zero_rest 0 (omega arith) r l)
    (λ _. recursion_is (ACF L-acf) P K r (ACF_length L-acf ∙ a) p q l)
