-- How 4.2.5 ends, by the EXITs of the standard's own loop. It is the ending of the definition, which counts the coefficients measured.
use Rattle.std.specs.Prelude.{ℕ, zero, suc, ◌+◌, ◌≤◌, ◌≡◌, refl, Bool, true, false, cond, eqb, leb, ℤ, length, take}
use Rattle.std.proofs.Common.{ap, ◌∙◌, arith, eqb-true, le-leb}
use mathlib.Core.List.{List, [], tail}
use Rattle.std.specs.Int.Signed.{lt_z}
use Rattle.std.proofs.lemmas.Bool.{eqb-false, lt-leb}
use Rattle.math_lists.specs.First.{by_cond}
use Rattle.math_lists.specs.Tab.{tab}
use Rattle.standard.specs.Arithmetic.{is_zero, abs}
use Rattle.standard.specs.Tables.{◌at◌}
use Rattle.standard.specs.Lpc.{Ending, silent, stopped, complete, ACF, reflection, measured, schur, ending}
use Rattle.law_lengths.specs.Analysis.{ACF_length, measured_length}
use Rattle.law_loops.specs.Recursion.{PK_loop, PK_length, seen, measures, turn_measures, decides, P_start, K_start, sizes, start_measures}

-- the iteration that EXITs because P[0] < abs( P[1] ), of iteration n and those after it, k in all. Where none does it is n + k, which is
-- 9 after the EXIT at n = 8
unfoldable pub stop_loop : ℕ → ℕ → List ℤ → List ℤ → ℕ
stop_loop zero n P K = n
stop_loop (suc k) n P K =
    let rn = reflection (P at 0) (P at 1) in
    let t = PK_loop n rn P K in
    let next = stop_loop k (suc n) t.0 t.1 in
    cond (lt_z (P at 0) (abs (P at 1))) n next

-- the ending by that iteration: stopped at n, from 1 to 8; complete otherwise
unfoldable pub ending_at : ℕ → Ending
ending_at n = cond (leb n 8) (stopped n) complete

-- the ending of 4.2.5 on L_ACF[0..8], whatever P and K were before: silent where the first sum is 0
unfoldable pub ending_loop : List ℤ → List ℤ → List ℤ → Ending
ending_loop L-acf P K =
    let acf = ACF L-acf in
    cond (is_zero (L-acf at 0)) silent (ending_at (stop_loop 8 1 (P_start acf P) (K_start acf K)))

-- of the last k iterations, the one that EXITs comes after as many as the definition measures coefficients in k steps
stop_loop_is : (k m : ℕ) (P K : List ℤ) → m + k ≡ 8 → length P ≡ 9 → length K ≡ 9
    → stop_loop k (suc m) P K ≡ suc m + length (measures k (seen k (P, K)))
unfolding stop_loop measured tab
stop_loop_is zero m P K e p q = omega arith
stop_loop_is (suc k) m P K e p q =
    let rn = reflection (P at 0) (P at 1) in
    let t = PK_loop (suc m) rn P K in
    let (a, b) = PK_length (suc m) rn P K p q in
    let later = stop_loop_is k (suc m) t.0 t.1 (omega arith) a b in
    decides (lt_z (P at 0) (abs (P at 1))) _ _ [] _ (λ x. suc m + length x) (λ _. omega arith)
    (λ _. omega (arith, later, ap length (turn_measures k m rn P K e p q)))

-- the number of the iteration that EXITs is one more than the count of coefficients that the definition measures of ACF[0..8]
stop_is : (acf P K : List ℤ) → length acf ≡ 9 → length P ≡ 9 → length K ≡ 9
    → stop_loop 8 1 (P_start acf P) (K_start acf K) ≡ suc (length (measured 8 (acf at 0) (tail acf) (take 7 (tail acf))))
stop_is acf P K a p q =
    let (b, c, _) = sizes acf P K a p q in
    omega (arith, stop_loop_is 8 0 (P_start acf P) (K_start acf K) refl b c, ap length (start_measures acf P K a p q))

-- the ending by iteration n + 1 is the ending by the n coefficients measured before it
ending_at_is : (n : ℕ) → n ≤ 8 → ending_at (suc n) ≡ cond (eqb n 8) complete (stopped (suc n))
unfolding ending_at
ending_at_is n h =
    by_cond (λ x. cond (leb (suc n) 8) (stopped (suc n)) complete ≡ x) (eqb n 8)
    (λ e. rw (lt-leb (suc n) 8 (omega (arith, eqb-true n 8 e))))
    (λ e. let d : ¬ (n ≡ 8) = eqb-false n 8 e in rw (le-leb (suc n) 8 (omega arith)))

-- both sides test for silence first, so it is enough that they agree on the coefficients m that are measured without it
unless_silent : (b : Bool) (x : Ending) (m : List ℤ)
    → let n = length m in x ≡ cond (eqb n 8) complete (stopped (suc n))
    → let n = length (cond b [] m) in cond b silent x ≡ cond b silent (cond (eqb n 8) complete (stopped (suc n)))
unless_silent true x m e = refl
unless_silent false x m e = e

-- the standard's loop ends as the definition says
pub ending_is : (L-acf P K : List ℤ) → length L-acf ≡ 9 → length P ≡ 9 → length K ≡ 9 → ending_loop L-acf P K ≡ ending L-acf
unfolding ending_loop ending schur
ending_is L-acf P K a p q =
    unless_silent (is_zero (L-acf at 0)) _ _
    (ap ending_at (stop_is (ACF L-acf) P K (ACF_length L-acf ∙ a) p q) ∙ ending_at_is _ (measured_length 8 _ _ _))
