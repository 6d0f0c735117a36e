-- How far the recursion of 4.2.5 is, and what it gives at its end: the definition's r[1..8] and ending.
use Rattle.std.specs.Prelude.{ℕ, suc, ◌+◌, ◌-◌, ◌<◌, ◌≡◌, true, false, ℤ, pos, set, take, drop, replicate}
use Rattle.std.proofs.Math.Path.{refl}
use Rattle.std.proofs.Common.{sym, ap, ◌∙◌, arith, length-set, take-append-drop, length-take-le, drop-cons, drop-set-lt, take-suc-set}
use mathlib.Core.List.{List, [], ◌∷◌, ◌++◌, tail, append-nil}
use borrow.Author.Tests.{ne_eqb}
use Rattle.std.proofs.Math.ListN.{length}
use Rattle.std.proofs.Math.Seq.{append_snoc}
use Rattle.std.specs.Int.Signed.{lt_z}
use Rattle.math_lists.specs.Steps.{steps}
use Rattle.math_lists.specs.Tab.{tab}
use Rattle.math_lists.specs.For.{by_entries}
use Rattle.standard.specs.Arithmetic.{is_zero, abs}
use Rattle.standard.specs.Tables.{◌at◌}
use Rattle.standard.specs.Lpc.{silent, stopped, complete, ACF, reflection, measured, schur, ending, r as coefficients}
use Rattle.law_lengths.specs.Analysis.{ACF_length}
use Rattle.law_loops.specs.Recursion.{PK_loop, PK_length, sizes, seen, stepped, measures, turn_measures, P_start, K_start, start_measures}

-- `measures` lists the coefficients that the steps to come give; where P[0] < abs( P[1] ) it is empty
measures_none : (k : ℕ) (P K : List ℤ) → lt_z (P at 0) (abs (P at 1)) ≡ true → measures (suc k) (seen (suc k) (P, K)) ≡ []
unfolding measured tab
measures_none k P K h = rw h

-- otherwise the first step to come gives one
measures_one : (k : ℕ) (P K : List ℤ) → lt_z (P at 0) (abs (P at 1)) ≡ false → let rn = reflection (P at 0) (P at 1) in
    measures (suc k) (seen (suc k) (P, K)) ≡ rn ∷ measures k (stepped k rn P K)
unfolding measured tab
measures_one k P K h = rw h

-- m coefficients are known and k steps are to come; the m and what the k will give are M together; r has the m, and 0 after them
pub record Along (M : List ℤ) (m k : ℕ) (P K r : List ℤ) : Type 0 where
  pub eight : m + k ≡ 8
  pub Ps : length P ≡ 9
  pub Ks : length K ≡ 9
  pub rs : length r ≡ 8
  pub gives : take m r ++ measures k (seen k (P, K)) ≡ M
  pub rest : drop m r ≡ replicate k (pos 0)

-- before the first step, M is what all eight will give
pub along_start : (acf : List ℤ) → length acf ≡ 9 → let K = K_start acf (replicate 9 (pos 0)) in
    Along (measures 8 (seen 8 (acf, K))) 0 8 acf K (replicate 8 (pos 0))
along_start acf n =
    record { eight = refl; Ps = n; Ks = (sizes acf acf (replicate 9 (pos 0)) n n refl).1; rs = refl; gives = refl; rest = refl }

-- a step that does not stop
pub along_next : {M : List ℤ} (m k : ℕ) (P K r : List ℤ) → Along M m (suc k) P K r
    → lt_z (P at 0) (abs (P at 1)) ≡ false → let rn = reflection (P at 0) (P at 1) in let t = PK_loop (suc m) rn P K in
    Along M (suc m) k t.0 t.1 (set r m rn)
along_next m k P K r a h =
    let rn = reflection (P at 0) (P at 1) in
    let e = a.eight in
    let l = a.rs in
    let i : m < length r = omega arith in
    let (p, q) = PK_length (suc m) rn P K a.Ps a.Ks in
    let one = measures_one k P K h ∙ ap (λ x. rn ∷ x) (sym (turn_measures k m rn P K e a.Ps a.Ks)) in
    record {
      eight = omega arith;
      Ps = p;
      Ks = q;
      rs = length-set r m rn ∙ l;
      gives = rw (take-suc-set r m rn i, append_snoc, ← one) a.gives;
      rest = drop-set-lt (suc m) r m rn (omega arith) ∙ ap tail (sym (drop-cons r m (pos 0) i) ∙ a.rest);
    }

-- where no step to come gives a coefficient, r is M and then 0, and M has m coefficients
along_end : {M : List ℤ} (m k : ℕ) (P K r : List ℤ) → Along M m k P K r → measures k (seen k (P, K)) ≡ []
    → (r ≡ M ++ replicate (8 - length M) (pos 0)) × (length M ≡ m)
along_end {M} m k P K r a none =
    let e = a.eight in
    let l = a.rs in
    let front : take m r ≡ M = sym (append-nil (take m r)) ∙ (ap (λ x. take m r ++ x) (sym none) ∙ a.gives) in
    let n : length M ≡ m = rw front at (length-take-le m r (omega arith)) in
    let f : 8 - length M ≡ k = omega arith in
    (sym (take-append-drop m r) ∙ rw (front, a.rest, f), n)

-- ---- of L_ACF[0..8]

-- P[i] = ACF[i], for i = 0 to 8, is a copy
P_copied : (acf : List ℤ) → length acf ≡ 9 → P_start acf acf ≡ acf
unfolding steps P_start tab
P_copied = by_entries (λ acf. P_start acf acf ≡ acf) (pos 0) 9 (λ f. refl)

module _ (L-acf : List ℤ) where
  -- the first sum is 0
  pub silent_is : is_zero (L-acf at 0) ≡ true → (replicate 8 (pos 0) ≡ coefficients L-acf) × (silent ≡ ending L-acf)
  unfolding coefficients ending schur
  silent_is z = (rw z, rw z)

  module _ (z : is_zero (L-acf at 0) ≡ false) where
    -- the eight steps from the start give what the definition does
    pub all_measured : length L-acf ≡ 9 → let acf = ACF L-acf in measures 8 (seen 8 (acf, K_start acf (replicate 9 (pos 0)))) ≡ schur L-acf
    unfolding schur
    all_measured n =
        let acf = ACF L-acf in
        let nine : length acf ≡ 9 = ACF_length L-acf ∙ n in
        rw z (rw (P_copied acf nine) at (start_measures acf acf (replicate 9 (pos 0)) nine nine refl))

    -- stopped at step m + 1
    pub stopped_is : (m k : ℕ) (P K r : List ℤ) → Along (schur L-acf) m (suc k) P K r
        → lt_z (P at 0) (abs (P at 1)) ≡ true → (r ≡ coefficients L-acf) × (stopped (suc m) ≡ ending L-acf)
    unfolding coefficients ending
    stopped_is m k P K r a h =
        let (x, n) = along_end m (suc k) P K r a (measures_none k P K h) in
        let e = a.eight in
        (x, rw (z, n, ne_eqb m 8 (omega arith)))

    -- all eight steps gave a coefficient
    pub complete_is : (P K r : List ℤ) → Along (schur L-acf) 8 0 P K r → (r ≡ coefficients L-acf) × (complete ≡ ending L-acf)
    unfolding coefficients ending measured
    complete_is P K r a =
        let (x, n) = along_end 8 0 P K r a refl in
        (x, rw (z, n))
