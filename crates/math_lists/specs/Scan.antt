-- For a loop that carries a state along a list and writes an output for each element, as a filter does.
use Rattle.std.specs.Prelude.{◌≡◌, Bool, true, length, get_or, set, take}
use Rattle.std.proofs.Math.Path.{refl, ap}
use mathlib.Core.List.{List, [], ◌∷◌, ◌++◌, append-nil, foldl}
use Prim.Native.Nat.{ℕ, zero, suc, ◌+◌, ◌≤◌, ◌<◌}
use Rattle.std.proofs.Common.{add-one, arith, drop-cons, take_all}
use Rattle.std.proofs.Math.ListN.{drop, drop_of_length-le}
use Rattle.std.proofs.Math.Seq.{take-suc-set, append_snoc}
use Rattle.math_lists.specs.Every.{every, every_cons, every_all}

module _ {S A B : Type 0} (step : S → A → S × B) where
  -- the last state and the outputs, where each element in turn takes the state to the next one and gives an output
  unfoldable pub run : S → List A → S × List B
  run s [] = (s, [])
  run s (x ∷ xs) =
      let t = step s x in
      let r = run t.0 xs in
      (r.0, t.1 ∷ r.1)

  -- there is an output for each element
  pub run_length : (s : S) (xs : List A) → length (run s xs).1 ≡ length xs
  unfolding run
  run_length s [] = refl
  run_length s (x ∷ xs) = ap suc (run_length (step s x).0 xs)

  -- a run over two lists joined goes on over the second from the state that the first has reached
  pub run_append : (s : S) (xs ys : List A) → run s (xs ++ ys) ≡ ((run (run s xs).0 ys).0, (run s xs).1 ++ (run (run s xs).0 ys).1)
  unfolding run
  run_append s [] ys = refl
  run_append s (x ∷ xs) ys = rw (run_append (step s x).0 xs ys)

  -- the last state is a fold
  pub run_state : (s : S) (xs : List A) → (run s xs).0 ≡ foldl (λ s x. (step s x).0) s xs
  unfolding run
  run_state s [] = refl
  run_state s (x ∷ xs) = run_state (step s x).0 xs

  -- an output by its index: the step from the state that the elements before it have led to
  pub run_at : (s : S) (xs : List A) (i : ℕ) (d : A) (z : B)
      → i < length xs → get_or (run s xs).1 i z ≡ (step (run s (take i xs)).0 (get_or xs i d)).1
  unfolding run
  run_at s [] i d z h = absurd (omega arith)
  run_at s (x ∷ xs) zero d z h = refl
  run_at s (x ∷ xs) (suc i) d z h = run_at (step s x).0 xs i d z (omega arith)

  -- if elements that pass p keep Q of the state and give outputs that pass q, the last state has Q and each output passes q
  pub run_keeps : (Q : S → Type 0) (p : A → Bool) (q : B → Bool)
      → ((s : S) (x : A) → Q s → p x ≡ true → Q (step s x).0 × (q (step s x).1 ≡ true))
      → (s : S) (xs : List A) → Q s → every p xs ≡ true → Q (run s xs).0 × (every q (run s xs).1 ≡ true)
  unfolding run every
  run_keeps Q p q k s [] h e = (h, refl)
  run_keeps Q p q k s (x ∷ xs) h e =
      let (e₀, e₁) = (every_cons p x xs).0 e in
      let (h₀, g₀) = k s x h e₀ in
      let (h₁, g₁) = run_keeps Q p q k (step s x).0 xs h₀ e₁ in
      (h₁, (every_cons q (step s x).1 (run (step s x).0 xs).1).1 (g₀, g₁))

  -- a test that the output of each step passes, each output of the run passes
  pub run_every : (q : B → Bool) → ((s : S) (x : A) → q (step s x).1 ≡ true) → (s : S) (xs : List A) → every q (run s xs).1 ≡ true
  run_every q h s xs =
      (run_keeps (λ s. Unit) (λ x. true) q (λ s x _ _. (tt, h s x)) s xs tt (every_all (λ x. true) (λ x. refl) xs)).1

  module _ (s₀ : S) (xs : List A) where
    -- the loop's invariant: what is written, and what is still to come from the state s, make up the whole run
    pub record Along (s : S) (i : ℕ) (out : List B) : Type 0 where
      pub written : take i out ++ (run s (drop i xs)).1 ≡ (run s₀ xs).1
      pub state : (run s (drop i xs)).0 ≡ (run s₀ xs).0

    -- before the loop
    pub along_start : (out : List B) → Along s₀ 0 out
    along_start out = record { written = refl; state = refl }

    -- an iteration: the element at i is read, its output is stored at i
    pub along_next : (d : A) {s s' : S} {i : ℕ} {out : List B} {x : A} {v : B}
        → Along s i out → i < length xs → i < length out → x ≡ get_or xs i d → s' ≡ (step s x).0 → v ≡ (step s x).1
        → Along s' (i + 1) (set out i v)
    unfolding run
    along_next d {s} {s'} {i} {out} {x} {v} h p q hx hs hv =
        let c : drop i xs ≡ x ∷ drop (suc i) xs = rw hx (drop-cons xs i d p) in
        record {
          written = rw (add-one, take-suc-set out i v q, append_snoc, hv, hs) (rw c at h.written);
          state = rw (add-one, hs) (rw c at h.state);
        }

    -- after the loop: the state and the list are those of the whole run
    pub along_end : {s : S} {i : ℕ} {out : List B}
        → Along s i out → length xs ≤ i → length out ≤ i → (s ≡ (run s₀ xs).0) × (out ≡ (run s₀ xs).1)
    unfolding run
    along_end {s} {i} {out} h p q =
        (rw (drop_of_length-le xs p) at h.state, rw (take_all i out q, drop_of_length-le xs p, append-nil) at h.written)

-- two filters that do the same at each step give the same, where the first keeps what the steps need
pub run_same : {S A B : Type 0} (f g : S → A → S × B) (Q : S → Type 0) (p : A → Bool)
    → ((s : S) (x : A) → Q s → p x ≡ true → Q (f s x).0 × (f s x ≡ g s x))
    → (s : S) (xs : List A) → Q s → every p xs ≡ true → run f s xs ≡ run g s xs
unfolding run
run_same f g Q p k s [] h e = refl
run_same f g Q p k s (x ∷ xs) h e =
    let (e₀, e₁) = (every_cons p x xs).0 e in
    let (q, t) = k s x h e₀ in
    rw (← t, ← run_same f g Q p k (f s x).0 xs q e₁) refl
