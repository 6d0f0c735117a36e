-- The history and what is added to it in one list: its last n samples are passed on as a part, with k more to be filled.
use Rattle.std.specs.Prelude.{ℕ, ◌+◌, ◌≤◌, ◌≡◌, refl, List, [], ◌∷◌, ◌++◌, ℤ, length, take, drop}
use Rattle.std.proofs.Common.{ap, ap₂, sym, ◌∙◌, append_assoc, append-nil, arith, length-append, length-take, length-drop, take-append-drop, drop_of_length-le, take-take, take_at, drop-drop}
use Rattle.std.proofs.lemmas.List.{take-append-le, drop-append-le}
use Rattle.std.proofs.Math.Seq.{drop-append-add}
use Rattle.math_lists.specs.Parts.{put}
use Rattle.standard.specs.Rpe.{updated}

module _ {A : Type 0} (x r : List A) (a n k : ℕ) (h : length x ≡ a + n) where
  -- the part starts with the last n of x
  window : take n (take (n + k) (drop a (x ++ r))) ≡ drop a x
  window =
      rw (take-take n (n + k) (drop a (x ++ r)) (omega arith), drop-append-le a x r (omega arith))
      (take_at (drop a x) r n (rw length-drop (omega arith)))

  -- and where the part comes back with k more, these stand after x
  window_put : (new : List A) → put a (n + k) (x ++ r) (drop a x ++ new) ≡ (x ++ new) ++ drop k r
  window_put new =
      let far : a + (n + k) ≡ length x + k = omega arith in
      let rest : drop (n + k) (drop a (x ++ r)) ≡ drop k r = drop-drop (n + k) a (x ++ r) ∙ rw (far, drop-append-add x r k) in
      let joined = append_assoc (take a x) (drop a x) (new ++ drop k r) in
      rw (rest, take-append-le a x r (omega arith), append_assoc, ← joined, take-append-drop, append_assoc)

-- the history after 40 more samples is the end of the longer list
window_updated : (x new : List ℤ) (a : ℕ) → a + 40 ≤ length x → updated (drop a x) new ≡ drop (a + 40) (x ++ new)
unfolding updated
window_updated x new a h = rw (drop-drop 40 a x, drop-append-le (a + 40) x new h)

-- 40 samples stored at the end of a list of 160
pub put_last : {A : Type 0} (xs ys : List A) → length xs ≡ 160 → put 120 40 xs ys ≡ take 120 xs ++ ys
put_last xs ys h = rw (drop-drop, drop_of_length-le xs {i = 160} (omega arith), append-nil)

-- ---- the whole list

module _ {A : Type 0} (dp z : List A) (d : length dp ≡ 120) (l : length z ≡ 160) where
  -- it is passed whole, and starts with the history
  pub lent_history : take 120 (take 280 (dp ++ z)) ≡ dp
  lent_history = rw (take-take 120 280 (dp ++ z) (omega arith)) (take_at dp z 120 d)

  -- nothing is behind the 280 that are passed
  pub lent_all : (y : List A) → y ++ drop 280 (dp ++ z) ≡ y
  lent_all y =
      let whole : length (dp ++ z) ≤ 280 = rw length-append (omega arith) in
      rw (drop_of_length-le (dp ++ z) {i = 280} whole, append-nil)

-- ---- sub-frame by sub-frame

-- the last 120 of x, from index a on, are the history dp
pub record Grown (a : ℕ) (dp x : List ℤ) : Type 0 where
  pub size : length x ≡ a + 120
  pub last : drop a x ≡ dp

-- the history itself
pub grown_start : (dp : List ℤ) → length dp ≡ 120 → Grown 0 dp dp
grown_start dp l = record { size = l; last = refl }

module _ {a : ℕ} {dp x : List ℤ} (t : Grown a dp x) where
  -- it has 120 samples
  pub grown_length : length dp ≡ 120
  grown_length = sym (ap length t.last) ∙ rw length-drop (omega (arith, t.size))

  -- after 40 more
  pub grown_next : (new : List ℤ) → length new ≡ 40 → Grown (a + 40) (updated dp new) (x ++ new)
  grown_next new n =
      record {
        size = rw length-append (omega (arith, t.size));
        last = sym (ap (λ (d : List ℤ). updated d new) (sym t.last) ∙ window_updated x new a (omega (arith, t.size)));
      }

-- the list h is x and then r, and the history dp stands at the end of x
pub record Stands (a : ℕ) (dp x r h : List ℤ) : Type 0 where
  pub list : h ≡ x ++ r
  pub grown : Grown a dp x

-- before the first sub-frame
pub stands_start : (h : List ℤ) → 120 ≤ length h → Stands 0 (take 120 h) (take 120 h) (drop 120 h) h
stands_start h l = record { list = sym (take-append-drop 120 h); grown = grown_start (take 120 h) (rw length-take (omega arith)) }

module _ {a : ℕ} {dp x r h : List ℤ} (t : Stands a dp x r h) where
  -- the part that the next sub-frame gets starts with the history
  pub stands_lent : take 120 (take 160 (drop a h)) ≡ dp
  stands_lent = rw t.list (window x r a 120 40 t.grown.size ∙ t.grown.last)

  -- it comes back with 40 more after the history, and these stand after x
  pub stands_next : (new y : List ℤ) → length new ≡ 40 → y ≡ dp ++ new
      → Stands (a + 40) (updated dp new) (x ++ new) (drop 40 r) (put a 160 h y)
  stands_next new y n e =
      record {
        list = ap₂ (put a 160) t.list (e ∙ ap (◌++ new) (sym t.grown.last)) ∙ window_put x r a 120 40 t.grown.size new;
        grown = grown_next t.grown new n;
      }

  -- after the last sub-frame nothing follows x
  pub stands_all : length r ≡ 0 → h ≡ x
  stands_all l = t.list ∙ rw (none r l, append-nil)
    where
      none : (r : List ℤ) → length r ≡ 0 → r ≡ []
      none [] e = refl
      none (y ∷ r) e = absurd (omega arith)
