-- The four sub-frames of a frame, one after the other, on one list: the history, and then what each adds.
use Rattle.std.specs.Prelude.{ℕ, ◌+◌, ◌*◌, ◌≡◌, ℤ, nat_abs, length, take, drop, replicate}
use Rattle.std.proofs.Math.Path.{refl}
use Rattle.std.proofs.Common.{sym, ap, ◌∙◌, arith, length-take, take-append-drop}
use Rattle.std.proofs.Math.Option.{Option, some}
use mathlib.Core.List.{List, [], ◌∷◌, ◌++◌, append_assoc, map, flatten}
use Rattle.std.proofs.Math.Seq.{drop-drop}
use Rattle.math_lists.specs.Scan.{run}
use Rattle.math_lists.specs.Cut.{cut}
use Rattle.math_lists.specs.Parts.{put, five}
use Rattle.standard.specs.Frame.{sub_words}
use Rattle.standard.specs.Rpe.{updated}
use Rattle.standard.specs.Coder.{Subcoded, sub_coded, sub_step}
use Rattle.standard.specs.House.{Mark, mark}
use Rattle.law_lengths.specs.Subframes.{sub_coded_lag, sub_coded_pulses, reconstructed_length}
use Rattle.long_history.specs.Window.{Grown, grown_start, grown_length, grown_next, Stands, stands_lent, stands_next}
use Rattle.frame_subframe.specs.Whole.{added}

-- the 40 samples of d that sub-frame n, from 0 to 3, reads
abbrev pub own : ℕ → List ℤ → List ℤ
own n d = take 40 (drop (40 * n) d)

-- and the 120 samples of the history before them
abbrev pub before : ℕ → List ℤ → List ℤ
before n h = take 120 (take 160 (drop (40 * n) h))

module _ (dp d : List ℤ) where
  -- the history after each
  abbrev pub dp₁ : List ℤ
  dp₁ = (sub_step dp (own 0 d)).0

  abbrev pub dp₂ : List ℤ
  dp₂ = (sub_step dp₁ (own 1 d)).0

  abbrev pub dp₃ : List ℤ
  dp₃ = (sub_step dp₂ (own 2 d)).0

  abbrev pub dp₄ : List ℤ
  dp₄ = (sub_step dp₃ (own 3 d)).0

  -- what each is coded as
  abbrev pub four : List Subcoded
  four = sub_coded dp (own 0 d) ∷ sub_coded dp₁ (own 1 d) ∷ sub_coded dp₂ (own 2 d) ∷ sub_coded dp₃ (own 3 d) ∷ []

  -- their codewords
  abbrev pub four_words : List ℤ
  four_words = flatten (map (λ s. sub_words s.codes) four)

  -- their marks
  abbrev pub four_marks : List (Option Mark)
  four_marks = map (λ s. some (mark s)) four

  -- the history, and what they add to it one after the other
  abbrev pub added₁ : List ℤ
  added₁ = dp ++ added dp (own 0 d)

  abbrev pub added₂ : List ℤ
  added₂ = added₁ ++ added dp₁ (own 1 d)

  abbrev pub added₃ : List ℤ
  added₃ = added₂ ++ added dp₂ (own 2 d)

  abbrev pub four_added : List ℤ
  four_added = added₃ ++ added dp₃ (own 3 d)

  -- the definition's run over the four sub-frames gives these
  pub run_four : run sub_step dp (cut (replicate 4 40) d) ≡ (dp₄, four)
  unfolding run cut sub_step
  run_four = simp drop-drop

  -- the history after a sub-frame is the one before, moved by what it adds
  step_is : (sub_step dp d).0 ≡ updated dp (added dp d)
  unfolding sub_step added
  step_is = refl

  -- a sub-frame adds 40 samples
  added_length : length dp ≡ 120 → length (added dp d) ≡ 40
  unfolding added
  added_length l =
      let f = (sub_coded dp d).codes in
      reconstructed_length (nat_abs f.Nc) f dp (sub_coded_lag dp d) (sub_coded_pulses dp d) l

-- a sub-frame has 17 codewords
words_length : (dp d : List ℤ) → length (sub_words (sub_coded dp d).codes) ≡ 17
unfolding sub_words
words_length dp d = omega (arith, sub_coded_pulses dp d)

-- after sub-frame n: its mark m and its codewords w are the definition's, and the list y holds x, what it adds, then the rest
pub record Turned (n : ℕ) (dp d x r : List ℤ) (m : Option Mark) (w y : List ℤ) : Type 0 where
  pub marked : m ≡ some (mark (sub_coded dp (own n d)))
  pub written : w ≡ sub_words (sub_coded dp (own n d)).codes
  pub size : length w ≡ 17
  pub stands : Stands (40 * n + 40) (sub_step dp (own n d)).0 (x ++ added dp (own n d)) (drop 40 r) y

-- where the list held x and then r, and the history at the end of x (`Stands`)
pub turn : (n : ℕ) {dp x r h : List ℤ} → Stands (40 * n) dp x r h → (d : List ℤ) {m : Option Mark} {w y : List ℤ}
    → let c = sub_coded (before n h) (own n d) in
    (m ≡ some (mark c)) × ((w ≡ sub_words c.codes) × (y ≡ put (40 * n) 160 h (before n h ++ added (before n h) (own n d))))
    → Turned n dp d x r m w y
turn n {dp} {h = h} t d (em, (ew, ey)) =
    let b : before n h ≡ dp = stands_lent t in
    let next = stands_next t _ _ (added_length dp (own n d) (grown_length t.grown)) (ap (λ (p : List ℤ). p ++ added p (own n d)) b) in
    record {
      marked = rw b at em;
      written = rw b at ew;
      size = ap length ew ∙ words_length _ _;
      stands = rw (ey, step_is dp (own n d)) next;
    }

-- the history at the end of the list, after one sub-frame
grown : {a : ℕ} {dp x : List ℤ} (d : List ℤ) → Grown a dp x → Grown (a + 40) (sub_step dp d).0 (x ++ added dp d)
grown {dp = dp} d t = rw (step_is dp d) (grown_next t (added dp d) (added_length dp d (grown_length t)))

module _ (dp d : List ℤ) (l : length dp ≡ 120) where
  -- so it is true after the four
  all_four : Grown 160 (dp₄ dp d) (four_added dp d)
  all_four = grown (own 3 d) (grown (own 2 d) (grown (own 1 d) (grown (own 0 d) (grown_start dp l))))

  -- there are 280 samples then
  pub four_length : length (four_added dp d) ≡ 280
  four_length = all_four.size

  -- and the last 120 are the history of the next frame
  pub four_last : drop 160 (four_added dp d) ≡ dp₄ dp d
  four_last = all_four.last

-- the four parts of 17 codewords put in place, after the first eight
pub four_put : (c w₁ w₂ w₃ w₄ : List ℤ) → length c ≡ 76 → length w₁ ≡ 17 → length w₂ ≡ 17 → length w₃ ≡ 17 → length w₄ ≡ 17
    → put 59 17 (put 42 17 (put 25 17 (put 8 17 c w₁) w₂) w₃) w₄ ≡ take 8 c ++ (w₁ ++ (w₂ ++ (w₃ ++ w₄)))
four_put c w₁ w₂ w₃ w₄ l l₁ l₂ l₃ l₄ =
    let l₀ : length (take 8 c) ≡ 8 = rw length-take (omega arith) in
    ap (λ (c : List ℤ). put 59 17 (put 42 17 (put 25 17 (put 8 17 c w₁) w₂) w₃) w₄) (sym (take-append-drop 8 c))
    ∙ (five c (take 8 c) w₁ w₂ w₃ w₄ 8 17 17 17 17 l₀ l₁ l₂ l₃ l₄ l ∙ simp append_assoc)
