-- House rules, 'What counts as shown' (c): useless versions of start and of ended, and that none of them keeps its promise.
use Rattle.std.specs.Prelude.{ℕ, zero, suc, ◌+◌, ◌*◌, ◌-◌, ◌/◌, ◌%◌, ◌^◌, ◌≤◌, ◌<◌, ◌≡◌, cond, List, [], ◌∷◌, ◌++◌, ltb, drop}
use Rattle.std.proofs.Common.{sym, ap, ◌∙◌, append_assoc, pow-suc, arith, le-ltb}
use Rattle.standard.specs.Listing.{text, digits, decimal, E_line}
use Rattle.list_text.specs.Fields.{digit_count, digits_enough}
use Rattle.list_borders.specs.Borders.{E_end}
use Rattle.standard.specs.House.{home_coder}
use Rattle.list_frames.specs.declared.Lister.{Lister}
use Rattle.list_frames.specs.Promise.{State, state}

-- ---- the E line tells its count

-- the number that a text goes on with, after v: its digits up to the first byte that is none
number : ℕ → List ℕ → ℕ
number v [] = v
number v (d ∷ ds) = cond (ltb d 48) v (number (v * 10 + (d - 48)) ds)

digits_tell : (k n : ℕ) (t : List ℕ) → n < 10 ^ k → number 0 (digits k n ++ t) ≡ number n t
unfolding number digits
digits_tell zero n t h = ap (λ m. number m t) (omega arith)
digits_tell (suc k) n t h =
    let p = rw pow-suc at h in
    rw (append_assoc, digits_tell k (n / 10) ((48 + n % 10) ∷ t) (omega arith), le-ltb (48 + n % 10) 48 (omega arith))
    (ap (λ m. number m t) (omega arith))

E_tells : (bytes : ℕ) → bytes ≤ 320000000 → number 0 (drop 2 (E_line bytes)) ≡ bytes / 320
unfolding number text decimal
E_tells bytes h =
    let n = bytes / 320 in
    rw (E_end bytes h) (simp append_assoc (digits_tell (digit_count n) n _ (digits_enough n (omega arith))))

-- ---- an invented count

module _ (l : Lister) (rest : ℕ) (t : List ℕ) (few : l.frames * 320 + rest ≤ 320000000) where
  -- the E line of an input of another number of frames
  pub invented_count : (bytes : ℕ) → bytes ≤ 320000000 → ¬ (bytes / 320 ≡ (l.frames * 320 + rest) / 320)
      → t ≡ E_line bytes → ¬ (t ≡ E_line (l.frames * 320 + rest))
  invented_count bytes h other e p =
      other (sym (E_tells bytes h) ∙ (ap (λ t. number 0 (drop 2 t)) (sym e ∙ p) ∙ E_tells (l.frames * 320 + rest) few))

  -- no frame, where some are listed
  pub none_counted : 0 < l.frames → t ≡ E_line 0 → ¬ (t ≡ E_line (l.frames * 320 + rest))
  none_counted some = invented_count 0 (omega arith) (λ e. absurd (omega arith))

  -- a frame that was never listed
  pub unlisted_counted : l.frames * 320 + 320 + rest ≤ 320000000 → t ≡ E_line (l.frames * 320 + 320 + rest)
      → ¬ (t ≡ E_line (l.frames * 320 + rest))
  unlisted_counted h = invented_count (l.frames * 320 + 320 + rest) h (λ e. absurd (omega arith))

-- ---- a start that has listed a frame, or that is at the limit

pub started_late : (l : Lister) → state l ≡ (0, home_coder) → (n : ℕ) → ¬ (l.frames ≡ suc n)
unfolding state
started_late l h n e = absurd (omega (arith, sym e ∙ ap (λ (s : State). s.0) h))
