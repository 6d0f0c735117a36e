-- House rules, 'Marks' (request W-203): what the mark of a lag says. It comes from the search: a lag of 40 with gain code 0 can be found.
use Rattle.std.specs.Prelude.{ℕ, zero, suc, ◌+◌, ◌-◌, ◌≡◌, refl, Bool, cond, ◌↔◌, ℤ, nat_abs, replicate}
use Rattle.std.proofs.Math.Path.{sym, ap}
use Rattle.std.proofs.Common.{◌∙◌, true≢false}
use Rattle.std.proofs.Math.Bool.{true, false}
use mathlib.Core.List.{List, [], ◌∷◌, map, zip_with}
use native.Mathlib.Omega.{arith}
use Rattle.std.proofs.Math.IntN.{pos}
use Rattle.std.specs.Int.Signed.{lt_z}
use Rattle.std.specs.Int.{w16, w32}
use Rattle.math_integers.specs.Halves.{zar}
use Rattle.math_lists.specs.Best.{best, best_at, best_largest, largest_above, largest_covers}
use Rattle.math_lists.specs.Tab.{tab_at}
use Rattle.standard.specs.Arithmetic.{clip, plus, shr, L_sum}
use Rattle.standard.specs.Tables.{neg, ◌at◌}
use Rattle.standard.specs.Frame.{Subframe}
use Rattle.standard.specs.LongTerm.{back, scal, correlations, lag_search, Nc, bc}
use Rattle.standard.specs.Coder.{sub_coded}
use Rattle.standard.specs.House.{Mark, rule, found, mark}
use Rattle.standard.specs.Easy.{pulse}
use Rattle.standard.specs.Forty.{forty_back, forty}
use Rattle.law_arithmetic.specs.Product.{L_mult_zero}
use Rattle.law_arithmetic.specs.Shift.{shr_zero}
use Rattle.law_lengths.specs.Subframes.{Lag, correlations_length, sub_coded_lag}

-- ---- what a mark says

-- the sum at a lag, before the rescaling, is positive
abbrev pub PositiveAt : List ℤ → List ℤ → ℕ → Type 0
PositiveAt dp d lag = lt_z (pos 0) (correlations d dp at (lag - 40)) ≡ true

-- some lag from 40 to 120 has a positive sum
abbrev pub Measured : List ℤ → List ℤ → Type 0
Measured dp d = (lag : ℕ) × Lag lag × PositiveAt dp d lag

-- what a mark tells of the search in a history dp over d, and of the codewords f that are sent
pub record Told (m : Mark) (dp d : List ℤ) (f : Subframe) : Type 0 where
  -- found exactly when some lag has a positive sum; then the lag that is sent has one
  pub measured : (m ≡ found) ↔ Measured dp d
  pub positive : m ≡ found → PositiveAt dp d (nat_abs f.Nc)
  -- rule exactly when none has; then lag 40 and gain code 0 are sent
  pub unmeasured : (m ≡ rule) ↔ ¬ Measured dp d
  pub stands : m ≡ rule → (f.Nc ≡ pos 40) × (f.bc ≡ pos 0)

-- ---- that it is so

-- a mark as a test
abbrev says_found : Mark → Bool
says_found rule = false
says_found found = true

tested : (b : Bool) → says_found (cond b found rule) ≡ b
tested true = refl
tested false = refl

-- there are only two marks
other : (m : Mark) → ¬ (m ≡ found) → m ≡ rule
other rule n = refl
other found n = absurd (n refl)

-- a sum over silence is 0
silent_sum : (f : ℤ → ℤ) → f (pos 0) ≡ pos 0 → (n : ℕ) (ys : List ℤ) → L_sum (pos 0) (map f (replicate n (pos 0))) ys ≡ pos 0
unfolding L_sum zip_with plus clip
silent_sum f e zero ys = refl
silent_sum f e (suc n) [] = refl
silent_sum f e (suc n) (y ∷ ys) = rw (e, L_mult_zero y) (silent_sum f e n ys)

module _ (dp d : List ℤ) where
  -- the mark tests the greatest sum
  says : says_found (mark (sub_coded dp d)) ≡ lt_z (pos 0) (lag_search d dp).sum
  unfolding mark sub_coded
  says = tested _

  -- where it is found, the sum at the lag that is coded is positive
  pub found_positive : mark (sub_coded dp d) ≡ found → PositiveAt dp d (nat_abs (sub_coded dp d).codes.Nc)
  unfolding lag_search Nc sub_coded
  found_positive m =
      let h : lt_z (pos 0) (best (correlations d dp)).sum ≡ true = sym says ∙ ap says_found m in
      let e : (40 + (best (correlations d dp)).at) - 40 ≡ (best (correlations d dp)).at = omega arith in
      rw (e, (best_at (correlations d dp) h).1) h

  -- found exactly when some lag has a positive sum
  pub found_exactly : (mark (sub_coded dp d) ≡ found) ↔ Measured dp d
  unfolding mark sub_coded lag_search
  found_exactly = (
    λ m. (nat_abs (sub_coded dp d).codes.Nc, sub_coded_lag dp d, found_positive m),
    λ (lag, l, p).
        let xs = correlations d dp in
        let c = largest_covers xs (lag - 40) (omega (arith, correlations_length d dp)) in
        let t : lt_z (pos 0) (best xs).sum ≡ true = rw (best_largest xs) (omega zar) in
        rw t,
  )

  -- and rule exactly when none has
  pub rule_exactly : (mark (sub_coded dp d) ≡ rule) ↔ ¬ Measured dp d
  rule_exactly = (
    λ m h. true≢false (sym (ap says_found (found_exactly.1 h)) ∙ ap says_found m),
    λ n. other (mark (sub_coded dp d)) (λ m. n (found_exactly.0 m)),
  )

  -- a lag marked "rule" is 40, with gain code 0
  pub rule_stands : mark (sub_coded dp d) ≡ rule → ((sub_coded dp d).codes.Nc ≡ pos 40) × ((sub_coded dp d).codes.bc ≡ pos 0)
  unfolding sub_coded lag_search Nc bc best
  rule_stands m =
      let h : lt_z (pos 0) (lag_search d dp).sum ≡ false = sym says ∙ ap says_found m in
      let a = largest_above (correlations d dp) in
      let z : (lag_search d dp).sum ≡ pos 0 = omega zar in
      (rw h, rw (z, shr_zero w32))

  -- so the mark of every sub-frame tells what it says
  pub told : Told (mark (sub_coded dp d)) dp d (sub_coded dp d).codes
  told = record { measured = found_exactly; positive = found_positive; unmeasured = rule_exactly; stands = rule_stands }

-- ---- the earlier rule by codes, "rule" for every lag of 40 with gain code 0, is another one: a buzz of period 40 that fades is found

pub rule_by_codes : ¬ ((dp d : List ℤ) → let s = sub_coded dp d in s.codes.Nc ≡ pos 40 → s.codes.bc ≡ pos 0 → mark s ≡ rule)
rule_by_codes h =
    let w = forty.weak in
    let r = h (forty_back (pos 20000)) (pulse (pos 1000)) (ap (λ t. t.0) w) (ap (λ t. t.1) w) in
    true≢false (sym (ap (λ t. says_found t.2) w) ∙ ap says_found r)

-- nor can any rule over the 17 codewords give the mark: a faint pulse and its opposite have the same codewords, and one of them is found
pub not_by_codes : (rule-of : Subframe → Mark) → ¬ ((dp d : List ℤ) → mark (sub_coded dp d) ≡ rule-of (sub_coded dp d).codes)
not_by_codes rule-of h =
    let yes = h (forty_back (pos 1)) (pulse (pos 1)) ∙ ap rule-of forty.faint_codes in
    let no = h (forty_back (neg 1)) (pulse (pos 1)) ∙ ap rule-of forty.none_codes in
    true≢false (ap says_found (sym forty.faint ∙ (yes ∙ (sym no ∙ forty.none))))

-- ---- silence

-- a silent sub-frame is marked "rule", whatever its history is
pub silence_rule : (n : ℕ) (dp : List ℤ) → mark (sub_coded dp (replicate n (pos 0))) ≡ rule
unfolding correlations
silence_rule n dp =
    let d = replicate n (pos 0) in
    (rule_exactly dp d).1
    (λ (lag, l, p).
    let shifted : ℤ → ℤ = λ x. shr w16 x (scal d) in
    let t = tab_at (λ k. L_sum (pos 0) (map shifted d) (back k dp)) 40 81 (lag - 40) (pos 0) (omega arith) in
    let z = t ∙ silent_sum shifted (shr_zero w16 (scal d)) n (back (40 + (lag - 40)) dp) in
    true≢false (sym (rw z at p)))
