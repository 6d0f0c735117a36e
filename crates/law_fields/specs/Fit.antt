-- What the test of a field says, for `omega`; and the test of several fields.
use Rattle.std.specs.Prelude.{ℕ, ◌^◌, ◌<◌, ◌≡◌, refl, Bool, true, false, ltb, ℤ, pos, negsuc, nat_abs, length, replicate}
use Rattle.std.proofs.Common.{sym, true≢false, arith, ltb-true, lt-ltb}
use mathlib.Core.List.{List, ◌++◌, zip_with}
use Rattle.std.specs.Int.Signed.{lt_z}
use Rattle.math_integers.specs.Halves.{P, N, zar}
use Rattle.math_lists.specs.Tab.{zip_append, zip_replicate}
use Rattle.math_lists.specs.Every.{every, every_append, every_map}
use Rattle.standard.specs.House.{fit}

-- a number that is not negative and below the field's limit fits
pub fit_yes : (width : ℕ) (z : ℤ) → P z < 2 ^ width → N z ≡ 0 → fit width z ≡ true
unfolding fit
fit_yes width (pos n) h e = lt-ltb n (2 ^ width) h
fit_yes width (negsuc n) h e = absurd (omega arith)

-- and a number that fits is so
pub fit_is : (width : ℕ) (z : ℤ) → fit width z ≡ true → (P z < 2 ^ width) × (N z ≡ 0)
unfolding fit
fit_is width (pos n) h = omega (arith, ltb-true n (2 ^ width) h)
fit_is width (negsuc n) h = absurd (true≢false (sym h))

-- a negative codeword does not fit
pub fit_negative : (width : ℕ) (c : ℤ) → lt_z c (pos 0) ≡ true → fit width c ≡ false
unfolding fit
fit_negative width (pos n) h = absurd (omega zar)
fit_negative width (negsuc n) h = refl

-- one that is not negative is compared with the field's limit
pub fit_compared : (width : ℕ) (c : ℤ) → lt_z c (pos 0) ≡ false → fit width c ≡ ltb (nat_abs c) (2 ^ width)
unfolding fit
fit_compared width (pos n) h = refl
fit_compared width (negsuc n) h = absurd (omega zar)

-- ---- codewords beside the widths of their fields

-- each codeword fits its field
abbrev pub all_fit : List ℕ → List ℤ → Bool
all_fit ws cs = every (λ b. b) (zip_with fit ws cs)

-- codewords that fit one width fit fields of that width
pub same_width : (n w : ℕ) (cs : List ℤ) → length cs ≡ n → every (fit w) cs ≡ true → all_fit (replicate n w) cs ≡ true
same_width n w cs l h = rw (zip_replicate fit w n cs l, every_map) h

-- codewords that fit some fields, joined with codewords that fit the fields after them, fit all of these fields
pub joined : (ws ws' : List ℕ) (cs cs' : List ℤ)
    → length ws ≡ length cs → all_fit ws cs ≡ true → all_fit ws' cs' ≡ true → all_fit (ws ++ ws') (cs ++ cs') ≡ true
joined ws ws' cs cs' l h k = rw (zip_append fit ws ws' cs cs' l, every_append, h, k)
