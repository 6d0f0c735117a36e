-- What the test of a range says, for `omega`: the order; for a range from −a to b also the two halves; and the range of a word.
use Rattle.std.specs.Prelude.{ℕ, ◌<◌, ◌≤◌, ◌≡◌, Bool, true, List, ℤ, pos, length}
use Rattle.std.proofs.Math.Bool.{and-eq-true_iff}
use Rattle.std.proofs.Common.{arith, SFits}
use Rattle.std.specs.Int.Signed.{le_z}
use Rattle.std.specs.Int.{w16}
use Rattle.math_integers.specs.Halves.{P, N, apart, zar, know}
use Rattle.math_integers.specs.Sums.{neg_is}
use Rattle.math_lists.specs.Every.{every, every_places}
use Rattle.standard.specs.Arithmetic.{within}
use Rattle.standard.specs.Tables.{neg, ◌at◌}

-- a number that is between the two ends is within the range
pub within_yes : (least most z : ℤ) → le_z least z ≡ true → le_z z most ≡ true → within least most z ≡ true
within_yes least most z l m = rw (l, m)

-- and one within the range is between them
pub within_is : (least most z : ℤ) → within least most z ≡ true → (le_z least z ≡ true) × (le_z z most ≡ true)
within_is least most z h = (and-eq-true_iff (le_z least z) (le_z z most)).0 h

module _ (a b : ℕ) (z : ℤ) where
  -- what the test tells
  pub range_is : within (neg a) (pos b) z ≡ true → (P z ≤ b) × (N z ≤ a)
  range_is h = let t = within_is (neg a) (pos b) z h in omega (zar, apart z, neg_is (pos a))

  -- and what it asks
  pub range_yes : P z ≤ b → N z ≤ a → within (neg a) (pos b) z ≡ true
  range_yes p n = within_yes (neg a) (pos b) z (omega (zar, neg_is (pos a))) (omega zar)

-- the range of a word
abbrev pub word : ℤ → Bool
word = within (neg 32768) (pos 32767)

-- a number in it is a word
pub word_is : (x : ℤ) → word x ≡ true → SFits w16 x
word_is x h = omega (zar, range_is 32768 32767 x h)

-- and a word is in it
pub word_yes : (x : ℤ) → SFits w16 x → word x ≡ true
word_yes x f = range_yes 32768 32767 x (omega (arith, know f)) (omega (arith, know f))

-- so is each of a list of words
pub words_yes : (s : List ℤ) → ((k : ℕ) → k < length s → SFits w16 (s at k)) → every word s ≡ true
words_yes s f = every_places word s (pos 0) (λ k h. word_yes (s at k) (f k h))
