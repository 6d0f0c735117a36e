-- House rules, 'Refusals': the number of each refusal, there and back; and the number of a call's answer, which is 0 where nothing is
-- refused.
use Rattle.std.specs.Prelude.{ℕ, zero, suc, ◌<◌, ◌≤◌, ◌≡◌, refl, Bool, true, false, [], ◌∷◌, Result, Ok, Err}
use Rattle.std.proofs.Common.{sym, ap, arith, ◌∙◌}
use Rattle.standard.specs.House.{refusal}
use Rattle.refusals.specs.declared.Refusal.{Refusal}
use Rattle.refusals.specs.declared.Refusal.TheVariants.{Samples, Codewords, State, Bytes, Field, Spare}
use Rattle.refusals.specs.declared.Refused.{Refused}

-- the number of a refusal
unfoldable pub number : Refusal → ℕ
number Samples = 1
number Codewords = 2
number State = 3
number Bytes = 4
number Field = 5
number Spare = 6

-- the refusal of a number from 1 to 6
unfoldable pub refusal_of : ℕ → Refusal
refusal_of zero = Samples
refusal_of (suc zero) = Samples
refusal_of (suc (suc zero)) = Codewords
refusal_of (suc (suc (suc zero))) = State
refusal_of (suc (suc (suc (suc zero)))) = Bytes
refusal_of (suc (suc (suc (suc (suc zero))))) = Field
refusal_of (suc (suc (suc (suc (suc (suc n)))))) = Spare

-- a refusal is read back from its number
pub refusal_back : (r : Refusal) → refusal_of (number r) ≡ r
unfolding number refusal_of
refusal_back Samples = refl
refusal_back Codewords = refl
refusal_back State = refl
refusal_back Bytes = refl
refusal_back Field = refl
refusal_back Spare = refl

-- so two refusals of the same number are the same
pub one_refusal : (r s : Refusal) → number r ≡ number s → r ≡ s
one_refusal r s e = sym (refusal_back r) ∙ ap refusal_of e ∙ refusal_back s

-- no refusal has the number 0
pub refused_above : (r : Refusal) → 0 < number r
unfolding number
refused_above Samples = omega arith
refused_above Codewords = omega arith
refused_above State = omega arith
refused_above Bytes = omega arith
refused_above Field = omega arith
refused_above Spare = omega arith

-- and each number from 1 to 6 has its refusal
pub number_back : (n : ℕ) → suc n ≤ 6 → number (refusal_of (suc n)) ≡ suc n
unfolding number refusal_of
number_back zero h = refl
number_back (suc zero) h = refl
number_back (suc (suc zero)) h = refl
number_back (suc (suc (suc zero))) h = refl
number_back (suc (suc (suc (suc zero)))) h = refl
number_back (suc (suc (suc (suc (suc zero))))) h = refl
number_back (suc (suc (suc (suc (suc (suc n)))))) h = absurd (omega arith)

-- three rows give no other number than theirs
pub rows_most : (a b c : Bool) (i j k : ℕ) → i ≤ 6 → j ≤ 6 → k ≤ 6 → refusal ((a, i) ∷ (b, j) ∷ (c, k) ∷ []) ≤ 6
unfolding refusal
rows_most true b c i j k f g h = f
rows_most false true c i j k f g h = g
rows_most false false true i j k f g h = h
rows_most false false false i j k f g h = omega arith

-- ---- answers

-- the number of an answer that hands nothing back
unfoldable pub answered : {A : Type 0} → Result A Refusal → ℕ
answered (Ok x) = 0
answered (Err r) = number r

-- the number of an answer that hands back the state
unfoldable pub number_of : {A S : Type 0} → Result A (Refused S) → ℕ
number_of (Ok x) = 0
number_of (Err r) = number r.refusal
