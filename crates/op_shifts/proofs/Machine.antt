-- The machine's shifts are the standard's, for counts beyond the width too.
use Rattle.std.proofs.Common.{◌≡◌, ℕ, ◌^◌, ◌≤◌, min, ℤ, arith, sym, ap, ◌∙◌, ⊎_elim, SFits}
use Rattle.std.proofs.lemmas.Int.{ints}
use Rattle.std.specs.Int.{Width, w16, w32}
use Rattle.std.specs.Int.Signed.{shr_z}
use mir.Val.{hbits}
use Rattle.math_integers.specs.Halves.{le_or_lt}
use Rattle.law_arithmetic.specs.Shift.{down_all, up_bits, up_all, shr_left, shr_right, shl_left, shl_right}

-- to the right, from the width less 1 on every count gives what that one gives
down : (w : Width) (z : ℤ) (n : ℕ) → SFits w z → shr_z z (2 ^ min n (hbits w)) ≡ shr_z z (2 ^ n)
down w z n f =
    ⊎_elim
    (λ (h : n ≤ hbits w). let e : min n (hbits w) ≡ n = omega arith in ap (λ (k : ℕ). shr_z z (2 ^ k)) e)
    (λ h. let e : min n (hbits w) ≡ hbits w = omega arith in ap (λ (k : ℕ). shr_z z (2 ^ k)) e ∙ sym (down_all w z n f (omega arith)))
    (le_or_lt n (hbits w))

pub down_word : (z : ℤ) (n : ℕ) → SFits w16 z → shr_z z (2 ^ min n 15) ≡ shr_z z (2 ^ n)
down_word = down w16

pub down_long : (z : ℤ) (n : ℕ) → SFits w32 z → shr_z z (2 ^ min n 31) ≡ shr_z z (2 ^ n)
down_long = down w32

-- both ways
pub ruleset machine = (arith, down_word, down_long, up_bits, up_all)

-- a count of either sign
pub ruleset counts = (ints, shr_left, shr_right, shl_left, shl_right)
