-- 4.2.11: the code of the gain fits its field.
use Rattle.std.specs.Prelude.{◌≤◌, ℤ, pos}
use Rattle.std.proofs.Common.{arith}
use Rattle.std.specs.Int.Signed.{le_z}
use Rattle.math_lists.specs.First.{by_cond, first_le}
use Rattle.standard.specs.Arithmetic.{mult}
use Rattle.standard.specs.Tables.{◌at◌, DLB}
use Rattle.standard.specs.LongTerm.{gain_level, bc}

-- the gain's level is from 0 to 3
pub level_in : (R S : ℤ) → gain_level R S ≤ 3
unfolding gain_level
level_in R S = first_le (λ bc. le_z R (mult S (DLB at bc))) 3 0

-- and so is bc
pub gain_in : (L_max L_pow : ℤ) → bc L_max L_pow ≤ 3
unfolding bc
gain_in L_max L_pow =
    by_cond (λ k. k ≤ 3) (le_z L_max (pos 0)) (λ _. omega arith)
    (λ _. by_cond (λ k. k ≤ 3) (le_z L_pow L_max) (λ _. omega arith) (λ _. level_in _ _))
