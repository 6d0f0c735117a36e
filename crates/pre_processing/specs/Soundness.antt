-- House rules, 'Soundness': the test of L_z2 as the code makes it. On 32 bits L_z2 is compared with the two ends of a range
-- that is moved by 32768 times z1.
use Rattle.std.specs.Prelude.{ℕ, ◌+◌, ◌≡◌, ◌&&◌, ℤ, pos, ◌+ℤ◌, ◌-ℤ◌}
use Rattle.std.proofs.Common.{sym, ap₂, ◌∙◌, ⊎_elim, arith}
use Rattle.std.specs.Int.Signed.{le_z}
use Rattle.math_integers.specs.Halves.{P, N, either, le_yes, le_no, yes_le, no_le}
use Rattle.math_integers.specs.Sums.{add_is, minus_is, neg_is}
use Rattle.standard.specs.Arithmetic.{within}
use Rattle.standard.specs.Tables.{neg}

-- two comparisons agree where the numbers compared have the same difference
le_same : (a b c d : ℤ) → (P a + N b) + (P d + N c) ≡ (P b + N a) + (P c + N d) → le_z a b ≡ le_z c d
le_same a b c d e =
    ⊎_elim
    (λ h. h ∙ sym (yes_le c d (omega (arith, le_yes a b h))))
    (λ h. h ∙ sym (no_le c d (omega (arith, le_no a b h))))
    (either (le_z a b))

-- z is in the range moved by c exactly when z less c is in the range itself
pub moved : (a b : ℕ) (c z : ℤ) → within (c -ℤ pos a) (c +ℤ pos b) z ≡ within (neg a) (pos b) (z -ℤ c)
moved a b c z =
    ap₂ ◌&&◌
    (le_same (c -ℤ pos a) z (neg a) (z -ℤ c) (omega (arith, minus_is c (pos a), minus_is z c, neg_is (pos a))))
    (le_same z (c +ℤ pos b) (z -ℤ c) (pos b) (omega (arith, add_is c (pos b), minus_is z c)))
