-- 4.2.9: the coefficients of each of the four stretches, and that the definition's 160 are these.
use Rattle.std.specs.Prelude.{ℕ, zero, suc, ◌<◌, ◌≡◌, refl, ℤ, pos, length, get_or, replicate}
use Rattle.std.proofs.Common.{ap, ◌∙◌, arith}
use mathlib.Core.List.{List, ◌++◌, map, zip_with, flatten}
use Rattle.math_lists.specs.Tab.{map_at, zip_at, zip_length}
use Rattle.standard.specs.Tables.{◌at◌}
use Rattle.standard.specs.ShortTerm.{stretches, rp, stretch, coefficients}
use Rattle.law_lengths.specs.Analysis.{stretch_length}

-- LARp[i] in stretch j, counted from 0; past the last stretch, the new ratio
unfoldable pub LARp : ℕ → ℤ → ℤ → ℤ
LARp j = (get_or stretches j (0, λ old new. new)).1

-- from the fourth stretch on it is the new ratio
pub LARp_last : (j : ℕ) (old new : ℤ) → 2 < j → LARp j old new ≡ new
unfolding LARp stretches
LARp_last zero old new h = absurd (omega arith)
LARp_last (suc zero) old new h = absurd (omega arith)
LARp_last (suc (suc zero)) old new h = absurd (omega arith)
LARp_last (suc (suc (suc zero))) old new h = refl
LARp_last (suc (suc (suc (suc j)))) old new h = refl

-- rp[1..8] in stretch j
unfoldable pub rps : ℕ → List ℤ → List ℤ → List ℤ
rps j old new = map rp (zip_with (LARp j) old new)

-- eight, where there are eight old ratios and eight new ones
pub rps_length : (j : ℕ) (old new : List ℤ) → length old ≡ 8 → length new ≡ 8 → length (rps j old new) ≡ 8
unfolding rps
rps_length j = stretch_length (LARp j)

-- what iteration k stores
pub rps_at : (j : ℕ) (old new : List ℤ) (k : ℕ) → length old ≡ 8 → length new ≡ 8 → k < 8
    → rps j old new at k ≡ rp (LARp j (old at k) (new at k))
unfolding rps
rps_at j old new k o n h =
    map_at rp (zip_with (LARp j) old new) k (pos 0) (pos 0) (rw zip_length (omega arith))
    ∙ ap rp (zip_at (LARp j) old new k (pos 0) (pos 0) (pos 0) (omega arith) (omega arith))

-- the coefficients of the 160 samples are those of 13, of 14, of 13 and of 120
pub coefficients_are : (old new : List ℤ)
    → coefficients old new
    ≡ replicate 13 (rps 0 old new)
    ++ (replicate 14 (rps 1 old new) ++ (replicate 13 (rps 2 old new) ++ replicate 120 (rps 3 old new)))
unfolding LARp rps stretches stretch coefficients flatten
coefficients_are old new = refl
