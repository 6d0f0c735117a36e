-- 4.2.9.2: no coefficient is -32768, so mult_r never saturates in the lattices.
use Rattle.std.specs.Prelude.{ℕ, ◌≤◌, ◌≡◌, Bool, true, ℤ, pos, ◌*ℤ◌}
use mathlib.Core.List.{List, zip_with}
use Rattle.std.proofs.Common.{arith, SFits}
use Rattle.std.specs.Int.Signed.{lt_z}
use Rattle.std.specs.Int.{w16}
use Rattle.math_integers.specs.Halves.{P, N, zar}
use Rattle.math_integers.specs.Sums.{add_is, minus_is, scale_is, shr_is}
use Rattle.math_lists.specs.First.{by_cond}
use Rattle.math_lists.specs.Every.{every, every_all, every_map}
use Rattle.standard.specs.Arithmetic.{within, ◌>>◌, ◌<<◌, add, sub, abs}
use Rattle.standard.specs.Tables.{neg}
use Rattle.standard.specs.Lpc.{with_sign}
use Rattle.standard.specs.ShortTerm.{from_ratio, rp}
use Rattle.law_arithmetic.specs.Clip.{plus_clip, minus_clip, abs_clip}
use Rattle.law_arithmetic.specs.Shift.{keep_plain}
use Rattle.law_arithmetic.specs.Within.{range_is, range_yes}
use Rattle.short_ratios.specs.Stretches.{LARp, rps}

-- from 0 to the greatest word
abbrev Size : ℤ → Type 0
Size z = (P z ≤ 32767) × (N z ≡ 0)

-- the piecewise line of a number that is not negative lies there
from_ratio_size : (t : ℤ) → N t ≡ 0 → Size (from_ratio t)
unfolding from_ratio
from_ratio_size t h = by_cond Size (lt_z t (pos 11059)) first (λ _. by_cond Size (lt_z t (pos 20070)) (λ _. second) (λ _. third))
  where
    first : lt_z t (pos 11059) ≡ true → Size (t << 1)
    first e =
        let f : SFits w16 (t *ℤ pos 2) = omega (zar, scale_is t 2) in
        rw (keep_plain f) (omega (zar, scale_is t 2))

    second : Size (add t (pos 11059))
    second = omega (arith, plus_clip w16 t (pos 11059), add_is t (pos 11059))

    third : Size (add (t >> 2) (pos 26112))
    third = omega (arith, plus_clip w16 (t >> 2) (pos 26112), add_is (t >> 2) (pos 26112), shr_is t 4 (omega arith))

-- a word that is not -32768: with it, mult_r never saturates
abbrev pub factor : ℤ → Bool
factor = within (neg 32767) (pos 32767)

-- it is a word
pub factor_is : (z : ℤ) → factor z ≡ true → SFits w16 z
factor_is z h = omega (zar, range_is 32767 32767 z h)

-- a coefficient is one: it is above -32768
rp_above : (x : ℤ) → factor (rp x) ≡ true
unfolding rp with_sign
rp_above x =
    let t = from_ratio (abs x) in
    let h = from_ratio_size (abs x) (abs_clip x).1 in
    let m = minus_clip w16 (pos 0) t in
    let d = minus_is (pos 0) t in
    by_cond (λ z. factor z ≡ true) (lt_z x (pos 0))
    (λ _. range_yes 32767 32767 (sub (pos 0) t) (omega arith) (omega arith))
    (λ _. range_yes 32767 32767 t (omega arith) (omega arith))

-- so is each of a stretch
pub rps_above : (j : ℕ) (old new : List ℤ) → every factor (rps j old new) ≡ true
unfolding rps
rps_above j old new = rw every_map (every_all _ rp_above (zip_with (LARp j) old new))
