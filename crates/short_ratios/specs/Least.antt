-- 4.2.9.2: for a number that is not negative, the piecewise line is the least of its three lines.
use Rattle.std.specs.Prelude.{◌+◌, ◌/◌, min, ◌≡◌, true, false, cond, ℤ, pos, ◌+ℤ◌, ◌*ℤ◌}
use Rattle.std.proofs.Common.{arith, SFits}
use Rattle.std.specs.Int.Signed.{lt_z, le_z}
use Rattle.std.specs.Int.{w16, int_min}
use Rattle.math_integers.specs.Halves.{P, N, zar, apart}
use Rattle.math_integers.specs.Sums.{add_is, scale_is, shr_is}
use Rattle.math_lists.specs.First.{by_cond}
use Rattle.standard.specs.Arithmetic.{◌>>◌, ◌<<◌, add}
use Rattle.standard.specs.ShortTerm.{from_ratio}
use Rattle.law_arithmetic.specs.Clip.{plus_clip, plus_plain}
use Rattle.law_arithmetic.specs.Shift.{keep_plain}

-- the smaller of two
abbrev pub lesser : ℤ → ℤ → ℤ
lesser a b = cond (lt_z a b) a b

-- as the library's minimum has it, which takes the first of two equal ones
pub min_is : (a b : ℤ) → int_min a b ≡ lesser a b
min_is a b =
    by_cond (λ z. int_min a b ≡ z) (lt_z a b) (λ h. let g : lt_z b a ≡ false = omega zar in rw g)
    (λ h. by_cond (λ z. z ≡ b) (lt_z b a) (λ g _. b) (λ g. omega zar))

-- the three lines
abbrev steep : ℤ → ℤ
steep t = add t t

abbrev middle : ℤ → ℤ
middle t = add t (pos 11059)

abbrev flat : ℤ → ℤ
flat t = add (t >> 2) (pos 26112)

abbrev pub least : ℤ → ℤ
least t = lesser (lesser (steep t) (middle t)) (flat t)

module _ (t : ℤ) (f : SFits w16 t) (n : N t ≡ 0) where
  -- what each gives: it saturates at 32767 and is not negative
  steep_is : (P (steep t) ≡ min (P t + P t) 32767) × (N (steep t) ≡ 0)
  steep_is = omega (arith, plus_clip w16 t t, add_is t t)

  middle_is : (P (middle t) ≡ min (P t + 11059) 32767) × (N (middle t) ≡ 0)
  middle_is = omega (arith, plus_clip w16 t (pos 11059), add_is t (pos 11059))

  flat_is : (P (flat t) ≡ min (P t / 4 + 26112) 32767) × (N (flat t) ≡ 0)
  flat_is = omega (arith, plus_clip w16 (t >> 2) (pos 26112), add_is (t >> 2) (pos 26112), shr_is t 4 (omega arith))

  -- the steep line is the least below 11059
  first : lt_z t (pos 11059) ≡ true → least t ≡ t << 1
  first a =
      let u : lt_z (steep t) (middle t) ≡ true = omega (zar, steep_is, middle_is) in
      let v : lt_z (steep t) (flat t) ≡ true = omega (zar, steep_is, flat_is) in
      let g : SFits w16 (t *ℤ pos 2) = omega (zar, scale_is t 2) in
      let e : SFits w16 (t +ℤ t) = omega (zar, add_is t t) in
      rw (u, v, plus_plain t t e, keep_plain g) (omega (zar, add_is t t, scale_is t 2))

  -- the middle one from there to 20070
  second : lt_z t (pos 11059) ≡ false → lt_z t (pos 20070) ≡ true → least t ≡ middle t
  second a b =
      let u : lt_z (steep t) (middle t) ≡ false = omega (zar, steep_is, middle_is) in
      let v : lt_z (middle t) (flat t) ≡ true = omega (zar, middle_is, flat_is) in
      rw (u, v)

  -- and the flat one beyond
  third : lt_z t (pos 20070) ≡ false → least t ≡ flat t
  third b =
      let u : lt_z (steep t) (middle t) ≡ false = omega (zar, steep_is, middle_is) in
      let v : lt_z (middle t) (flat t) ≡ false = omega (zar, middle_is, flat_is) in
      rw (u, v)

  least_of : least t ≡ from_ratio t
  unfolding from_ratio
  least_of =
      by_cond (λ z. least t ≡ z) (lt_z t (pos 11059)) first
      (λ a. by_cond (λ z. least t ≡ z) (lt_z t (pos 20070)) (second a) third)

-- so the least of the three is 4.2.9.2's line, for every word that is not negative
pub least_is : (t : ℤ) → SFits w16 t → le_z (pos 0) t ≡ true → least t ≡ from_ratio t
least_is t f h = least_of t f (omega (zar, apart t))
