-- 4.2.4: the bound on the largest size at each scale, what the scaling does to a sample, and which samples lose bits in the scaling back.
use Rattle.std.specs.Prelude.{ℕ, suc, ◌+◌, ◌*◌, ◌-◌, ◌/◌, ◌^◌, ◌≤◌, ◌<◌, min, ◌≡◌, refl, true, false, List, map, ◌⊎◌, ℤ, pos, ◌+ℤ◌, ◌-ℤ◌, ◌*ℤ◌, nat_abs, length}
use Rattle.std.proofs.Common.{sym, ap, ◌∙◌, inl, inr, ⊎_elim, arith, mul-le-mul_left, mul-le-mul_right, mul-lt-mul_of_pos_right, lt_of_mul-lt-mul_right, pow-add, pow_mono, pow_pos, SFits, ne_eqb}
use Rattle.std.proofs.lemmas.Nat.{shl-shr}
use Rattle.std.specs.Int.Signed.{lt_z, le_z}
use Rattle.std.specs.Int.{w16}
use Rattle.math_integers.specs.Halves.{P, N, apart, zar, know, either, le_or_lt, abs_is}
use Rattle.math_integers.specs.Sums.{add_is, minus_is, scale_is, mul_in, shr_is}
use Rattle.math_lists.specs.Every.{every, every_at}
use Rattle.math_lists.specs.Tab.{map_at}
use Rattle.standard.specs.Arithmetic.{keep, modulo, ◌>>◌, shl, shr, sub, mult_r, norm, peak}
use Rattle.standard.specs.Tables.{neg, ◌at◌}
use Rattle.standard.specs.Lpc.{scalauto, scaled}
use Rattle.law_arithmetic.specs.Within.{word, word_is}
use Rattle.law_arithmetic.specs.Clip.{minus_plain, abs_clip}
use Rattle.law_arithmetic.specs.Shift.{shl_exact}
use Rattle.law_arithmetic.specs.Product.{mult_r_in, mult_r_plain}
use Rattle.law_arithmetic.specs.Norm.{normal}
use Rattle.law_fields.specs.Amplitudes.{peak_halves, peak_up, peak_covers}

-- ---- smax

-- no sample has a larger size, except −32768, whose size counts as 32767
pub smax_covers : (s : List ℤ) (i : ℕ) → i < length s → min (nat_abs (s at i)) 32767 ≤ P (peak s)
smax_covers s i l = omega (zar, abs_clip (s at i), peak_covers s i l, peak_halves s)

-- silence has the scale 0
pub scale_silent : (s : List ℤ) → peak s ≡ pos 0 → scalauto s ≡ pos 0
unfolding scalauto
scale_silent s e = rw e

-- all other samples the scale of their largest size
pub scale_heard : (s : List ℤ) → lt_z (pos 0) (peak s) ≡ true → scalauto s ≡ sub (pos 4) (norm (peak s *ℤ pos 65536))
unfolding scalauto
scale_heard s h =
    rw (ne_eqb (nat_abs (peak s)) 0 (omega (zar, abs_is (peak s)))) (ap (λ (z : ℤ). sub (pos 4) (norm z)) (peak_up s))

-- ---- the scales

-- the scale is n + 1, from 1 to 4, and the largest size is below 2^(12 + n)
pub record Scale (s : List ℤ) : Type 0 where
  pub n : ℕ
  pub is : scalauto s ≡ pos (suc n)
  pub most : n ≤ 3
  pub below : P (peak s) < 2 ^ (12 + n)

-- the scale is not above 0, and the largest size is below 2048
abbrev pub Unscaled : List ℤ → Type 0
Unscaled s = (lt_z (pos 0) (scalauto s) ≡ false) × (P (peak s) < 2048)

-- the product of two powers of 2
pub powers : (a b c : ℕ) → a + b ≡ c → 2 ^ a * 2 ^ b ≡ 2 ^ c
powers a b c e = sym (pow-add 2 a b) ∙ ap (λ (x : ℕ). 2 ^ x) e

-- all samples have one or the other
pub scale_cases : (s : List ℤ) → Scale s ⊎ Unscaled s
scale_cases s = ⊎_elim heard (λ e. inr (silent e)) (either (lt_z (pos 0) (peak s)))
  where
    silent : lt_z (pos 0) (peak s) ≡ false → Unscaled s
    silent e = (rw (scale_silent s (omega (zar, peak_halves s))) refl, omega (zar, peak_halves s))

    -- if norm gives m shifts
    by : (m : ℕ) → scalauto s ≡ pos 4 -ℤ pos m → P (peak s) * 2 ^ m < 32768 → Scale s ⊎ Unscaled s
    by m e b =
        ⊎_elim
        (λ (g : m ≤ 3). inl record {
          n = 3 - m;
          is = e ∙ omega (zar, minus_is (pos 4) (pos m));
          most = omega arith;
          below = lt_of_mul-lt-mul_right (2 ^ m) (omega (arith, powers (12 + (3 - m)) m 15 (omega arith)));
        })
        (λ (g : 3 < m). let q = mul-le-mul_left (P (peak s)) (pow_mono {i = 4} {j = m} g) in
        inr (rw e (omega (zar, minus_is (pos 4) (pos m))), omega (arith, q)))
        (le_or_lt m 3)

    heard : lt_z (pos 0) (peak s) ≡ true → Scale s ⊎ Unscaled s
    heard e =
        let z = peak s *ℤ pos 65536 in
        let k = normal z (omega (zar, scale_is (peak s) 65536)) (omega (zar, peak_halves s, scale_is (peak s) 65536)) in
        let size : nat_abs z ≡ P (peak s) * 65536 = omega (arith, abs_is z, scale_is (peak s) 65536, peak_halves s) in
        let m = k.shifts in
        by m
        (scale_heard s e ∙ (ap (sub (pos 4)) k.is ∙ minus_plain (pos 4) (pos m) (omega (zar, k.most, minus_is (pos 4) (pos m)))))
        (omega (arith, k.stays, ap (λ (x : ℕ). x * 2 ^ m) size))

-- the factor of a scale of n + 1
factor_is : (n : ℕ) → n ≤ 3 → shr w16 (pos 16384) (sub (pos (suc n)) (pos 1)) ≡ pos (2 ^ (14 - n))
unfolding shr
factor_is n h =
    let p = powers (14 - n) n 14 (omega arith) in
    let d = minus_is (pos (suc n)) (pos 1) in
    let e : sub (pos (suc n)) (pos 1) ≡ pos n = minus_plain (pos (suc n)) (pos 1) (omega (zar, d)) ∙ omega (zar, d) in
    rw e (ap (λ (x : ℕ). pos (x / 2 ^ n)) (sym p) ∙ ap pos (shl-shr (2 ^ (14 - n)) n))

-- the scaling multiplies by this factor
pub scaled_by : (n : ℕ) (s : List ℤ) → n ≤ 3 → scaled (pos (suc n)) s ≡ map (λ x. mult_r x (pos (2 ^ (14 - n)))) s
unfolding scaled
scaled_by n s h = let e : lt_z (pos 0) (pos (suc n)) ≡ true = omega zar in rw (e, factor_is n h)

-- where the scale is not above 0, it changes nothing
pub scaled_not : (scale : ℤ) (s : List ℤ) → lt_z (pos 0) scale ≡ false → scaled scale s ≡ s
unfolding scaled
scaled_not scale s e = rw e

-- ---- the scaling back

-- at a scale of n + 1, the shift back loses nothing of a word that is more than half a step below 32768
word_exact : (x : ℤ) (n : ℕ) → SFits w16 x → n ≤ 3 → P x + 2 ^ n < 32768
    → let y = mult_r x (pos (2 ^ (14 - n))) in shl w16 y (pos (suc n)) ≡ y *ℤ pos (2 ^ suc n)
word_exact x n f h b = shl_exact w16 y (suc n) (omega (zar, scale_is y (2 ^ suc n), above, below))
  where
    m : ℕ
    m = 2 ^ (14 - n)

    y : ℤ
    y = mult_r x (pos m)

    p : ℤ
    p = x *ℤ pos m

    y_is : y ≡ (p +ℤ pos 16384) >> 15
    y_is = mult_r_plain x (pos m) f (omega (zar, pow_mono {i = 14 - n} {j = 14} (omega arith))) (omega (arith, know f))

    top : P y < m
    top =
        rw y_is
        (omega (
          arith,
          powers n (14 - n) 14 (omega arith),
          mul-lt-mul_of_pos_right b (pow_pos (14 - n)),
          scale_is x m,
          add_is p (pos 16384),
          shr_is (p +ℤ pos 16384) 32768 (omega arith),
        ))

    above : P y * 2 ^ suc n < 32768
    above = omega (arith, mul-lt-mul_of_pos_right top (pow_pos (suc n)), powers (14 - n) (suc n) 15 (omega arith))

    least : P y + N y ≤ m
    least = mult_r_in x (pos m) m (omega (arith, mul_in 32768 m x (pos m) (omega (arith, know f, apart x)) (omega arith)))

    below : N y * 2 ^ suc n ≤ 32768
    below = omega (arith, mul-le-mul_right {m = N y} {n = m} (2 ^ suc n) (omega (arith, least)), powers (14 - n) (suc n) 15 (omega arith))

-- so the shift back loses nothing of a scaled sample, except of those from 32760 on at scale 4
pub rescaled_exact : (s : List ℤ) → every word s ≡ true → lt_z (pos 0) (scalauto s) ≡ true → (i : ℕ) → i < length s
    → (scalauto s ≡ pos 4 → lt_z (s at i) (pos 32760) ≡ true)
    → let y = scaled (scalauto s) s at i in shl w16 y (scalauto s) ≡ y *ℤ pos (2 ^ nat_abs (scalauto s))
rescaled_exact s w e i l h = ⊎_elim back (λ (g, _). absurd (omega (zar, e, g))) (scale_cases s)
  where
    x : ℤ
    x = s at i

    f : SFits w16 x
    f = word_is x (every_at word s i (pos 0) w l)

    room : (r : Scale s) → P x + 2 ^ r.n < 32768
    room r =
        ⊎_elim
        (λ (g : 3 ≤ r.n). let t : r.n ≡ 3 = omega (arith, r.most) in
        rw t (omega (zar, apart x, h (r.is ∙ ap (λ (n : ℕ). pos (suc n)) t))))
        (λ (g : r.n < 3). let u = pow_mono {i = 12 + r.n} {j = 14} (omega arith) in
        let v = pow_mono {i = r.n} {j = 2} (omega arith) in
        omega (arith, r.below, smax_covers s i l, abs_is x, u, v))
        (le_or_lt 3 r.n)

    back : Scale s → let y = scaled (scalauto s) s at i in shl w16 y (scalauto s) ≡ y *ℤ pos (2 ^ nat_abs (scalauto s))
    back r =
        rw (r.is, scaled_by r.n s r.most, map_at (λ x. mult_r x (pos (2 ^ (14 - r.n)))) s i (pos 0) (pos 0) l)
        (word_exact x r.n f r.most (room r))

-- these become −32768: the one shift that loses bits
pub rescaled_at_four : (x : ℤ) → SFits w16 x → le_z (pos 32760) x ≡ true → shl w16 (mult_r x (pos 2048)) (pos 4) ≡ neg 32768
unfolding shl keep modulo
rescaled_at_four x f h =
    let p = x *ℤ pos 2048 in
    let e : mult_r x (pos 2048) ≡ pos 2048 =
    mult_r_plain x (pos 2048) f (omega zar) (omega (arith, know f))
    ∙ omega (zar, know f, apart x, scale_is x 2048, add_is p (pos 16384), shr_is (p +ℤ pos 16384) 32768 (omega arith))
    in
    rw e
