-- 4.2.1 and 4.2.2, one sample: from a sound state the offset filter does not saturate and loses no bit, its output is from −32764 to
-- 32764, and the state stays sound. In each step the distance of L_z2 from 32768 · z1 decays, and 33 · z1 is subtracted from it.
use Rattle.std.specs.Prelude.{◌≤◌, ◌≡◌, Bool, true, ◌&&◌, ℤ, pos, ◌+ℤ◌, ◌-ℤ◌, ◌*ℤ◌}
use Rattle.std.proofs.Math.Path.{refl, ap}
use Rattle.std.proofs.Common.{sym, ◌∙◌, arith, SFits}
use Rattle.std.proofs.Math.Bool.{and-eq-true_iff}
use Rattle.std.proofs.Math.IntN.{*ℤ_comm, -ℤ-+ℤ_cancel}
use mir.Syntax.{w16, w32}
use Rattle.math_integers.specs.Halves.{P, N, apart, zar, know}
use Rattle.math_integers.specs.Sums.{add_is, minus_is, mul_is, scale_is, shr_is}
use Rattle.standard.specs.Arithmetic.{◌>>◌, ◌<<◌, low, up, sub, L_add}
use Rattle.standard.specs.Preprocessing.{Offset, offset}
use Rattle.law_arithmetic.specs.Within.{range_is, range_yes}
use Rattle.law_arithmetic.specs.Clip.{plus_plain, minus_plain}
use Rattle.law_arithmetic.specs.Shift.{keep_plain}
use Rattle.law_soundness.specs.Ranges.{long_range, so_range, sof_range, error_range, L_z2_range}
use Rattle.law_soundness.specs.Decay.{decayed, decayed_is, decayed_shift, recursive_plain}

-- a word is downscaled to the range of so
pub downscaled_in : (x : ℤ) → SFits w16 x → so_range ((x >> 3) << 2) ≡ true
downscaled_in x f =
    let y = (x >> 3) *ℤ pos 4 in
    let x_is = shr_is x 8 (omega arith) in
    let y_is = scale_is (x >> 3) 4 in
    rw (keep_plain {w = w16} {z = y} (omega (zar, know f))) (range_yes 16384 16380 y (omega (arith, know f)) (omega (arith, know f)))

-- how far L_z2 is from 32768 · z1
abbrev pub error : Offset → ℤ
error m = m.L_z2 -ℤ pos 32768 *ℤ m.z1

-- the two tests of an encoder state (house rules, 'Soundness'), on what the filter keeps
abbrev pub sound_offset : Offset → Bool
sound_offset m = so_range m.z1 && error_range (error m)

-- the step on integers, without a clip and without lost bits
unfoldable pub plain_offset : Offset → ℤ → Offset × ℤ
plain_offset m so =
    let L_z2 = pos 32768 *ℤ (so -ℤ m.z1) +ℤ decayed m.L_z2 in
    (record { z1 = so; L_z2 = L_z2 }, (L_z2 +ℤ pos 16384) >> 15)

-- ---- what soundness tells

module _ (x : ℤ) (h : L_z2_range x ≡ true) where
  -- an L_z2 in its range, rounded, is from −32764 to 32764
  rounded_in : (P ((x +ℤ pos 16384) >> 15) ≤ 32764) × (N ((x +ℤ pos 16384) >> 15) ≤ 32764)
  rounded_in =
      let y = x +ℤ pos 16384 in
      omega (arith, range_is 1073611249 1073611249 x h, add_is x (pos 16384), apart y, shr_is y 32768 (omega arith))

  -- so the rounding does not saturate, and no bit is lost
  pub rounding_plain : L_add x (pos 16384) ≡ x +ℤ pos 16384
  rounding_plain = plus_plain x (pos 16384) (omega (zar, range_is 1073611249 1073611249 x h, add_is x (pos 16384)))

  pub sof_plain : low (L_add x (pos 16384) >> 15) ≡ L_add x (pos 16384) >> 15
  sof_plain = keep_plain (rw rounding_plain (omega (zar, rounded_in)))

module _ (m : Offset) (h : sound_offset m ≡ true) where
  -- both ranges, for `omega`
  pub sound_is : (P m.z1 ≤ 16380) × (N m.z1 ≤ 16384) × (P (error m) ≤ 536871409) × (N (error m) ≤ 536740337)
  sound_is =
      let (a, b) = (and-eq-true_iff (so_range m.z1) (error_range (error m))).0 h in
      omega (arith, range_is 16384 16380 m.z1 a, range_is 536740337 536871409 (error m) b)

  -- so L_z2 is at most 1073611249 in size
  pub L_z2_in : L_z2_range m.L_z2 ≡ true
  L_z2_in =
      let y_is = mul_is (pos 32768) m.z1 in
      let e_is = minus_is m.L_z2 (pos 32768 *ℤ m.z1) in
      let one = apart m.L_z2 in
      range_yes 1073611249 1073611249 m.L_z2 (omega (arith, sound_is)) (omega (arith, sound_is))

  -- which is 31 bits
  pub L_z2_long : long_range m.L_z2 ≡ true
  L_z2_long =
      let x-in = range_is 1073611249 1073611249 m.L_z2 L_z2_in in
      range_yes 1073741824 1073741823 m.L_z2 (omega arith) (omega arith)

-- ---- the step

module _ (m : Offset) (so : ℤ) (h : sound_offset m ≡ true) (k : so_range so ≡ true) where
  -- the difference of two samples is a word
  difference : let s1 = so -ℤ m.z1 in (P s1 ≤ 32764) × (N s1 ≤ 32764)
  difference = omega (arith, sound_is m h, range_is 16384 16380 so k, minus_is so m.z1, apart (so -ℤ m.z1))

  pub s1_plain : sub so m.z1 ≡ so -ℤ m.z1
  s1_plain = minus_plain so m.z1 (omega (zar, difference))

  -- and 31 bits, shifted left
  s2_is : up w32 (sub so m.z1) 15 ≡ (so -ℤ m.z1) *ℤ pos 32768
  s2_is = rw s1_plain (keep_plain (omega (zar, difference, scale_is (so -ℤ m.z1) 32768)))

  pub L_s2_long : long_range (up w32 (sub so m.z1) 15) ≡ true
  L_s2_long =
      let y = (so -ℤ m.z1) *ℤ pos 32768 in
      let y_is = scale_is (so -ℤ m.z1) 32768 in
      rw s2_is (range_yes 1073741824 1073741823 y (omega (arith, difference)) (omega (arith, difference)))

  -- L_z2 becomes the plain sum
  pub offset_L_z2 : (offset m so).0.L_z2 ≡ pos 32768 *ℤ (so -ℤ m.z1) +ℤ decayed m.L_z2
  unfolding offset
  offset_L_z2 =
      recursive_plain m.L_z2 (L_z2_long m h) (up w32 (sub so m.z1) 15) L_s2_long
      ∙ ap (λ (y : ℤ). y +ℤ decayed m.L_z2) (s2_is ∙ *ℤ_comm (so -ℤ m.z1) (pos 32768))

  -- z1 becomes the sample
  offset_z1 : (offset m so).0.z1 ≡ so
  unfolding offset
  offset_z1 = refl

  -- so the error decays, and 33 · z1 is taken from it
  offset_error : error (offset m so).0 ≡ decayed (error m) -ℤ pos 33 *ℤ m.z1
  offset_error =
      let z = m.z1 in
      let s1 = so -ℤ z in
      let e = decayed (error m) in
      let l = pos 32768 *ℤ s1 in
      let r = e +ℤ pos 32735 *ℤ z in
      let x_is : decayed m.L_z2 ≡ r = ap decayed (sym (-ℤ-+ℤ_cancel m.L_z2 (pos 32768 *ℤ z))) ∙ decayed_shift (error m) z in
      let s1-is = minus_is so z in
      let l-is = mul_is (pos 32768) s1 in
      let r-is = add_is e (pos 32735 *ℤ z) in
      let so_is = mul_is (pos 32768) so in
      rw (offset_L_z2, offset_z1, x_is)
      (omega (zar, mul_is (pos 32735) z, mul_is (pos 33) z, add_is l r, minus_is (l +ℤ r) (pos 32768 *ℤ so), minus_is e (pos 33 *ℤ z)))

  -- and the state stays sound
  pub offset_sound : sound_offset (offset m so).0 ≡ true
  offset_sound =
      let e = decayed (error m) in
      let y = pos 33 *ℤ m.z1 in
      let e_is = decayed_is (error m) in
      let y_is = mul_is (pos 33) m.z1 in
      let d_is = minus_is e y in
      let one = apart (e -ℤ y) in
      let m-in = sound_is m h in
      let d-in : error_range (e -ℤ y) ≡ true = range_yes 536740337 536871409 (e -ℤ y) (omega arith) (omega arith) in
      rw (offset_error, offset_z1, k, d-in) refl

  -- the output is the new L_z2, rounded
  offset_sof : (offset m so).1 ≡ ((offset m so).0.L_z2 +ℤ pos 16384) >> 15
  unfolding offset
  offset_sof =
      let z2-in = L_z2_in (offset m so).0 offset_sound in
      sof_plain (offset m so).0.L_z2 z2-in ∙ ap (λ (y : ℤ). y >> 15) (rounding_plain (offset m so).0.L_z2 z2-in)

  -- and is from −32764 to 32764
  pub offset_in : sof_range (offset m so).1 ≡ true
  offset_in =
      let (p, n) = rounded_in (offset m so).0.L_z2 (L_z2_in (offset m so).0 offset_sound) in
      rw offset_sof (range_yes 32764 32764 (((offset m so).0.L_z2 +ℤ pos 16384) >> 15) p n)

  -- all in one: the step is the plain one
  pub offset_plain : offset m so ≡ plain_offset m so
  unfolding offset plain_offset
  offset_plain = rw (offset_sof, offset_L_z2) refl
