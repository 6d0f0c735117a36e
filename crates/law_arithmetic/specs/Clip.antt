-- The clip of add, sub, L_add, L_sub and abs: what it gives, and where it does nothing.
use Rattle.std.specs.Prelude.{◌+◌, ◌-◌, ◌^◌, min, ◌≡◌, ℤ, pos, negsuc, ◌+ℤ◌, ◌-ℤ◌, nat_abs}
use Rattle.std.proofs.Common.{arith, pow_pos}
use Rattle.std.specs.Int.{Width, w16}
use mir.Val.{SFits, hbits}
use Rattle.math_integers.specs.Halves.{P, N, zar, know}
use Rattle.standard.specs.Arithmetic.{clip, plus, minus, abs}

pub clip_is : (w : Width) (z : ℤ) → (P (clip w z) ≡ min (P z) (2 ^ hbits w - 1)) × (N (clip w z) ≡ min (N z) (2 ^ hbits w))
unfolding clip
clip_is w (pos n) = omega arith
clip_is w (negsuc n) = omega (arith, pow_pos (hbits w))

pub clip_fits : (w : Width) (z : ℤ) → SFits w (clip w z)
clip_fits w z = omega (zar, clip_is w z, pow_pos (hbits w))

-- where z is in the range, the clip does nothing
pub clip_plain : {w : Width} {z : ℤ} → SFits w z → clip w z ≡ z
clip_plain {w} {z} f = omega (zar, clip_is w z, know f)

module _ (w : Width) (a b : ℤ) where
  -- what a sum and a difference are, for `omega`
  pub plus_clip : (P (plus w a b) ≡ min (P (a +ℤ b)) (2 ^ hbits w - 1)) × (N (plus w a b) ≡ min (N (a +ℤ b)) (2 ^ hbits w))
  unfolding plus
  plus_clip = clip_is w (a +ℤ b)

  pub minus_clip : (P (minus w a b) ≡ min (P (a -ℤ b)) (2 ^ hbits w - 1)) × (N (minus w a b) ≡ min (N (a -ℤ b)) (2 ^ hbits w))
  unfolding minus
  minus_clip = clip_is w (a -ℤ b)

  pub plus_fits : SFits w (plus w a b)
  unfolding plus
  plus_fits = clip_fits w (a +ℤ b)

  pub minus_fits : SFits w (minus w a b)
  unfolding minus
  minus_fits = clip_fits w (a -ℤ b)

module _ {w : Width} (a b : ℤ) where
  pub plus_plain : SFits w (a +ℤ b) → plus w a b ≡ a +ℤ b
  unfolding plus
  plus_plain f = clip_plain f

  pub minus_plain : SFits w (a -ℤ b) → minus w a b ≡ a -ℤ b
  unfolding minus
  minus_plain f = clip_plain f

-- an absolute value is a word, and never negative
pub abs_clip : (a : ℤ) → (P (abs a) ≡ min (nat_abs a) 32767) × (N (abs a) ≡ 0)
unfolding abs
abs_clip a = omega (arith, clip_is w16 (pos (nat_abs a)))
