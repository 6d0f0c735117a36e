-- Ranges of results, for `search`; and what is true of a number that passes through a local or comes back from a call.
use Rattle.std.specs.Prelude.{ℕ, suc, ◌+◌, ◌*◌, ◌^◌, ◌≤◌, ◌≡◌, refl, List, T, ltb, leb, ℤ, pos, negsuc, ◌+ℤ◌, ◌-ℤ◌, ◌*ℤ◌}
use Rattle.std.proofs.Common.{sym, ap, ◌∙◌, arith, ltb→lt, pow_mono, pow-add, to_z-of_z, rules}
use Rattle.std.proofs.Math.Path.{subst⁻¹}
use Rattle.std.proofs.Math.Nat.{pow-succ'}
use Rattle.std.proofs.Math.Pow.{pow-lt}
use Rattle.std.specs.Int.Signed.{shr_z, mag_shr}
use Rattle.std.specs.Int.{Width}
use mir.Val.{SFits, hbits, to_z, of_z}
use Rattle.std.proofs.Math.Facts.{sfits_widen}
use borrow.Author.Called.{Called}
use borrow.Fn.Kind.{ParamKind}
use borrow.Fn.Kinds.{Out}
use borrow.Fn.Args.{ArgsT}
use borrow.Table.Row.{Cx}
use borrow.Table.Typed.{Mo}
use borrow.Kind.SNum.{r_s_num}
use Rattle.math_integers.specs.Halves.{P, N, zar, know}
use Rattle.math_integers.specs.Sums.{add_is, minus_is, mul_in}

-- a wider width v holds every number of w, the sum of two numbers of w, and their product
pub wide : {w v : Width} {z : ℤ} → SFits w z → T (leb (hbits w) (hbits v)) → SFits v z
wide f t = sfits_widen t f

twice : (w v : Width) → T (ltb (hbits w) (hbits v)) → 2 ^ hbits w + 2 ^ hbits w ≤ 2 ^ hbits v
twice w v t = omega (arith, pow_mono {i = suc (hbits w)} (ltb→lt (hbits w) (hbits v) t), pow-succ' 2 (hbits w))

module _ {w : Width} {a b : ℤ} (f : SFits w a) (g : SFits w b) where
  pub sum_fits : {v : Width} → T (ltb (hbits w) (hbits v)) → SFits v (a +ℤ b)
  sum_fits {v} t = omega (zar, know f, know g, add_is a b, twice w v t)

  pub difference_fits : {v : Width} → T (ltb (hbits w) (hbits v)) → SFits v (a -ℤ b)
  difference_fits {v} t = omega (zar, know f, know g, minus_is a b, twice w v t)

  -- the largest product is the least number by itself
  pub product_in : P (a *ℤ b) + N (a *ℤ b) ≤ 2 ^ (hbits w + hbits w)
  product_in =
      rw (pow-add 2 (hbits w) (hbits w)) (mul_in (2 ^ hbits w) (2 ^ hbits w) a b (omega (arith, know f)) (omega (arith, know g)))

  pub product_fits : {v : Width} → T (ltb (hbits w + hbits w) (hbits v)) → SFits v (a *ℤ b)
  product_fits {v} t = omega (zar, product_in, pow-lt {i = hbits w + hbits w} (ltb→lt (hbits w + hbits w) (hbits v) t))

  -- a product with a rounding term
  pub rounded_fits : {v : Width} (k : ℕ) → T (ltb (2 ^ (hbits w + hbits w) + k) (2 ^ hbits v)) → SFits v (a *ℤ b +ℤ pos k)
  rounded_fits {v} k t = omega (zar, product_in, add_is (a *ℤ b) (pos k), ltb→lt (2 ^ (hbits w + hbits w) + k) (2 ^ hbits v) t)

pub shr_fits : {w : Width} {z : ℤ} (m : ℕ) → SFits w z → SFits w (shr_z z m)
shr_fits {w} {z} m f = record { sfits = omega (arith, mag_shr z m, f.sfits) }

-- `search zfits` shows a range, a cast, and takes `to_z w (of_z w z)` away wherever one of these shows that z fits
pub ruleset zfits = (rules, wide, sum_fits, difference_fits, product_fits, rounded_fits, shr_fits)

-- ---- through a local and back: `back` of a number that fits, `res` of a call's result
pub back : {w : Width} {z : ℤ} → SFits w z → to_z w (of_z w z) ≡ z
back f = to_z-of_z f

pub res : {n : ℕ} {w : Width} {ps : List (ParamKind n)} {Q : Out n ps (r_s_num w)} {Γ : Cx} {ar : ArgsT ps Γ.locals} {u : Mo Γ}
    → (k : Called ps (r_s_num w) Q Γ ar u) → to_z w (of_z w k.result) ≡ k.result
res k = to_z-of_z (record { sfits = k.type_inv })

-- a claim about a computed number, at the number that is read back
pub at : {w : Width} {z y : ℤ} (Q : ℤ → Type 0) → SFits w z → z ≡ y → Q y → Q (to_z w (of_z w z))
at Q f e q = subst⁻¹ Q (to_z-of_z f ∙ e) q

-- the bits of a number that is not negative
pub bits_pos : (w : Width) (z : ℤ) → N z ≡ 0 → of_z w z ≡ P z
bits_pos w (pos n) e = refl
bits_pos w (negsuc n) e = absurd (omega arith)

-- a test by `==`, which is of the bits
pub bits_eq : {w : Width} {a b : ℤ} → SFits w a → SFits w b → of_z w a ≡ of_z w b → a ≡ b
bits_eq {w} f g e = sym (to_z-of_z f) ∙ (ap (to_z w) e ∙ to_z-of_z g)
