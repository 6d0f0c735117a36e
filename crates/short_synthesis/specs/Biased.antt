-- Cells kept with 32768 added (the bias): one test then says of a sum that it is a word. What such sums and products stand for.
use Rattle.std.specs.Prelude.{ℕ, ◌+◌, ◌*◌, ◌≤◌, ◌<◌, ◌≡◌, refl, Bool, true, false, ◌&&◌, ℤ, pos, ◌+ℤ◌, ◌-ℤ◌, ◌*ℤ◌}
use Rattle.std.proofs.Common.{ap, ◌∙◌, mul-add, arith, SFits}
use Rattle.std.specs.Int.Signed.{le_z}
use Rattle.std.specs.Int.{w16, w32}
use Rattle.math_integers.specs.Halves.{P, N, zar, know, apart, mem}
use Rattle.math_integers.specs.Sums.{add_is, minus_is, mul_is, mul_in, scale_is, shr_is, neg_is}
use Rattle.math_integers.specs.Ranges.{rounded_fits, back}
use Rattle.standard.specs.Arithmetic.{◌>>◌, add, mult_r}
use Rattle.standard.specs.Tables.{neg}
use Rattle.law_arithmetic.specs.Clip.{plus_fits}
use Rattle.law_arithmetic.specs.Product.{mult_r_plain}
use Rattle.law_arithmetic.specs.Within.{range_is, word, word_is, word_yes}
use Rattle.short_ratios.specs.Bounds.{factor, factor_is}
use Rattle.short_synthesis.specs.declared.Line.{Line}
use Rattle.short_synthesis.specs.Lattice.{word_back, factor_back, widened, lined, Each, Held, all_from, Passed}

-- the word that such a number stands for
abbrev pub low : ℤ → ℤ
low z = z -ℤ pos 32768

-- whether it stands for a word
abbrev pub lifted : ℤ → Bool
lifted z = word (low z)

-- what eight of them stand for
abbrev pub base : Line → Line
base = lined low

-- what is added to a product with such a number: the rounding term, less the r * 32768 that the product has too much
abbrev pub offset : ℤ → ℤ
offset r = pos 16384 -ℤ r *ℤ pos 32768

-- ---- the range of such a number

pub lifted_is : (z : ℤ) → lifted z ≡ true → (P z ≤ 65535) × (N z ≡ 0)
lifted_is z h = omega (arith, range_is 32768 32767 (low z) h, minus_is z (pos 32768), apart z)

pub lifted_fits : (z : ℤ) → lifted z ≡ true → SFits w32 z
lifted_fits z h = omega (zar, lifted_is z h)

pub lifted_back : (z : ℤ) → lifted z ≡ true → mem w32 z ≡ z
lifted_back z h = back (lifted_fits z h)

pub local_lifted : (z : ℤ) → lifted z ≡ true → lifted (mem w32 z) ≡ true
local_lifted z h = rw (lifted_back z h) h

-- each of eight is what a local of 32 bits gives back
pub lifted_held : (l : Line) → Each word (base l) → Held l
lifted_held = all_from low lifted_back

-- the test of it, as the code makes it
least_is : (z : ℤ) (b : Bool) → le_z (pos 0) z ≡ b → le_z (neg 32768) (low z) ≡ b
least_is z true h = omega (zar, minus_is z (pos 32768), apart z, neg_is (pos 32768), apart (low z))
least_is z false h = omega (zar, minus_is z (pos 32768), apart z, neg_is (pos 32768), apart (low z))

most_is : (z : ℤ) (b : Bool) → le_z z (pos 65535) ≡ b → le_z (low z) (pos 32767) ≡ b
most_is z true h = omega (zar, minus_is z (pos 32768), apart z, apart (low z))
most_is z false h = omega (zar, minus_is z (pos 32768), apart z, apart (low z))

pub test_is : (z : ℤ) → lifted z ≡ (le_z (pos 0) z && le_z z (pos 65535))
test_is z = rw (least_is z (le_z (pos 0) z) refl, most_is z (le_z z (pos 65535)) refl)

-- ---- the bias added and taken off, through locals

pub lift_fits : (z : ℤ) → word z ≡ true → SFits w32 (mem w32 z +ℤ pos 32768)
lift_fits z h = rw (word_back z h) (omega (zar, know (word_is z h), add_is z (pos 32768)))

pub lift_is : (z : ℤ) → word z ≡ true → low (mem w32 (mem w32 z +ℤ pos 32768)) ≡ z
lift_is z h =
    rw (back (lift_fits z h), word_back z h) (omega (zar, add_is z (pos 32768), minus_is (z +ℤ pos 32768) (pos 32768)))

pub low_fits : (z : ℤ) → lifted z ≡ true → SFits w32 (mem w32 z -ℤ pos 32768)
low_fits z h = rw (lifted_back z h) (omega (zar, know (word_is (low z) h)))

pub low_is : (z : ℤ) → lifted z ≡ true → mem w32 (mem w32 z -ℤ pos 32768) ≡ low z
low_is z h = back (low_fits z h) ∙ rw (lifted_back z h)

-- a sample that is read gets the bias
pub sample_fits : (x : ℤ) → SFits w16 x → SFits w32 (mem w32 (mem w16 x) +ℤ pos 32768)
sample_fits x f = rw (widened x f) (omega (zar, know f, add_is x (pos 32768)))

pub sample_is : (x : ℤ) → SFits w16 x → low (mem w32 (mem w32 (mem w16 x) +ℤ pos 32768)) ≡ x
sample_is x f = rw (back (sample_fits x f), widened x f) (omega (zar, add_is x (pos 32768), minus_is (x +ℤ pos 32768) (pos 32768)))

-- ---- sums: the bias stays in a sum or a difference with a plain term

module _ (s t : ℤ) where
  pub less_low : low (s -ℤ t) ≡ low s -ℤ t
  less_low = omega (zar, minus_is s t, minus_is (s -ℤ t) (pos 32768), minus_is s (pos 32768), minus_is (low s) t)

  pub more_low : low (s +ℤ t) ≡ low s +ℤ t
  more_low = omega (zar, add_is s t, minus_is (s +ℤ t) (pos 32768), minus_is s (pos 32768), add_is (low s) t)

  module _ (h : lifted s ≡ true) (f : SFits w16 t) where
    pub less_fits : SFits w32 (s -ℤ t)
    less_fits = omega (zar, lifted_is s h, know f, minus_is s t)

    pub more_fits : SFits w32 (s +ℤ t)
    more_fits = omega (zar, lifted_is s h, know f, add_is s t)

-- ---- the product

-- with its offset it is that of the word, rounded
pub unbiased : (r v : ℤ) → r *ℤ v +ℤ offset r ≡ r *ℤ low v +ℤ pos 16384
unbiased r v =
    let k = pos 32768 in
    let w = low v in
    let e = (minus_is v k).0 in
    let p : P r * P w + (P r * N v + P r * 32768) ≡ P r * N w + (P r * P v + P r * 0) = simp mul-add at (ap (λ (n : ℕ). P r * n) e) in
    let n : N r * P w + (N r * N v + N r * 32768) ≡ N r * N w + (N r * P v + N r * 0) = simp mul-add at (ap (λ (n : ℕ). N r * n) e) in
    let o = minus_is (pos 16384) (r *ℤ k) in
    omega (zar, p, n, o, mul_is r v, mul_is r w, scale_is r 32768, add_is (r *ℤ v) (offset r), add_is (r *ℤ w) (pos 16384))

pub offset_fits : (r : ℤ) → factor r ≡ true → SFits w32 (offset r)
offset_fits r f = omega (zar, scale_is r 32768, range_is 32767 32767 r f, apart r, minus_is (pos 16384) (r *ℤ pos 32768))

module _ (r v : ℤ) (f : factor r ≡ true) (h : lifted v ≡ true) where
  pub product_fits : SFits w32 (r *ℤ v)
  product_fits =
      omega (zar, mul_in 32767 65535 r v (omega (arith, range_is 32767 32767 r f, apart r)) (omega (arith, lifted_is v h)))

  pub rounded : SFits w32 (r *ℤ v +ℤ offset r)
  rounded = rw (unbiased r v) (rounded_fits (factor_is r f) (word_is (low v) h) 16384 tt)

-- ---- terms with the bias taken off before the shift

-- 32768 * 32768 less before the shift is 32768 less after it
shifted_low : (z : ℤ) → (z -ℤ pos 1073741824) >> 15 ≡ low (z >> 15)
shifted_low z =
    let y = z -ℤ pos 1073741824 in
    let less = minus_is z (pos 1073741824) in
    let after = minus_is (z >> 15) (pos 32768) in
    omega (zar, less, after, apart z, apart y, shr_is z 32768 (omega arith), shr_is y 32768 (omega arith))

-- so it is with the product of two words that are not both -32768
mult_r_low : (a b : ℤ) → SFits w16 a → SFits w16 b → N a + N b < 65536
    → ((a *ℤ b +ℤ pos 16384) -ℤ pos 1073741824) >> 15 ≡ low (mult_r a b)
mult_r_low a b f g h = rw (mult_r_plain a b f g h) (shifted_low (a *ℤ b +ℤ pos 16384))

-- ---- the eighth section: it takes wt without the bias, and gives an sri with it

-- a product whose offset has m added
more_unbiased : (r v m : ℤ) → r *ℤ v +ℤ (offset r +ℤ m) ≡ (r *ℤ low v +ℤ pos 16384) +ℤ m
more_unbiased r v m =
    let p = r *ℤ v in
    let o = offset r in
    rw (← unbiased r v) (omega (zar, add_is o m, add_is p o, add_is p (o +ℤ m), add_is (p +ℤ o) m))

-- it fits where m is at most 32768 * 32768 in size, and so does the offset
module _ (r m : ℤ) (f : factor r ≡ true) (l : P m + N m ≤ 1073741824) where
  pub more_offset : SFits w32 (offset r +ℤ m)
  more_offset =
      let o = minus_is (pos 16384) (r *ℤ pos 32768) in
      omega (zar, scale_is r 32768, range_is 32767 32767 r f, apart r, o, add_is (offset r) m)

  pub more_rounded : (v : ℤ) → lifted v ≡ true → SFits w32 (r *ℤ v +ℤ (offset r +ℤ m))
  more_rounded v h =
      let p = r *ℤ low v in
      let a : P r + N r ≤ 32767 = omega (arith, range_is 32767 32767 r f, apart r) in
      let b : P (low v) + N (low v) ≤ 32768 = omega (arith, know (word_is (low v) h)) in
      rw (more_unbiased r v m)
      (omega (zar, mul_in 32767 32768 r (low v) a b, add_is p (pos 16384), add_is (p +ℤ pos 16384) m))

-- a number of 32 bits that is shifted by 15 can be taken from a word
pub less_shifted_fits : (s z : ℤ) → SFits w16 s → SFits w32 z → SFits w32 (s -ℤ (z >> 15))
less_shifted_fits s z f g = omega (zar, know f, know g, shr_is z 32768 (omega arith), minus_is s (z >> 15))

-- with 32768 * 32768 taken from the offset, this difference has the bias and stands for the plain one
pub entering_is : (r v s : ℤ) → factor r ≡ true → lifted v ≡ true
    → low (s -ℤ ((r *ℤ v +ℤ (offset r -ℤ pos 1073741824)) >> 15)) ≡ s -ℤ mult_r r (low v)
entering_is r v s f h =
    let g = word_is (low v) h in
    let t = mult_r r (low v) in
    let e = mult_r_low r (low v) (factor_is r f) g (omega (arith, range_is 32767 32767 r f, know g)) in
    rw (more_unbiased r v (neg 1073741824), e)
    (omega (zar, minus_is t (pos 32768), minus_is s (low t), minus_is (s -ℤ low t) (pos 32768), minus_is s t))

-- ---- de-emphasis: it takes sr with the bias, and gives a word

-- 1073725440 is 32768 * 32768 less the rounding term
abbrev pub faded : ℤ → ℤ
faded m = m *ℤ pos 28180 -ℤ pos 1073725440

module _ (m : ℤ) (h : word m ≡ true) where
  pub product_small : SFits w32 (m *ℤ pos 28180)
  product_small = omega (zar, know (word_is m h), scale_is m 28180)

  pub faded_fits : SFits w32 (faded m)
  faded_fits = omega (zar, know (word_is m h), scale_is m 28180, minus_is (m *ℤ pos 28180) (pos 1073725440))

  pub faded_is : faded m >> 15 ≡ low (mult_r m (pos 28180))
  faded_is =
      let p = m *ℤ pos 28180 in
      let k = pos 1073741824 in
      let e : faded m ≡ (p +ℤ pos 16384) -ℤ k =
      omega (zar, minus_is p (pos 1073725440), add_is p (pos 16384), minus_is (p +ℤ pos 16384) k) in
      rw e (mult_r_low m (pos 28180) (word_is m h) (omega zar) (omega (arith, know (word_is m h))))

  -- added to sr it is the sum of 4.3.5
  pub faded_sum : (s : ℤ) → s +ℤ (faded m >> 15) ≡ low s +ℤ mult_r m (pos 28180)
  faded_sum s =
      let t = mult_r m (pos 28180) in
      rw faded_is (omega (zar, minus_is t (pos 32768), add_is s (low t), minus_is s (pos 32768), add_is (low s) t))

-- through locals
pub local_offset : (r : ℤ) → factor r ≡ true → mem w32 (offset r) ≡ offset (mem w32 r)
local_offset r f = rw (factor_back r f) (back (offset_fits r f))

-- ---- a section that went through locals, which give back r and v as mr and mv, and then a

pub low_passed : (a : ℤ) {r v s o mr mv : ℤ} → mr ≡ r → mv ≡ v → Passed mr (low mv) s o (low a) → Passed r (low v) s o (low (mem w32 a))
low_passed a {o = o} {mr = mr} {mv = mv} er ev p =
    let t = mult_r mr o in
    let f : lifted a ≡ true = rw p.above (word_yes (add (low mv) t) (plus_fits w16 (low mv) t)) in
    rw (lifted_back a f, ← er, ← ev) p

-- the same where what went through a local is sri
pub low_entered : (s : ℤ) {r v o a mr mv : ℤ} → mr ≡ r → mv ≡ v → lifted s ≡ true
    → Passed mr (low mv) (low (mem w32 s)) o a → Passed r (low v) (low s) o a
low_entered s er ev h p = rw (er, ev, lifted_back s h) at p
