-- House rules, 'Samples and codewords': the 13 valid bits of a sample. An output sample has 0 in the low 3 bits; the coder ignores these
-- bits.
use Rattle.std.specs.Prelude.{ℕ, suc, ◌*◌, ◌-◌, ◌<◌, ◌≤◌, ◌≡◌, refl, true, List, [], ◌∷◌, map, ℤ, pos, negsuc, ◌*ℤ◌}
use Rattle.std.proofs.Common.{ap, ap₂, ◌∙◌, ⊎_elim, arith, SFits, to_z}
use Rattle.std.proofs.lemmas.Simd.{map-map}
use Rattle.std.specs.Int.{w16}
use Rattle.std.proofs.Math.Facts.{to_z_pos, to_z-neg}
use Rattle.math_integers.specs.Halves.{apart, le_or_lt, zar, know}
use Rattle.math_integers.specs.Sums.{scale_is, shr_is}
use Rattle.math_lists.specs.Every.{every, every_cons}
use Rattle.standard.specs.Arithmetic.{modulo, keep, ◌>>◌, ◌<<◌}
use Rattle.standard.specs.Tables.{◌at◌}
use Rattle.standard.specs.Frame.{Frame, sample}
use Rattle.standard.specs.Preprocessing.{downscaled}
use Rattle.law_arithmetic.specs.Within.{word, word_is}
use Rattle.standard.specs.Coder.{Coder, analysis, coded}
use Rattle.standard.specs.Decoder.{Decoder, srop, decoded}
use Rattle.law_arithmetic.specs.Shift.{modulo_below, modulo_scaled, keep_fits, keep_plain}

-- a sample is a word
pub sample_fits : (x : ℤ) → SFits w16 (sample x)
unfolding sample
sample_fits x = keep_fits w16 ((x >> 3) *ℤ pos 8)

-- the sample of a word is the word, rounded down to a multiple of 8
pub sample_word : (x : ℤ) → SFits w16 x → sample x ≡ (x >> 3) *ℤ pos 8
unfolding sample
sample_word x f = keep_plain (omega (zar, know f, shr_is x 8 (omega arith), scale_is (x >> 3) 8))

-- so the 13 bits of the sample are those of the word
pub sample_bits : (x : ℤ) → SFits w16 x → sample x >> 3 ≡ x >> 3
sample_bits x f = rw (sample_word x f) (omega (zar, scale_is (x >> 3) 8, shr_is ((x >> 3) *ℤ pos 8) 8 (omega arith)))

-- a word that is a multiple of 8 by its bits is one
eights : (j : ℕ) → j < 8192 → (to_z w16 (j * 8) >> 3) *ℤ pos 8 ≡ to_z w16 (j * 8)
eights j h =
    let y = to_z w16 (j * 8) in
    let down = shr_is y 8 (omega arith) in
    let up = scale_is (y >> 3) 8 in
    let one = apart y in
    ⊎_elim
    (λ (l : j * 8 ≤ 32767). let e : y ≡ pos (j * 8) = to_z_pos w16 (omega arith) in omega zar)
    (λ (l : 32767 < j * 8).
    let k = 65535 - j * 8 in
    let s : 65536 - suc k ≡ j * 8 = omega arith in
    let e : y ≡ negsuc k = rw s at (to_z-neg w16 k (omega arith)) in
    omega zar)
    (le_or_lt (j * 8) 32767)

-- so a sample is a multiple of 8
whole : (x : ℤ) → (sample x >> 3) *ℤ pos 8 ≡ sample x
unfolding sample keep
whole x =
    rw (modulo_scaled (x >> 3) {m = 8192} {c = 8} (omega arith) (omega arith))
    (eights (modulo (x >> 3) 8192) (modulo_below (x >> 3) (omega arith)))

-- and it stays as it is when its low 3 bits are cleared again
pub sample_twice : (x : ℤ) → sample (sample x) ≡ sample x
sample_twice x = sample_word (sample x) (sample_fits x) ∙ whole x

-- ---- the decoder's samples

-- their low 3 bits are 0
pub decoded_samples : (m : Decoder) (f : Frame) → map sample (decoded m f).1 ≡ (decoded m f).1
unfolding decoded srop
decoded_samples m f = simp (map-map, sample_twice)

-- ---- the coder's samples

-- downscaling sees the 13 bits only
downscaled_samples : (s : List ℤ) → every word s ≡ true → downscaled (map sample s) ≡ downscaled s
unfolding downscaled
downscaled_samples [] h = refl
downscaled_samples (x ∷ s) h =
    let (a, b) = (every_cons word x s).0 h in
    ap₂ ◌∷◌ (ap (◌<< 2) (sample_bits x (word_is x a))) (downscaled_samples s b)

-- samples that differ in their low 3 bits are coded alike
pub coded_samples : (c : Coder) (s : List ℤ) → every word s ≡ true → coded c (map sample s) ≡ coded c s
unfolding coded analysis
coded_samples c s h = rw (downscaled_samples s h)
