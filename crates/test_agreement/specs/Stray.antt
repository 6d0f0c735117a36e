-- Stray bits, which are bits above the valid ones: a multiple of 2 to the power of its width is added to each codeword. The valid bits
-- stay the same.
use Rattle.std.specs.Prelude.{ℕ, ◌+◌, ◌*◌, ◌%◌, ◌^◌, ◌<◌, ◌≤◌, ◌≡◌, refl, ℤ, pos, ◌+ℤ◌, ◌*ℤ◌, nat_abs, length}
use Rattle.std.proofs.Common.{sym, ap, ap₂, ◌∙◌, arith, mul-le-mul_left, pow_pos}
use mathlib.Core.List.{List, [], ◌∷◌, zip_with, flatten}
use Rattle.math_integers.specs.Halves.{P, N, zar, apart}
use Rattle.math_integers.specs.Sums.{add_is, scale_is}
use Rattle.standard.specs.Arithmetic.{modulo}
use Rattle.math_lists.specs.Tab.{zip_length, zip_at}
use Rattle.standard.specs.Tables.{◌at◌, LARc_widths}
use Rattle.standard.specs.Frame.{sub_widths, widths, valid}
use Rattle.law_arithmetic.specs.Shift.{modulo_raised}
use Rattle.law_fields.specs.Valid.{low_bits}

-- each codeword with k times 2 to the power of its width added to it
unfoldable pub stray : ℤ → List ℤ → List ℤ
stray k = zip_with (λ width c. c +ℤ k *ℤ pos (2 ^ width)) widths

-- a frame still has 76 codewords
pub stray_length : (k : ℤ) (c : List ℤ) → length c ≡ 76 → length (stray k c) ≡ 76
unfolding widths LARc_widths sub_widths flatten stray
stray_length k c h = rw zip_length (omega arith)

-- the last codeword gets k times 8, so it is as it was only where k is 0
pub last_untouched : (k : ℤ) (c : List ℤ) → length c ≡ 76 → stray k c at 75 ≡ c at 75 → k ≡ pos 0
unfolding widths LARc_widths sub_widths flatten stray
last_untouched k c h same =
    let moved : c at 75 +ℤ k *ℤ pos 8 ≡ c at 75
    = sym (zip_at _ widths c 75 0 (pos 0) (pos 0) (omega arith) (omega arith)) ∙ same in
    omega (zar, moved, scale_is k 8, add_is (c at 75) (k *ℤ pos 8), apart k)

-- adding a multiple of m does not change a number modulo m
modulo_moved : (c k : ℤ) (m : ℕ) → 0 < m → modulo (c +ℤ k *ℤ pos m) m ≡ modulo c m
modulo_moved c k m h =
    let z = c +ℤ k *ℤ pos m in
    let n : N c ≤ N c * m = omega (arith, mul-le-mul_left (N c) h) in
    let s = scale_is k m in
    let e : z +ℤ pos ((N k + N c) * m) ≡ c +ℤ pos ((P k + N c) * m) =
    omega (zar, s, add_is c (k *ℤ pos m), add_is z (pos ((N k + N c) * m)), add_is c (pos ((P k + N c) * m))) in
    modulo_raised z m (N k + N c) h (omega (arith, s, n, add_is c (k *ℤ pos m)))
    ∙ (ap (λ (x : ℤ). nat_abs x % m) e ∙ sym (modulo_raised c m (P k + N c) h (omega (arith, n))))

-- what does not change the low bits of one codeword does not change those of all
each_low : (g : ℕ → ℤ → ℤ) → ((w : ℕ) (c : ℤ) → low_bits w (g w c) ≡ low_bits w c) → (ws : List ℕ) (cs : List ℤ)
    → zip_with low_bits ws (zip_with g ws cs) ≡ zip_with low_bits ws cs
unfolding zip_with
each_low g h [] cs = refl
each_low g h (w ∷ ws) [] = refl
each_low g h (w ∷ ws) (c ∷ cs) = ap₂ ◌∷◌ (h w c) (each_low g h ws cs)

-- the valid bits stay as they were
pub stray_valid : (k : ℤ) (c : List ℤ) → valid (stray k c) ≡ valid c
unfolding valid stray
stray_valid k c = each_low _ (λ width c. ap pos (modulo_moved c k (2 ^ width) (pow_pos width))) widths c
