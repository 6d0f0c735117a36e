-- 4.2.2: the two parts of L_z2 that are multiplied separately, and that their sums fit 32 bits.
use Rattle.std.specs.Prelude.{ℕ, ◌+◌, ◌≤◌, ◌≡◌, true, T, leb, ℤ, pos, ◌+ℤ◌, ◌-ℤ◌, ◌*ℤ◌, nat_abs}
use Rattle.std.proofs.Common.{sym, ap, ◌∙◌, arith, leb→le, SFits}
use Rattle.std.proofs.Math.IntN.{*ℤ_comm, -ℤ-+ℤ_cancel}
use Rattle.std.specs.Int.{w16, w32}
use Rattle.math_integers.specs.Halves.{P, N, apart, abs_is, zar, know}
use Rattle.math_integers.specs.Sums.{add_is, minus_is, scale_is, shr_is, mul_in}
use Rattle.standard.specs.Arithmetic.{◌>>◌}
use Rattle.law_arithmetic.specs.Within.{range_is}
use Rattle.law_soundness.specs.Ranges.{L_z2_range}
use Rattle.law_soundness.specs.Decay.{decayed, decayed_shift}

-- the high part, and what is left, as the code computes them
abbrev pub msp : ℤ → ℤ
msp x = x >> 15

abbrev pub lsp : ℤ → ℤ
lsp x = x -ℤ msp x *ℤ pos 32768

-- the low part is from 0 to 32767
lsp_in : (x : ℤ) → (P (lsp x) ≤ 32767) × (N (lsp x) ≡ 0)
lsp_in x = omega (arith, apart x, shr_is x 32768 (omega arith), scale_is (msp x) 32768, minus_is x (msp x *ℤ pos 32768), apart (lsp x))

-- so it is a word
pub lsp_word : (x : ℤ) → SFits w16 (lsp x)
lsp_word x = omega (zar, lsp_in x)

-- L_z2 is made of both
whole : (x : ℤ) → x ≡ lsp x +ℤ pos 32768 *ℤ msp x
whole x = sym (-ℤ-+ℤ_cancel x (msp x *ℤ pos 32768)) ∙ ap (λ (y : ℤ). lsp x +ℤ y) (*ℤ_comm (msp x) (pos 32768))

-- both parts multiplied separately and added to 32768 times s give the same as L_z2 multiplied whole
pub parts_decay : (x s : ℤ)
    → (s *ℤ pos 32768 +ℤ msp x *ℤ pos 32735) +ℤ ((lsp x *ℤ pos 32735 +ℤ pos 16384) >> 15) ≡ pos 32768 *ℤ s +ℤ decayed x
parts_decay x s =
    let a = s *ℤ pos 32768 in
    let p = msp x *ℤ pos 32735 in
    let l = decayed (lsp x) in
    let turned : l +ℤ pos 32735 *ℤ msp x ≡ l +ℤ p = ap (λ (y : ℤ). l +ℤ y) (*ℤ_comm (pos 32735) (msp x)) in
    let e : decayed x ≡ l +ℤ p = ap decayed (whole x) ∙ (decayed_shift (lsp x) (msp x) ∙ turned) in
    rw (e, *ℤ_comm (lsp x) (pos 32735), *ℤ_comm (pos 32768) s) (omega (zar, add_is a p, add_is (a +ℤ p) l, add_is l p, add_is a (l +ℤ p)))

-- ---- what fits 32 bits, for any factor and any rounding term of 15 bits

-- the high part is at most 32765 in size
pub msp_in : (x : ℤ) → L_z2_range x ≡ true → nat_abs (msp x) ≤ 32765
msp_in x h = omega (arith, abs_is (msp x), apart (msp x), range_is 1073611249 1073611249 x h, shr_is x 32768 (omega arith))

-- so it is a word
pub msp_word : (x : ℤ) → L_z2_range x ≡ true → SFits w16 (msp x)
msp_word x h = omega (zar, abs_is (msp x), msp_in x h)

module _ (s m : ℤ) (f : nat_abs s ≤ 32764) (g : nat_abs m ≤ 32765) (k : ℕ) (h : T (leb k 32767)) where
  -- 32768 times s plus the high part's product
  abbrev high : ℤ
  high = s *ℤ pos 32768 +ℤ m *ℤ pos k

  -- at most 2147221507 in size
  high_in : P high + N high ≤ 2147221507
  high_in =
      let a = s *ℤ pos 32768 in
      let b = m *ℤ pos k in
      let c : k ≤ 32767 = leb→le k 32767 h in
      let b-in = mul_in 32765 32767 m (pos k) (omega (arith, abs_is m)) (omega arith) in
      omega (arith, abs_is s, scale_is s 32768, add_is a b)

  -- so it fits 32 bits
  pub high_fits : SFits w32 high
  high_fits = omega (zar, high_in)

  -- and so does its sum with one word
  pub all_fits : (t : ℤ) → SFits w16 t → SFits w32 (high +ℤ t)
  all_fits t e = omega (zar, high_in, know e, add_is high t)

-- the low part's product, rounded, is a word
pub low_fits : (l : ℤ) (k r : ℕ) → SFits w16 l → T (leb k 32767) → T (leb r 32767) → SFits w16 ((l *ℤ pos k +ℤ pos r) >> 15)
low_fits l k r f h g =
    let b = l *ℤ pos k in
    let c : k ≤ 32767 = leb→le k 32767 h in
    let d : r ≤ 32767 = leb→le r 32767 g in
    let b-in = mul_in 32768 32767 l (pos k) (omega (arith, know f)) (omega arith) in
    omega (zar, add_is b (pos r), shr_is (b +ℤ pos r) 32768 (omega arith))

module _ (x : ℤ) (h : L_z2_range x ≡ true) (r : ℕ) (g : T (leb r 32767)) where
  -- L_z2 plus a rounding term fits 32 bits
  pub sum_fits : SFits w32 (x +ℤ pos r)
  sum_fits = omega (zar, range_is 1073611249 1073611249 x h, add_is x (pos r), leb→le r 32767 g)

  -- and rounded it is a word
  pub sof_fits : SFits w16 ((x +ℤ pos r) >> 15)
  sof_fits =
      omega (zar, range_is 1073611249 1073611249 x h, add_is x (pos r), leb→le r 32767 g, shr_is (x +ℤ pos r) 32768 (omega arith))
