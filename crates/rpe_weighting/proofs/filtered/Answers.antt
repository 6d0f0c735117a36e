-- Each partial sum fits 32 bits, by bounds on the pairs of taps, so the code's sum is `taps`. Its shift and its clip give the filter, by
-- the law `filtered_is`.
use Prim.Native.Nat.{ℕ, ◌+◌, ◌*◌, ◌≤◌}
use mathlib.Core.Path.{◌≡◌, sym, ap, ap₂, ◌∙◌}
use mathlib.Core.List.{List}
use native.Mathlib.Omega.{arith}
use lib.Dec.{T, leb, leb→le}
use lib.IntN.{ℤ, pos, ◌+ℤ◌, ◌*ℤ◌, nat_abs}
use mir.Syntax.{w16, w32}
use mir.Val.{SFits}
use borrow.Author.Rules.{sfits_of}
use Rattle.math_integers.specs.Halves.{P, N, zar, know, mem, apart, abs_is}
use Rattle.math_integers.specs.Sums.{add_is, mul_is}
use Rattle.math_integers.specs.Ranges.{back, res, wide}
use Rattle.standard.specs.Arithmetic.{◌>>◌, clip}
use Rattle.standard.specs.Tables.{◌at◌, neg}
use Rattle.law_arithmetic.specs.Shift.{down_bits}
use Rattle.rpe_weighting.specs.Filter.{Heard, outer, inner, filtered_is}
use Rattle.rpe_weighting.proofs.filtered.Goals as goal
use Rattle.rpe_weighting.proofs.filtered.Goals.{After-clip_word-arg-1, After-tap, After-tap-2, After-tap-3, After-tap-4, Start}

-- ---- the words that are read

-- the points before each pair of taps
abbrev at1 : After-tap → Start
at1 c = c.before.before.before

abbrev at2 : After-tap-2 → After-tap
at2 c = c.before.before.before

abbrev at3 : After-tap-3 → After-tap-2
at3 c = c.before.before.before

abbrev at4 : After-tap-4 → After-tap-3
at4 c = c.before.before.before

-- the eleven samples
abbrev wt : After-tap-4 → List ℤ
wt c = (at1 (at2 (at3 (at4 c)))).args.wt.now

module _ (c : After-tap) where
  w0 : SFits w16 ((at1 c).args.wt.now at 0)
  w0 = sfits_of c.tap-arg-1.given

  w10 : SFits w16 ((at1 c).args.wt.now at 10)
  w10 = sfits_of c.tap-arg-2-1.given

module _ (c : After-tap-2) where
  w1 : SFits w16 ((at1 (at2 c)).args.wt.now at 1)
  w1 = sfits_of c.tap-arg-3-1.given

  w9 : SFits w16 ((at1 (at2 c)).args.wt.now at 9)
  w9 = sfits_of c.tap-arg-4-1.given

module _ (c : After-tap-3) where
  w3 : SFits w16 ((at1 (at2 (at3 c))).args.wt.now at 3)
  w3 = sfits_of c.tap-arg-5-1.given

  w7 : SFits w16 ((at1 (at2 (at3 c))).args.wt.now at 7)
  w7 = sfits_of c.tap-arg-6-1.given

module _ (c : After-tap-4) where
  w4 : SFits w16 (wt c at 4)
  w4 = sfits_of c.tap-arg-7-1.given

  w6 : SFits w16 (wt c at 6)
  w6 = sfits_of c.tap-arg-8-1.given

w5 : (c : After-clip_word-arg-1) → SFits w16 (wt c.before at 5)
w5 c = sfits_of c.clip_word-arg-1.given

-- all that the filter uses are words
heard : (c : After-clip_word-arg-1) → Heard (wt c.before)
heard c =
    let t4 = c.before in
    let t3 = at4 t4 in
    let t2 = at3 t3 in
    let t1 = at2 t2 in
    record { x0 = w0 t1; x1 = w1 t2; x3 = w3 t3; x4 = w4 t4; x5 = w5 c; x6 = w6 t4; x7 = w7 t3; x9 = w9 t2; x10 = w10 t1 }

-- ---- the sum fits 32 bits, and its locals hold it unchanged

-- m, which went through locals, is z, of a size up to b
record Local (m z : ℤ) (b : ℕ) : Type 0 where
  is : m ≡ z
  near : P z + N z ≤ b

-- what `tap` gives
tap_local : (h : ℤ) {r a b : ℤ} → SFits w32 r → (r ≡ h *ℤ (mem w16 a +ℤ mem w16 b)) × (nat_abs r ≤ nat_abs h * 65536)
    → SFits w16 a → SFits w16 b → Local (mem w32 r) (h *ℤ (a +ℤ b)) (nat_abs h * 65536)
tap_local h {r} {a} {b} m (e, k) f g =
    let i : r ≡ h *ℤ (a +ℤ b) = rw (back f, back g) at e in
    let near : P r + N r ≤ nat_abs h * 65536 = omega (arith, k, abs_is r) in
    record { is = back m ∙ i; near = rw i at near }

module _ {m n y z : ℤ} {a b : ℕ} (p : Local m y a) (q : Local n z b) (t : a + b ≤ 2000000000) where
  plus_fits : SFits w32 (m +ℤ n)
  plus_fits = rw (p.is, q.is) (omega (zar, p.near, q.near, add_is y z))

  plus_local : Local (mem w32 (m +ℤ n)) (y +ℤ z) (a + b)
  plus_local = record { is = back plus_fits ∙ ap₂ ◌+ℤ◌ p.is q.is; near = omega (arith, p.near, q.near, add_is y z, apart (y +ℤ z)) }

-- with the rounding term
rounded_fits : {m z : ℤ} {a : ℕ} (n : ℕ) → Local m z a → T (leb a 2000000000) → T (leb n 8192) → SFits w32 (m +ℤ pos n)
rounded_fits {m} {z} {a} n p s t = rw p.is (omega (zar, p.near, add_is z (pos n), leb→le a 2000000000 s, leb→le n 8192 t))

-- the four pairs
pair1 : (c : After-tap) → let wt = (at1 c).args.wt.now in Local (mem w32 c.tap.result) (neg 134 *ℤ (wt at 0 +ℤ wt at 10)) 8781824
pair1 c = tap_local (neg 134) (sfits_of c.tap.type_inv) (c.tap.ensures.is, c.tap.ensures.near) (w0 c) (w10 c)

pair2 : (c : After-tap-2) → let wt = (at1 (at2 c)).args.wt.now in
    Local (mem w32 c.tap-2.result) (neg 374 *ℤ (wt at 1 +ℤ wt at 9)) 24510464
pair2 c = tap_local (neg 374) (sfits_of c.tap-2.type_inv) (c.tap-2.ensures.is, c.tap-2.ensures.near) (w1 c) (w9 c)

pair3 : (c : After-tap-3) → let wt = (at1 (at2 (at3 c))).args.wt.now in
    Local (mem w32 c.tap-3.result) (pos 2054 *ℤ (wt at 3 +ℤ wt at 7)) 134610944
pair3 c = tap_local (pos 2054) (sfits_of c.tap-3.type_inv) (c.tap-3.ensures.is, c.tap-3.ensures.near) (w3 c) (w7 c)

pair4 : (c : After-tap-4) → Local (mem w32 c.tap-4.result) (pos 5741 *ℤ (wt c at 4 +ℤ wt c at 6)) 376242176
pair4 c = tap_local (pos 5741) (sfits_of c.tap-4.type_inv) (c.tap-4.ensures.is, c.tap-4.ensures.near) (w4 c) (w6 c)

pub overflow_add-inner : goal.overflow_add-inner
overflow_add-inner c = plus_fits (pair3 (at4 c)) (pair4 c) (omega arith)

-- the outer pairs and the inner ones
module _ (c : After-tap-4) where
  abbrev t2 : After-tap-2
  t2 = at3 (at4 c)

  outer_pairs : Local (mem w32 (mem w32 (at2 t2).tap.result +ℤ mem w32 t2.tap-2.result)) (outer (wt c)) 33292288
  outer_pairs = plus_local (pair1 (at2 t2)) (pair2 t2) (omega arith)

  inner_pairs : Local (mem w32 (mem w32 (at4 c).tap-3.result +ℤ mem w32 c.tap-4.result)) (inner (wt c)) 510853120
  inner_pairs = plus_local (pair3 (at4 c)) (pair4 c) (omega arith)

pub overflow_add-outer-2 : goal.overflow_add-outer-2
overflow_add-outer-2 c = plus_fits (outer_pairs c) (inner_pairs c) (omega arith)

-- the middle sample
module _ (c : After-clip_word-arg-1) where
  abbrev x5 : ℤ
  x5 = wt c.before at 5

  cast_fits : SFits w32 (mem w16 x5)
  cast_fits = rw (back (w5 c)) (wide (w5 c) tt)

  x5_is : mem w32 (mem w16 x5) ≡ x5
  x5_is = back cast_fits ∙ back (w5 c)

  middle_fits : SFits w32 (pos 8192 *ℤ mem w32 (mem w16 x5))
  middle_fits = rw x5_is (omega (zar, know (w5 c), mul_is (pos 8192) x5))

  middle : Local (mem w32 (pos 8192 *ℤ mem w32 (mem w16 x5))) (pos 8192 *ℤ x5) 300000000
  middle = record { is = back middle_fits ∙ ap (pos 8192 *ℤ◌) x5_is; near = omega (arith, know (w5 c), mul_is (pos 8192) x5) }

pub overflow_add-outer-3 : goal.overflow_add-outer-3
overflow_add-outer-3 c = plus_fits (plus_local (outer_pairs c.before) (inner_pairs c.before) (omega arith)) (middle c) (omega arith)

pub overflow_add-outer-4 : goal.overflow_add-outer-4
overflow_add-outer-4 c =
    let l = plus_local (plus_local (outer_pairs c.before) (inner_pairs c.before) (omega arith)) (middle c) (omega arith) in
    search (rounded_fits, l)

pub returns : goal.returns
returns c =
    let a = c.before in
    let t4 = a.before in
    let l = plus_local (plus_local (outer_pairs t4) (inner_pairs t4) (omega arith)) (middle a) (omega arith) in
    res c.clip_word
    ∙ (c.clip_word.ensures
    ∙ (ap (clip w16) (down_bits w32 _ 13 (overflow_add-outer-4 a) ∙ ap (λ (s : ℤ). (s +ℤ pos 4096) >> 13) l.is)
    ∙ sym (filtered_is (wt t4) (at1 (at2 (at3 (at4 t4)))).requires (heard a))))

pub overflow_mul-wt : goal.overflow_mul-wt
overflow_mul-wt = middle_fits
