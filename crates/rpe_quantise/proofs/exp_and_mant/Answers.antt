-- A code is from 0 to 63, so the exponent is at most 6 and the mantissa at most 15. No step leaves its range, and the result is the
-- definition's.
use Prim.Native.Nat.{ℕ, suc, ◌*◌, ◌-◌, ◌/◌, ◌%◌, ◌^◌, ◌<◌, ◌≤◌}
use mathlib.Core.Path.{◌≡◌, refl, sym, ap, ◌∙◌}
use mathlib.Core.Bool.{true}
use native.Mathlib.Omega.{arith}
use native.Mathlib.Numerals.{add-one}
use native.Mathlib.Nat.{mul-le-mul, mod-eq_of_lt, div-le_self}
use lib.Dec.{T, leb, leb→le}
use lib.IntN.{ℤ, pos, ◌+ℤ◌, ◌-ℤ◌, nat_abs}
use lib.Signed.{le_z, shr_z}
use lib.Pow.{pow_mono}
use mir.Syntax.{w16}
use mir.Val.{SFits, to_z, of_z}
use mir.Facts.{to_z_pos}
use borrow.Author.Rules.{rules}
use borrow.Author.Tests.{leb-false}
use Rattle.math_integers.specs.Halves.{P, apart, zar, know, mem}
use Rattle.math_integers.specs.Sums.{minus_is}
use Rattle.math_integers.specs.Ranges.{back, res}
use Rattle.math_lists.specs.First.{first, first_le}
use Rattle.law_fields.specs.Fit.{fit_is}
use Rattle.law_fields.specs.Amplitudes.{exp_of}
use Rattle.rpe_quantise.specs.Doubling.{doubled, doubled_above, exp_parts, amplitude_is}
use Rattle.rpe_quantise.proofs.exp_and_mant.Goals as goal
use Rattle.rpe_quantise.proofs.exp_and_mant.Goals.{After-doublings-n, Joined-xmaxc-le15, Start, then-xmaxc-le15, else-xmaxc-le15}

-- the difference of two numbers, of which the second is not the larger
less : (a b : ℕ) → b ≤ a → pos a -ℤ pos b ≡ pos (a - b)
less a b h = omega (zar, minus_is (pos a) (pos b), apart (pos a -ℤ pos b))

-- a small difference is a word
less_fits : {y : ℤ} {a : ℕ} → y ≡ pos a → a ≤ 256 → (b : ℕ) → T (leb b 256) → SFits w16 (y -ℤ pos b)
less_fits {y} {a} e h b l = rw e (omega (zar, minus_is (pos a) (pos b), leb→le b 256 l))

-- the code is a number from 0 to 63
abbrev n : Start → ℕ
n s = nat_abs s.args.xmaxc

code : (s : Start) → (mem w16 s.args.xmaxc ≡ pos (n s)) × (n s < 64)
code s =
    let f = fit_is 6 s.args.xmaxc s.requires in
    (omega (zar, know s.ranges.xmaxc), omega (arith, know s.ranges.xmaxc))

-- a test of it, and a part of it, as the code has them
test : (s : Start) → le_z (mem w16 s.args.xmaxc) (pos 15) ≡ true → leb (n s) 15 ≡ true
test s h = rw (code s).0 at h

part : (s : Start) (m : ℕ) → mem w16 (shr_z (mem w16 s.args.xmaxc) m) ≡ pos (n s / m)
part s m = rw (code s).0 (to_z_pos w16 (omega (arith, code s, div-le_self (n s) m)))

-- the exponent before the mantissa is doubled
exp-is : (c : Joined-xmaxc-le15) → c.if-xmaxc-le15.exp-bits ≡ exp_of (n c.before)
exp-is c =
    let s = c.before in
    elim c.if-xmaxc-le15.branch [
      | then-xmaxc-le15 w ↦ rw (test s w.if-xmaxc-le15.true) w.exp-is-bits
      | else-xmaxc-le15 w ↦
          let g = rw (code s).0 at w.if-xmaxc-le15.false in
          let m = leb-false (n s) 15 g in
          rw g (w.exp-is-bits ∙ rw (part s 8, less (n s / 8) 1 (omega arith)) refl)
    ]

-- e is that exponent, and m the mantissa that it leaves of the code
module _ (c : Joined-xmaxc-le15) where
  abbrev e : ℕ
  e = exp_of (n c.before)

  abbrev m : ℕ
  m = n c.before - 8 * e

  parts : (e ≤ 6) × (8 * e ≤ n c.before) × (m ≤ 15)
  parts = exp_parts (n c.before) (code c.before).1

  exp_word : to_z w16 c.if-xmaxc-le15.exp-bits ≡ pos e
  exp_word = rw (exp-is c) (to_z_pos w16 (omega (arith, parts)))

  -- as the code has it
  abbrev rest : ℤ
  rest = mem w16 c.args.xmaxc -ℤ to_z w16 ((c.if-xmaxc-le15.exp-bits * 8) % 65536)

  rest_is : rest ≡ pos m
  rest_is =
      let b = parts in
      let small : e * 8 < 32768 = omega arith in
      let s : n c.before - e * 8 ≡ m = omega arith in
      rw ((code c.before).0, exp-is c, mod-eq_of_lt {n = e * 8} {m = 65536} (omega arith), to_z_pos w16 small)
      (less (n c.before) (e * 8) (omega arith) ∙ ap pos s)

  mant_is : mem w16 rest ≡ pos m
  mant_is = rw rest_is (to_z_pos w16 (omega (arith, parts)))

  -- its doublings; the mantissa and 1, shifted left by them, is from 9 to 256
  abbrev k : ℕ
  k = first (doubled m) 4 0

  few : k ≤ 4
  few = first_le (doubled m) 4 0

  up_most : suc m * 2 ^ k ≤ 256
  up_most = let l : suc m ≤ 16 = omega (arith, parts) in mul-le-mul l (pow_mono {i = k} {j = 4} few)

  up_is : (r : ℤ) → r ≡ pos k → to_z w16 ((of_z w16 (mem w16 rest +ℤ pos 1) * 2 ^ of_z w16 r) % 65536) ≡ pos (suc m * 2 ^ k)
  up_is r h =
      let l = up_most in
      rw (mant_is, h, add-one, mod-eq_of_lt {n = suc m * 2 ^ k} {m = 65536} (omega arith)) (to_z_pos w16 (omega arith))

-- the number that was returned
count : (c : After-doublings-n) → c.doublings-n.result ≡ pos (k c.before.before)
count c = c.doublings-n.ensures ∙ ap (λ (z : ℤ). pos (first (doubled (P z)) 4 0)) (mant_is c.before.before)

pub overflow_sub-result : goal.overflow_sub-result
overflow_sub-result c =
    let j = c.before.before in
    rw (exp_word j, res c.doublings-n, count c) (omega (zar, parts j, few j, minus_is (pos (e j)) (pos (k j))))

pub overflow_sub-result-2 : goal.overflow_sub-result-2
overflow_sub-result-2 c =
    let j = c.before.before in
    search (rules, less_fits (up_is j c.doublings-n.result (count c)) (up_most j))

pub returns : goal.returns
returns c =
    let j = c.before.before in
    let (exp, mant) = amplitude_is j.args.xmaxc (e j) (k j) refl refl in record {
      exp = back (overflow_sub-result c) ∙ rw (exp_word j, res c.doublings-n, count c) (sym exp);
      mant =
          back (overflow_sub-result-2 c) ∙ rw (up_is j c.doublings-n.result (count c)) (less _ _ (doubled_above (m j)) ∙ ap pos (sym mant));
    }

pub overflow_add-result : goal.overflow_add-result
overflow_add-result c = let j = c.before.before in rw (mant_is j) (omega (zar, parts j))

pub overflow_shl-result : goal.overflow_shl-result
overflow_shl-result c = rw (count c) (omega (arith, few c.before.before))

pub doublings-n-requires : goal.doublings-n-requires
doublings-n-requires c =
    let j = (goal.at.doublings-n-requires c).Joined-xmaxc-le15 in rw (mant_is j) (omega (zar, parts j), omega (zar, parts j))
