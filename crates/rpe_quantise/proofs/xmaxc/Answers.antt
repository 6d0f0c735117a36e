-- The exponent is at most 6, so both terms of the sum are small and the sum fits a word. Then the plain sum is xmaxc.
use Prim.Native.Nat.{ℕ, ◌+◌, ◌*◌, ◌%◌, ◌≤◌}
use mathlib.Core.Path.{◌≡◌, sym, ap₂, ◌∙◌}
use native.Mathlib.Omega.{arith}
use native.Mathlib.Nat.{mod-eq_of_lt, mul-le-mul}
use lib.Dec.{T, leb, leb→le}
use lib.IntN.{ℤ, pos, ◌+ℤ◌}
use mir.Syntax.{w16}
use mir.Val.{SFits, to_z}
use mir.Facts.{to_z_pos}
use Rattle.math_integers.specs.Halves.{zar, mem}
use Rattle.math_integers.specs.Ranges.{back, res}
use Rattle.standard.specs.Arithmetic.{◌>>◌}
use Rattle.standard.specs.Rpe.{exponent}
use Rattle.law_arithmetic.specs.Shift.{down_bits}
use Rattle.law_fields.specs.Amplitudes.{exp_in}
use Rattle.rpe_quantise.specs.Exponent.{sum_in, xmaxc_is}
use Rattle.rpe_quantise.proofs.xmaxc.Goals as goal
use Rattle.rpe_quantise.proofs.xmaxc.Goals.{After-exponent-exp}

-- the exponent that was returned
exp-is : (c : After-exponent-exp) → c.exponent-exp.result ≡ pos (exponent c.args.xmax)
exp-is c = rw (back c.ranges.xmax) at c.exponent-exp.ensures

-- the two terms as the code has them, for a shift by e + k and a second term e · j
module _ {x : ℤ} (f : SFits w16 x) (k j : ℕ) (t : T (leb 4 k)) (u : T (leb j 8)) where
  abbrev e : ℕ
  e = exponent x

  small : e * j ≤ 48
  small = omega (arith, mul-le-mul (exp_in x) (leb→le j 8 u))

  terms : mem w16 (mem w16 x >> (e + k)) +ℤ to_z w16 ((e * j) % 65536) ≡ x >> (e + k) +ℤ pos (e * j)
  terms =
      let m = small in
      ap₂ ◌+ℤ◌ (down_bits w16 x (e + k) f) (rw (mod-eq_of_lt {n = e * j} {m = 65536} (omega arith)) (to_z_pos w16 (omega arith)))

  -- their sum is a word
  sum_fits : SFits w16 (mem w16 (mem w16 x >> (e + k)) +ℤ to_z w16 ((e * j) % 65536))
  sum_fits = let h = leb→le 4 k t in rw terms (sum_in x f {n = e + k} {m = e * j} (omega arith) small)

pub overflow_add-result-2 : goal.overflow_add-result-2
overflow_add-result-2 c = rw (res c.exponent-exp, exp-is c) (sum_fits c.ranges.xmax _ _ tt tt)

pub returns : goal.returns
returns c =
    let f = c.ranges.xmax in
    back (overflow_add-result-2 c) ∙ rw (res c.exponent-exp, exp-is c) (terms f _ _ tt tt ∙ sym (xmaxc_is c.args.xmax f))

pub overflow_add-result : goal.overflow_add-result
overflow_add-result c = rw (res c.exponent-exp, exp-is c) (omega (zar, exp_in c.args.xmax))

pub overflow_shr-result : goal.overflow_shr-result
overflow_shr-result c = rw (res c.exponent-exp, exp-is c) (omega (arith, exp_in c.args.xmax))
