-- A tap times a sum of two words fits 32 bits.
use Prim.Native.Nat.{◌+◌, ◌*◌, ◌≤◌}
use mathlib.Core.Path.{◌≡◌, ap₂, ◌∙◌}
use native.Mathlib.Omega.{arith}
use lib.IntN.{ℤ, ◌+ℤ◌, ◌*ℤ◌}
use mir.Syntax.{w16, w32}
use mir.Val.{SFits}
use Rattle.math_integers.specs.Halves.{P, N, zar, know, mem, apart, abs_is}
use Rattle.math_integers.specs.Sums.{add_is, mul_in}
use Rattle.math_integers.specs.Ranges.{back, wide, sum_fits}
use Rattle.rpe_weighting.proofs.tap.Goals as goal
use Rattle.rpe_weighting.proofs.tap.Goals.{Start}

-- a word that was cast
cast_fits : {z : ℤ} → SFits w16 z → SFits w32 (mem w16 z)
cast_fits f = rw (back f) (wide f tt)

module _ (c : Start) where
  abbrev h : ℤ
  h = c.args.h

  abbrev a : ℤ
  a = c.args.a

  abbrev b : ℤ
  b = c.args.b

  -- the two words added
  sum_is : mem w32 (mem w16 a) +ℤ mem w32 (mem w16 b) ≡ a +ℤ b
  sum_is = ap₂ ◌+ℤ◌ (back (cast_fits c.ranges.a) ∙ back c.ranges.a) (back (cast_fits c.ranges.b) ∙ back c.ranges.b)

  sum_room : SFits w32 (mem w32 (mem w16 a) +ℤ mem w32 (mem w16 b))
  sum_room = rw sum_is (sum_fits c.ranges.a c.ranges.b tt)

  -- and their product with the tap
  product_is : mem w32 h *ℤ mem w32 (mem w32 (mem w16 a) +ℤ mem w32 (mem w16 b)) ≡ h *ℤ (a +ℤ b)
  product_is = ap₂ ◌*ℤ◌ (back c.ranges.h) (back sum_room ∙ sum_is)

  product_in : P (h *ℤ (a +ℤ b)) + N (h *ℤ (a +ℤ b)) ≤ (P h + N h) * 65536
  product_in =
      mul_in (P h + N h) 65536 h (a +ℤ b) (omega arith) (omega (arith, know c.ranges.a, know c.ranges.b, add_is a b, apart (a +ℤ b)))

pub overflow_mul-result : goal.overflow_mul-result
overflow_mul-result c = rw (product_is c) (omega (zar, product_in c, c.requires, abs_is (h c)))

pub returns : goal.returns
returns c =
    let e = back (overflow_mul-result c) ∙ product_is c in
    record {
      is = e;
      near = rw e (omega (arith, product_in c, abs_is (h c), abs_is (h c *ℤ (a c +ℤ b c))));
    }
