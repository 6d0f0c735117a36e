-- The product of two words fits 32 bits. One shift by 27 equals the standard's two shifts, and the result is far below the limits.
use Prim.Native.Nat.{ℕ, ◌*◌, ◌%◌, ◌^◌}
use mathlib.Core.Path.{◌≡◌, sym, ap, ◌∙◌}
use lib.Dec.{T, leb, leb→le}
use lib.IntN.{ℤ, pos, ◌+ℤ◌, ◌*ℤ◌}
use lib.Signed.{shr_z}
use mir.Syntax.{w16, w32}
use mir.Val.{SFits, of_z, to_z}
use Rattle.math_integers.specs.Halves.{zar, mem}
use Rattle.math_integers.specs.Sums.{add_is}
use Rattle.math_integers.specs.Ranges.{zfits, back}
use Rattle.standard.specs.Arithmetic.{shl}
use Rattle.law_arithmetic.specs.Shift.{shl_word}
use Rattle.rpe_quantise.specs.Counts.{count_below, shl_bits}
use Rattle.rpe_quantise.specs.Pulse.{small, at_once}
use Rattle.rpe_quantise.proofs.pulse_code.Goals as goal
use Rattle.rpe_quantise.proofs.pulse_code.Goals.{Start}

-- the pulse after its shift, as the code has it
abbrev y : Start → ℤ
y c = to_z w16 ((of_z w16 c.args.xm * 2 ^ of_z w16 c.args.temp1) % 65536)

y-is : (c : Start) → y c ≡ shl w16 c.args.xm c.args.temp1
y-is c = shl_bits w16 w16 c.args.xm c.args.temp1 c.requires.0 c.ranges.xm

y-fits : (c : Start) → SFits w16 (y c)
y-fits c = rw (y-is c) (shl_word w16 c.args.xm c.args.temp1 c.ranges.xm)

-- a product of two words, shifted right (that is, divided by m), as the code has it
module _ {x b : ℤ} (f : SFits w16 x) (g : SFits w16 b) (m : ℕ) (h : T (leb 1048576 m)) where
  abbrev product : ℤ
  product = mem w32 (shr_z (mem w32 (mem w32 x *ℤ mem w32 (mem w16 b))) m)

  product_is : product ≡ shr_z (x *ℤ b) m
  product_is = search zfits

  product_fits : SFits w16 product
  product_fits = rw product_is (omega (zar, small x b f g m (leb→le 1048576 m h)))

  -- its sum with a small number
  module _ (k : ℕ) where
    sum : mem w16 product +ℤ pos k ≡ shr_z (x *ℤ b) m +ℤ pos k
    sum = ap (λ (z : ℤ). z +ℤ pos k) (back product_fits ∙ product_is)

    sum_fits : T (leb k 8) → SFits w16 (mem w16 product +ℤ pos k)
    sum_fits l = rw sum (omega (zar, small x b f g m (leb→le 1048576 m h), add_is (shr_z (x *ℤ b) m) (pos k), leb→le k 8 l))

pub overflow_add-result : goal.overflow_add-result
overflow_add-result c = sum_fits (y-fits c) c.ranges.temp2 _ tt _ tt

pub returns : goal.returns
returns c =
    let f = y-fits c in
    let g = c.ranges.temp2 in
    back (overflow_add-result c) ∙ (sum f g _ tt _ ∙ rw (← y-is c) (sym (at_once (y c) c.args.temp2 f g c.requires.1)))

pub overflow_shl-result : goal.overflow_shl-result
overflow_shl-result c = count_below w16 c.args.temp1 c.requires.0
