-- The mantissa, the shift and the rounding term are the standard's, because the exponent is from −4 to 6. Call i gives pulse i.
use Prim.Native.Nat.{ℕ, ◌≤◌}
use mathlib.Core.Path.{◌≡◌, refl, sym, ap, ◌∙◌}
use mathlib.Core.Bool.{true}
use lib.Dec.{T, leb, leb→le}
use lib.IntN.{ℤ, pos, ◌-ℤ◌, nat_abs}
use lib.ListN.{length}
use lib.Signed.{le_z}
use mir.Syntax.{w16}
use mir.Val.{SFits}
use borrow.Author.Rules.{rules}
use Rattle.math_integers.specs.Halves.{P, N, zar, mem}
use Rattle.math_integers.specs.Sums.{minus_is}
use Rattle.math_integers.specs.Ranges.{back, res}
use Rattle.math_lists.specs.Made.{made_map}
use Rattle.standard.specs.Arithmetic.{shl, sub}
use Rattle.standard.specs.Tables.{◌at◌, FAC}
use Rattle.standard.specs.Rpe.{amplitude, xMp}
use Rattle.law_arithmetic.specs.Clip.{minus_plain}
use Rattle.op_tables.specs.Facts.{FAC_above}
use Rattle.std.proofs.Common.{arith}
use Rattle.std.proofs.iter.Serving.{serving}
use Rattle.rpe_quantise.specs.Counts.{Count}
use Rattle.rpe_quantise.specs.Doubling.{gap_fits, gap_is, gap_in, gap_count}
use Rattle.rpe_inverse.specs.Inverse.{Rounding, half_in, pulse}
use Rattle.rpe_inverse.proofs.inverse.Goals as goal
use Rattle.rpe_inverse.proofs.inverse.Goals.{After-exp_and_mant-a, After-shl-temp3}

-- the exponent and the mantissa that were returned
module _ (c : After-exp_and_mant-a) where
  exp-is : c.exp_and_mant-a.result.exp ≡ (amplitude c.args.xmaxc).exp
  exp-is = rw (back c.ranges.xmaxc) at c.exp_and_mant-a.ensures.exp

  mant_is : mem w16 c.exp_and_mant-a.result.mant ≡ pos (amplitude c.args.xmaxc).mant
  mant_is =
      let f : SFits w16 c.exp_and_mant-a.result.mant = search rules in
      back f ∙ rw (back c.ranges.xmaxc) at c.exp_and_mant-a.ensures.mant

  -- 6 less the exponent
  abbrev temp2 : ℤ
  temp2 = sub (pos 6) (amplitude c.args.xmaxc).exp

  temp2-is : mem w16 (pos 6 -ℤ mem w16 c.exp_and_mant-a.result.exp) ≡ temp2
  temp2-is = gap_is c.args.xmaxc _ c.requires exp-is 6 tt

  temp2_in : (N temp2 ≡ 0) × (P temp2 ≤ 10)
  temp2_in = gap_in c.args.xmaxc _ c.requires exp-is 6 tt tt

  -- then less a small number, as the code has it
  less_fits : (b : ℕ) → T (leb b 8) → SFits w16 (mem w16 (pos 6 -ℤ mem w16 c.exp_and_mant-a.result.exp) -ℤ pos b)
  less_fits b l = rw temp2-is (omega (zar, temp2_in, minus_is temp2 (pos b), leb→le b 8 l))

pub overflow_sub-temp2 : goal.overflow_sub-temp2
overflow_sub-temp2 c =
    let e = (goal.at.overflow_sub-temp2 c).After-exp_and_mant-a in gap_fits e.args.xmaxc _ e.requires (exp-is e) _ tt

pub overflow_sub-temp2-2 : goal.overflow_sub-temp2-2
overflow_sub-temp2-2 c = search (rules, less_fits (goal.at.overflow_sub-temp2-2 c).After-exp_and_mant-a)

-- the mantissa in the table, the shift and the rounding term, as the code has them
module _ (c : After-shl-temp3) where
  abbrev called : After-exp_and_mant-a
  called = c.before.before.before.before.before.before

  abbrev mantissa : ℤ
  mantissa = mem w16 c.mantissa_fac-temp1.result

  mantissa-is : mantissa ≡ FAC at (amplitude c.args.xmaxc).mant
  mantissa-is = res c.mantissa_fac-temp1 ∙ (c.mantissa_fac-temp1.ensures ∙ ap (λ (z : ℤ). FAC at nat_abs z) (mant_is called))

  abbrev shift : ℤ
  shift = mem w16 (pos 6 -ℤ mem w16 c.exp_and_mant-a.result.exp)

  abbrev half : ℤ
  half = mem w16 c.shl-temp3.result

  half-is : half ≡ shl w16 (pos 1) (sub (temp2 called) (pos 1))
  half-is =
      let f : SFits w16 (shift -ℤ pos 1) = less_fits called 1 tt in
      res c.shl-temp3
      ∙ (c.shl-temp3.ensures
      ∙ ap (shl w16 (pos 1)) (back f ∙ rw (temp2-is called) (sym (minus_plain (temp2 called) (pos 1) (rw (temp2-is called) at f)))))

  -- a pulse may be decoded by them
  asked : (le_z (pos 0) (mem w16 mantissa) ≡ true) × (Count (mem w16 shift) × Rounding (mem w16 half))
  asked =
      let f : SFits w16 mantissa = search rules in
      let g : SFits w16 shift = search rules in
      let h : SFits w16 half = search rules in
      let (n, p) = temp2_in called in
      rw (back f, back g, back h)
      (rw mantissa-is (FAC_above _), (gap_count c.args.xmaxc _ c.requires (exp-is called) 6 tt tt, rw half-is (half_in (temp2 called) n p)))

pub from_fn-requires : goal.from_fn-requires
from_fn-requires c =
    let (a, (s, h)) = asked (goal.at.from_fn-requires c).After-shl-temp3 in
    grind (arith, serving, a, s, h)

pub returns : goal.returns
unfolding xMp
returns c =
    let m = (goal.at.returns c).After-shl-temp3 in
    let xmc = c.args.xmc in
    let n : length xmc ≡ 13 = search rules in
    made_map c.from_fn.ensures.items (pulse (mantissa m) (shift m) (half m)) xmc (pos 0) (pos 0) n
    (λ k b y q t.
    let f : SFits w16 (xmc at k) = search rules in
    let g : SFits w16 (mantissa m) = search rules in
    let h : SFits w16 (shift m) = search rules in
    let i : SFits w16 (half m) = search rules in
    let r : y ≡ pulse (mem w16 (mantissa m)) (mem w16 (shift m)) (mem w16 (half m)) (mem w16 (xmc at k)) = search rules in
    (search rules, rw (back f, back g, back h, back i) at r))
    ∙ rw (mantissa-is m, temp2-is (called m), half-is m) refl
