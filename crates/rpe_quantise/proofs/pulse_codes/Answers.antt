-- The shift and the inverse mantissa are the standard's, because the exponent is from −4 to 6. Call i gives the code of pulse i.
use mathlib.Core.Path.{◌≡◌, ap, ap₂, ◌∙◌}
use mathlib.Core.List.{map}
use lib.IntN.{ℤ, pos, ◌-ℤ◌, nat_abs}
use lib.ListN.{length}
use lib.Signed.{le_z}
use mathlib.Core.Bool.{true}
use mir.Syntax.{w16}
use mir.Val.{SFits}
use borrow.Author.Rules.{rules}
use Rattle.math_integers.specs.Halves.{mem}
use Rattle.math_integers.specs.Ranges.{back, res}
use Rattle.math_lists.specs.Made.{made_map}
use Rattle.standard.specs.Arithmetic.{sub}
use Rattle.standard.specs.Tables.{◌at◌, NRFAC}
use Rattle.standard.specs.Rpe.{amplitude, xMc}
use Rattle.op_tables.specs.Facts.{NRFAC_above}
use Rattle.std.proofs.Common.{arith}
use Rattle.std.proofs.iter.Serving.{serving}
use Rattle.rpe_quantise.specs.Counts.{Count}
use Rattle.rpe_quantise.specs.Doubling.{gap_fits, gap_is, gap_count}
use Rattle.rpe_quantise.specs.Pulse.{code}
use Rattle.rpe_quantise.proofs.pulse_codes.Goals as goal
use Rattle.rpe_quantise.proofs.pulse_codes.Goals.{After-exp_and_mant-a, After-mantissa_nrfac-temp2}

-- the exponent and the mantissa that were returned
module _ (c : After-exp_and_mant-a) where
  exp-is : c.exp_and_mant-a.result.exp ≡ (amplitude c.args.code).exp
  exp-is = rw (back c.ranges.code) at c.exp_and_mant-a.ensures.exp

  mant_is : mem w16 c.exp_and_mant-a.result.mant ≡ pos (amplitude c.args.code).mant
  mant_is =
      let f : SFits w16 c.exp_and_mant-a.result.mant = search rules in
      back f ∙ rw (back c.ranges.code) at c.exp_and_mant-a.ensures.mant

pub overflow_sub-temp1 : goal.overflow_sub-temp1
overflow_sub-temp1 c =
    let e = (goal.at.overflow_sub-temp1 c).After-exp_and_mant-a in gap_fits e.args.code _ e.requires (exp-is e) _ tt

-- the shift and the inverse mantissa, as the code has them
module _ (c : After-mantissa_nrfac-temp2) where
  abbrev called : After-exp_and_mant-a
  called = c.before.before.before.before.before

  abbrev temp1 : ℤ
  temp1 = mem w16 (pos 6 -ℤ mem w16 c.exp_and_mant-a.result.exp)

  temp1-is : temp1 ≡ sub (pos 6) (amplitude c.args.code).exp
  temp1-is = gap_is c.args.code _ c.requires (exp-is called) 6 tt

  abbrev temp2 : ℤ
  temp2 = mem w16 c.mantissa_nrfac-temp2.result

  temp2-is : temp2 ≡ NRFAC at (amplitude c.args.code).mant
  temp2-is = res c.mantissa_nrfac-temp2 ∙ (c.mantissa_nrfac-temp2.ensures ∙ ap (λ (z : ℤ). NRFAC at nat_abs z) (mant_is called))

  -- a pulse may be coded by them
  asked : Count (mem w16 temp1) × (le_z (pos 0) (mem w16 temp2) ≡ true)
  asked =
      let f : SFits w16 temp1 = search rules in
      let g : SFits w16 temp2 = search rules in
      rw (back f, back g) (gap_count c.args.code _ c.requires (exp-is called) 6 tt tt, rw temp2-is (NRFAC_above _))

pub from_fn-requires : goal.from_fn-requires
from_fn-requires c =
    let (n, a) = asked (goal.at.from_fn-requires c).After-mantissa_nrfac-temp2 in
    grind (arith, serving, n, a)

pub returns : goal.returns
unfolding xMc
returns c =
    let m = (goal.at.returns c).After-mantissa_nrfac-temp2 in
    let xm = c.args.xm in
    let n : length xm ≡ 13 = search rules in
    made_map c.from_fn.ensures.items (code (temp1 m) (temp2 m)) xm (pos 0) (pos 0) n
    (λ k b y q t.
    let f : SFits w16 (xm at k) = search rules in
    let g : SFits w16 (temp1 m) = search rules in
    let h : SFits w16 (temp2 m) = search rules in
    let r : y ≡ code (mem w16 (temp1 m)) (mem w16 (temp2 m)) (mem w16 (xm at k)) = search rules in
    (search rules, rw (back f, back g, back h) at r))
    ∙ ap₂ (λ (t u : ℤ). map (code t u) xm) (temp1-is m) (temp2-is m)
