-- Call k gives the gain times sample k of those that the lag asks for, by mult_r, so the array is dpp.
use mathlib.Core.Path.{◌≡◌, ap₂, ◌∙◌}
use native.Mathlib.Omega.{arith}
use Prim.Native.Nat.{◌-◌}
use lib.IntN.{pos}
use lib.ListN.{length, take, drop}
use mir.Syntax.{w16}
use mir.Val.{SFits, to_z, of_z}
use borrow.Author.Rules.{rules}
use Rattle.math_integers.specs.Ranges.{back, res}
use Rattle.math_lists.specs.Made.{made_map}
use Rattle.standard.specs.Arithmetic.{mult_r}
use Rattle.standard.specs.Tables.{◌at◌, QLB}
use Rattle.standard.specs.LongTerm.{back as lagged, dpp}
use Rattle.law_lengths.specs.Subframes.{back_length}
use Rattle.long_filter.proofs.estimate.Goals as goal

pub returns : goal.returns
unfolding dpp lagged
returns c =
    let dp = c.args.dp.now in
    let from = take (160 - c.args.lag - (120 - c.args.lag)) (drop (120 - c.args.lag) dp) in
    let n : length (lagged c.args.lag dp) ≡ 40 =
    back_length c.args.lag dp (record { least = c.requires.1.0; most = c.requires.1.1 }) c.requires.0 in
    let m : 160 - c.args.lag - (120 - c.args.lag) ≡ 40 = omega arith in
    let e : from ≡ lagged c.args.lag dp = rw m in
    rw (← e) (made_map c.from_fn.ensures.items (mult_r (QLB at c.args.bc)) from (pos 0) (pos 0) (rw e n)
    (λ k b y q t.
    let f : SFits w16 (from at k) = search rules in
    let r : y ≡ mult_r (to_z w16 (of_z w16 c.gain_qlb-b.result)) (to_z w16 (of_z w16 (from at k))) = search rules in
    (search rules, r ∙ ap₂ mult_r (res c.gain_qlb-b ∙ c.gain_qlb-b.ensures) (back f))))
