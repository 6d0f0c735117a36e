-- The arrays of the state have their lengths by their types, and hold words since each is read. So the state is `Carried`, and the laws of
-- `law_limits` apply.
use mathlib.Core.Path.{◌≡◌}
use lib.ListN.{length}
use mir.Syntax.{w16}
use mir.Val.{SFits}
use borrow.Author.Rules.{rules}
use Rattle.law_arithmetic.specs.Within.{word_yes}
use Rattle.law_limits.specs.Words.{Carried}
use Rattle.law_limits.proofs.Whole.{six_sums}
use Rattle.law_limits.specs.Shifts.{left_shifts}
use Rattle.encoder.specs.Promise.{coder}
use Rattle.law_ends.proofs.limits.Goals as goal

pub returns : goal.returns
unfolding coder
returns c =
    -- what the types say of a state
    let mp_fits : SFits w16 c.args.e.mp = search rules in
    let larpp : length c.args.e.larpp ≡ 8 = search rules in
    let u : length c.args.e.u ≡ 8 = search rules in
    let dp : length c.args.e.dp ≡ 120 = search rules in
    let carried : Carried (coder c.args.e) =
    record {
      sizes = record { LARpp = larpp; u = u; dp = dp };
      mp = word_yes c.args.e.mp mp_fits;
      LARpp = c.each_a_word.ensures;
      u = c.each_a_word-2.ensures;
      dp = c.each_a_word-3.ensures;
    }
    in
    let words = c.each_a_word-4.ensures in
    record {
      carried = (carried, words);
      sums = λ sound l. six_sums _ _ carried sound l words;
      shifts = λ l. left_shifts _ _ carried l words;
    }
