-- The closure is called at each sub-frame, and tests the lag where that sub-frame starts.
use Rattle.std.proofs.Common.{◌+◌, ◌*◌, refl, rules}
use Rattle.std.proofs.lemmas.Iterator.{YieldsList-from_range}
use Rattle.std.proofs.lemmas.Iterator.Search.{all_from_yields_List}
use borrow.Author.Tests.{tests}
use Rattle.math_lists.specs.Every.{every}
use Rattle.standard.specs.Tables.{◌at◌}
use Rattle.standard.specs.Frame.{places}
use Rattle.standard.specs.LongTerm.{is_lag}
use Rattle.test_agreement.proofs.lags.Goals as goal

pub returns : goal.returns
unfolding every places
returns c =
    let words = c.args.codewords.now in
    all_from_yields_List (λ n. is_lag (words at (8 + 17 * n))) _ _ c.all.result c.all.ensures.ran (YieldsList-from_range 0 4 4 refl refl)
    (λ x b q k. search (rules, tests))
