-- One return for each outcome of the test, by the definition Nr with the same outcome.
use mathlib.Core.Path.{◌≡◌, sym, ap, ◌∙◌}
use mathlib.Core.Bool.{true, false}
use Rattle.math_integers.specs.Ranges.{back}
use Rattle.standard.specs.LongTerm.{is_lag}
use Rattle.standard.specs.Decoder.{Nr}
use Rattle.long_filter.proofs.used_lag.Goals as goal
use Rattle.long_filter.proofs.used_lag.Goals.{After-is_lag}

-- the test is that of the lag received
test : (c : After-is_lag) → is_lag c.args.ncr ≡ c.is_lag.result
test c = sym (c.is_lag.ensures ∙ ap is_lag (back c.ranges.ncr))

pub returns-then-is_lag : goal.returns-then-is_lag
unfolding Nr
returns-then-is_lag c =
    let t : is_lag c.args.ncr ≡ true = test c.before ∙ c.if-is_lag.true in
    rw t (back c.ranges.ncr)

pub returns-else-is_lag : goal.returns-else-is_lag
unfolding Nr
returns-else-is_lag c =
    let t : is_lag c.args.ncr ≡ false = test c.before ∙ c.if-is_lag.false in
    rw t (back c.ranges.nrp)
