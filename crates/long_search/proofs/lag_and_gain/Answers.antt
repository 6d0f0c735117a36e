-- What each call gives, put into the next: scaling, search, rescaling, power and gain.
use Prim.Native.Nat.{ℕ, ◌+◌}
use mathlib.Core.Path.{◌≡◌, ap, ap₂, ◌∙◌}
use mathlib.Core.List.{List}
use native.Mathlib.Omega.{arith}
use lib.IntN.{ℤ, pos}
use lib.Signed.{lt_z}
use mir.Syntax.{w16, w32}
use mir.Val.{SFits}
use borrow.Author.Rules.{rules}
use Rattle.math_integers.specs.Halves.{mem}
use Rattle.math_integers.specs.Ranges.{back, res}
use Rattle.math_lists.specs.Best.{Best, best}
use Rattle.standard.specs.Arithmetic.{shr, sub}
use Rattle.standard.specs.LongTerm.{scal, correlations, lag_search, Nc, L_power, bc}
use Rattle.law_lengths.specs.Subframes.{Lag, found_lag}
use Rattle.long_search.specs.Search.{scaled, correlated}
use Rattle.long_search.proofs.lag_and_gain.Goals as goal
use Rattle.long_search.proofs.lag_and_gain.Goals.{After-lag_search-search, After-scal-n, After-weighed-wt}

-- the scaling
scal-is : (c : After-scal-n) → mem w16 c.scal-n.result ≡ scal c.args.d.now
scal-is c = res c.scal-n ∙ c.scal-n.ensures

-- wt
wt_is : (c : After-weighed-wt) → c.weighed-wt.result ≡ scaled c.args.d.now
wt_is c = rw (scal-is c.before) at c.weighed-wt.ensures.is

-- what the search finds is the standard's
found-is : (c : After-lag_search-search) →
    best (correlated c.weighed-wt.result c.args.dp.now) ≡ lag_search c.args.d.now c.args.dp.now
unfolding lag_search correlations
found-is c = ap (λ (wt : List ℤ). best (correlated wt c.args.dp.now)) (wt_is c.before.before)

lag-is : (c : After-lag_search-search) → c.lag_search-search.result.lag ≡ Nc (lag_search c.args.d.now c.args.dp.now)
unfolding Nc
lag-is c = c.lag_search-search.ensures.lag ∙ ap (λ (b : Best). 40 + b.at) (found-is c)

sum_is : (c : After-lag_search-search) → c.lag_search-search.result.sum ≡ (lag_search c.args.d.now c.args.dp.now).sum
sum_is c = c.lag_search-search.ensures.sum ∙ ap (λ (b : Best). b.sum) (found-is c)

sum_fits : (c : After-lag_search-search) → SFits w32 c.lag_search-search.result.sum
sum_fits c = search rules

pub power-requires : goal.power-requires
power-requires c =
    let l = (goal.at.power-requires c).After-lag_search-search in
    let h : Lag (Nc (lag_search l.args.d.now l.args.dp.now)) = found_lag _ _ in
    (l.requires.1, (omega (arith, lag-is l, h.least), omega (arith, lag-is l, h.most)))

pub returns : goal.returns
returns c =
    let l = (goal.at.returns c).After-lag_search-search in
    let e = res c.sub ∙ (c.sub.ensures ∙ ap (sub (pos 6)) (scal-is (goal.at.returns c).After-scal-n)) in
    let x = res c.shr-lmax ∙ (c.shr-lmax.ensures ∙ ap₂ (shr w32) (back {w = w32} (sum_fits l) ∙ sum_is l) e) in
    let y = res c.power ∙ (c.power.ensures ∙ ap (λ (lag : ℕ). L_power lag l.args.dp.now) (lag-is l)) in
    record {
      lag = lag-is l;
      sum = sum_is l;
      positive = l.lag_search-search.ensures.positive ∙ ap (λ (b : Best). lt_z (pos 0) b.sum) (found-is l);
      bc = c.gain-bc.ensures ∙ ap₂ bc x y;
    }
