-- Each sum that the search gets is the energy of its grid, and the loop keeps the best of the grids that it has passed.
use Prim.Native.Nat.{ℕ, ◌+◌, ◌<◌}
use mathlib.Core.Path.{◌≡◌, sym, ap, ap₂, ◌∙◌}
use mathlib.Core.Bool.{true}
use mathlib.Core.List.{List, [], ◌∷◌}
use native.Mathlib.Omega.{arith}
use lib.IntN.{ℤ, pos, ◌+ℤ◌, ◌-ℤ◌}
use lib.ListN.{length, take}
use lib.Seq.{take_all}
use lib.Signed.{lt_z}
use mir.Syntax.{w32}
use mir.Val.{SFits}
use borrow.Author.Rules.{rules}
use Rattle.math_integers.specs.Halves.{zar, mem, abs_is}
use Rattle.math_integers.specs.Sums.{add_is, minus_is}
use Rattle.math_integers.specs.Ranges.{back}
use Rattle.math_lists.specs.Every.{every}
use Rattle.math_lists.specs.First.{by_cond}
use Rattle.math_lists.specs.Tab.{tab, tab_length, tab_at_zero}
use Rattle.math_lists.specs.Best.{Best, best, best_start, best_new, best_old}
use Rattle.standard.specs.Tables.{◌at◌}
use Rattle.standard.specs.Rpe.{Mc}
use Rattle.rpe_weighting.specs.Energy.{small, small_at, total, total_in, energy_is, fourth_is}
use Rattle.rpe_weighting.proofs.mc.Invariants.{energy, energies}
use Rattle.rpe_weighting.proofs.mc.Goals as goal
use Rattle.rpe_weighting.proofs.mc.Goals.{After-totals-first}

-- after the first three sums: the samples and their squares
module _ (t : After-totals-first) where
  abbrev x : List ℤ
  x = t.args.x

  abbrev q : List ℤ
  q = t.squares-q.result

  forty : length q ≡ 40
  forty = search rules

  all_small : every small q ≡ true
  all_small = t.squares-q.ensures.small

  -- a square fits 32 bits
  square_fits : (k : ℕ) → k < 40 → SFits w32 (q at k)
  square_fits k h = omega (zar, small_at q forty all_small k h, abs_is (q at k))

  -- the three, as the code has them
  abbrev first : ℤ
  first = mem w32 t.totals-first.result.0

  first_is : first ≡ total 0 q
  first_is = let f : SFits w32 t.totals-first.result.0 = search rules in back f ∙ t.totals-first.ensures.first

  abbrev second : ℤ
  second = mem w32 t.totals-first.result.1

  second_is : second ≡ total 1 q
  second_is = let f : SFits w32 t.totals-first.result.1 = search rules in back f ∙ t.totals-first.ensures.second

  abbrev third : ℤ
  third = mem w32 t.totals-first.result.2

  third_is : third ≡ total 2 q
  third_is = let f : SFits w32 t.totals-first.result.2 = search rules in back f ∙ t.totals-first.ensures.third

  -- the fourth is the first less square 0, with square 39
  abbrev less : ℤ
  less = first -ℤ mem w32 (q at 0)

  less_is : less ≡ total 0 q -ℤ q at 0
  less_is = ap₂ ◌-ℤ◌ first_is (back (square_fits 0 (omega arith)))

  less_fits : SFits w32 less
  less_fits =
      let s-in = total_in q forty all_small 0 (omega arith) in
      let z-in = small_at q forty all_small 0 (omega arith) in
      rw less_is (omega (zar, abs_is (total 0 q), abs_is (q at 0), minus_is (total 0 q) (q at 0)))

  abbrev fourth : ℤ
  fourth = mem w32 less +ℤ mem w32 (q at 39)

  fourth-is : fourth ≡ total 3 q
  fourth-is = ap₂ ◌+ℤ◌ (back less_fits ∙ less_is) (back (square_fits 39 (omega arith))) ∙ fourth_is q

  fourth_fits : SFits w32 fourth
  fourth_fits = rw fourth-is (omega (zar, total_in q forty all_small 3 (omega arith), abs_is (total 3 q)))

  -- all four, as the code has them
  abbrev sums : List ℤ
  sums = first ∷ second ∷ third ∷ mem w32 fourth ∷ []

  module _ (m : ℕ) (h : m < 4) where
    sum_at : sums at m ≡ total m q
    unfolding tab
    sum_at =
        let e : sums ≡ tab (λ m. total m q) 0 4 = cc (first_is, second_is, third_is, back fourth_fits, fourth-is) in
        ap (λ (xs : List ℤ). xs at m) e ∙ tab_at_zero (λ m. total m q) 4 m (pos 0) h

    -- each, as the loop reads it, is the sum over its grid
    sum_is : mem w32 (sums at m) ≡ total m q
    sum_is =
        let f : SFits w32 (sums at m) = rw sum_at (omega (zar, total_in q forty all_small m (omega arith), abs_is (total m q))) in
        back f ∙ sum_at

    abbrev double : ℤ
    double = mem w32 (sums at m) +ℤ mem w32 (sums at m)

    -- its double fits 32 bits
    double_fits : SFits w32 double
    double_fits =
        rw sum_is (omega (zar, total_in q forty all_small m (omega arith), abs_is (total m q), add_is (total m q) (total m q)))

    -- which is the energy
    double_is : mem w32 double ≡ energies x at m
    double_is =
        let l : length x ≡ 40 = search rules in
        let q-is = t.squares-q.ensures.is in
        back double_fits
        ∙ (ap (λ (z : ℤ). z +ℤ z) (sum_is ∙ ap (total m) q-is)
        ∙ (sym (energy_is m x (omega arith) l (rw q-is at all_small)) ∙ sym (tab_at_zero (energy x) 4 m (pos 0) h)))

pub overflow_sub-energies : goal.overflow_sub-energies
overflow_sub-energies c = less_fits (goal.at.overflow_sub-energies c).After-totals-first

pub overflow_add-energies : goal.overflow_add-energies
overflow_add-energies c = fourth_fits (goal.at.overflow_add-energies c).After-totals-first

pub loop-m-init : goal.loop-m-init
loop-m-init c = sym best_start

pub overflow_add-energy : goal.overflow_add-energy
overflow_add-energy c = double_fits (goal.at.overflow_add-energy c).After-totals-first c.loop-m.m (omega arith)

-- a step of the search goes from the best of the grids before to the best with this one
pub loop-m-preserved : goal.loop-m-preserved
loop-m-preserved c =
    let t = (goal.at.loop-m-preserved c).After-totals-first in
    let m = c.loop-m.m in
    let xs = energies (x t) in
    let l : m < length xs = omega (arith, tab_length (energy (x t)) 0 4) in
    let d = double_is t m (omega arith) in
    c.better-found.ensures
    ∙ by_cond (λ z. z ≡ best (take (m + 1) xs)) (lt_z c.loop-m.found.sum _)
    (best_new xs m c.loop-m.invariant l d) (best_old xs m c.loop-m.invariant l d)

pub returns : goal.returns
unfolding Mc
returns c =
    let xs = energies c.args.x in
    ap (λ (b : Best). b.at) (c.loop-m.invariant ∙ ap best (take_all c.loop-m.m xs (omega (arith, tab_length (energy c.args.x) 0 4))))
