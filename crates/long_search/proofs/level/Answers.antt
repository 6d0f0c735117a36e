-- The search goes through the levels in order. The first level that R does not exceed is the code; if there is none, it is 3.
use Prim.Native.Nat.{ℕ, ◌<◌, ◌≤◌}
use mathlib.Core.Path.{◌≡◌, sym, ◌∙◌}
use mathlib.Core.Bool.{true, false}
use native.Mathlib.Omega.{arith}
use lib.IntN.{ℤ}
use lib.Signed.{le_z}
use mir.Syntax.{w16}
use borrow.Author.Rules.{rules}
use Rattle.std.proofs.lemmas.Iterator.{first_from_Range}
use Rattle.std.specs.Option.{MatchOption, unwrap_or}
use Rattle.std.specs.Prelude.{Option, Some, None}
use Rattle.math_integers.specs.Halves.{mem}
use Rattle.math_integers.specs.Ranges.{back}
use Rattle.math_lists.specs.First.{first_unique}
use Rattle.standard.specs.Arithmetic.{mult}
use Rattle.standard.specs.LongTerm.{gain_level}
use Rattle.standard.specs.Tables.{◌at◌, DLB}
use Rattle.long_search.proofs.level.Goals as goal
use Rattle.long_search.proofs.level.Goals.{Start}

module _ (r s : ℤ) where
  -- R does not exceed a level, or it does
  abbrev reached : ℕ → Type 0
  reached i = le_z r (mult s (DLB at i)) ≡ true

  abbrev exceeded : ℕ → Type 0
  exceeded i = le_z r (mult s (DLB at i)) ≡ false

  found : (o : Option ℕ)
      → MatchOption o ((k : ℕ) → 0 ≤ k → k < 3 → exceeded k)
      (λ i. (0 ≤ i) × (i < 3) × reached i × ((k : ℕ) → 0 ≤ k → k < i → exceeded k))
      → unwrap_or o 3 ≡ gain_level r s
  unfolding gain_level
  found None m = sym (first_unique _ 3 0 3 (omega arith) (omega arith) m (λ g. absurd (omega arith)))
  found (Some i) (a, b, t, m) = sym (first_unique _ 3 0 i a (omega arith) m (λ g. t))

pub returns : goal.returns
returns c =
    let r = c.args.r in
    let s = c.args.s in
    c.unwrap_or.ensures
    ∙ found r s c.find.result
    (first_from_Range _ _ _ c.find.result (reached r s) (exceeded r s) c.find.ensures.ran
    (λ x q k.
    let t : le_z (mem w16 r) (mult (mem w16 s) (DLB at x)) ≡ true = search rules in
    rw (back c.ranges.r, back c.ranges.s) at t)
    (λ x q k.
    let t : le_z (mem w16 r) (mult (mem w16 s) (DLB at x)) ≡ false = search rules in
    (search rules, rw (back c.ranges.r, back c.ranges.s) at t)))
