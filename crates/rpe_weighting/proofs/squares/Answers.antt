-- Call k gives the square of x[k]. The samples are words, so their squares are small.
use mathlib.Core.Bool.{true}
use mathlib.Core.Path.{◌≡◌, ap, ◌∙◌}
use native.Mathlib.Omega.{arith}
use lib.IntN.{ℤ, pos, ◌*ℤ◌}
use lib.ListN.{length}
use mir.Syntax.{w16, w32}
use mir.Val.{SFits}
use borrow.Author.Rules.{rules}
use Rattle.math_integers.specs.Halves.{mem}
use Rattle.math_integers.specs.Ranges.{back, wide, shr_fits, product_fits}
use Rattle.math_lists.specs.Every.{every}
use Rattle.math_lists.specs.Made.{made_map}
use Rattle.standard.specs.Arithmetic.{◌>>◌}
use Rattle.standard.specs.Tables.{◌at◌}
use Rattle.law_arithmetic.specs.Shift.{down_bits}
use Rattle.law_arithmetic.specs.Within.{word, words_yes}
use Rattle.law_loops.specs.Calls.{called}
use Rattle.rpe_weighting.specs.Energy.{square, squared, words_small}
use Rattle.rpe_weighting.proofs.squares.Goals as goal
use Rattle.rpe_weighting.proofs.squares.Goals.{After-from_fn}

-- the samples are words, since each is read
words : (c : After-from_fn) → every word c.args.x ≡ true
words c =
    let x = c.args.x in
    let l : length x ≡ 40 = search rules in
    words_yes x
    (λ j h.
    let t = called _ _ _ (λ k y q t. search rules) 40 c.from_fn.ensures.items j (omega arith) in
    search (rules, t.2))

squares-are : (c : After-from_fn) → c.from_fn.result ≡ squared c.args.x
squares-are c =
    let x = c.args.x in
    let l : length x ≡ 40 = search rules in
    made_map c.from_fn.ensures.items square x (pos 0) (pos 0) l
    (λ k b y q t.
    let f : SFits w16 (x at k) = search rules in
    let e : mem w32 (mem w16 (mem w16 (x at k) >> 2)) ≡ (x at k) >> 2 =
    rw (down_bits w16 (x at k) 2 f) (back (wide {v = w32} (shr_fits 4 f) tt)) in
    let s : SFits w32 (square (x at k)) = product_fits (shr_fits 4 f) (shr_fits 4 f) tt in
    let z = mem w32 (mem w16 (mem w16 (x at k) >> 2)) in
    let r : y ≡ mem w32 (z *ℤ z) = search rules in
    (search rules, r ∙ (ap (λ (z : ℤ). mem w32 (z *ℤ z)) e ∙ back s)))

pub returns : goal.returns
returns c = record { is = squares-are c; small = rw (squares-are c) (words_small c.args.x (words c)) }
