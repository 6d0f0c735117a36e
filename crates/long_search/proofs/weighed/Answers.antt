-- Call k gives sample k shifted by the scaling. Each is at most 512 in size, because dmax is (`scaled_small`).
use mathlib.Core.Path.{◌≡◌, ap₂, ◌∙◌}
use mathlib.Core.Bool.{true}
use mathlib.Core.List.{map}
use native.Mathlib.Omega.{arith}
use lib.IntN.{pos}
use mir.Syntax.{w16}
use mir.Val.{SFits}
use borrow.Author.Rules.{rules}
use Rattle.math_integers.specs.Halves.{mem}
use Rattle.math_integers.specs.Ranges.{back}
use Rattle.math_lists.specs.Every.{every}
use Rattle.math_lists.specs.Made.{made_map}
use Rattle.standard.specs.Arithmetic.{shr}
use Rattle.standard.specs.Tables.{◌at◌}
use Rattle.law_arithmetic.specs.Within.{word, words_yes}
use Rattle.long_search.specs.Bounds.{scaled_small}
use Rattle.law_loops.specs.Calls.{called}
use Rattle.long_search.proofs.weighed.Goals as goal
use Rattle.long_search.proofs.weighed.Goals.{After-from_fn}

shifted : (c : After-from_fn) → c.from_fn.result ≡ map (λ x. shr w16 x c.args.scal) c.args.d.now
shifted c =
    let d = c.args.d.now in
    made_map c.from_fn.ensures.items (λ x. shr w16 x c.args.scal) d (pos 0) (pos 0) c.requires.0
    (λ k b y q t.
    let f : SFits w16 (d at k) = search rules in
    let r : y ≡ shr w16 (mem w16 (d at k)) (mem w16 c.args.scal) = search rules in
    (search rules, r ∙ ap₂ (shr w16) (back f) (back c.ranges.scal)))

-- the samples are words, since each is read
words : (c : After-from_fn) → every word c.args.d.now ≡ true
words c =
    words_yes c.args.d.now
    (λ j h.
    let t = called _ _ _ (λ k y q t. search rules) 40 c.from_fn.ensures.items j (omega (arith, c.requires.0)) in
    search (rules, t.2))

pub returns : goal.returns
returns c = record { is = shifted c; small = rw (shifted c, c.requires.1) (scaled_small c.args.d.now (words c)) }
