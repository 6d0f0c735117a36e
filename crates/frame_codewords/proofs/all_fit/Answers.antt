-- Iteration i tests codeword i, and a test that fails makes the answer false.
use mathlib.Core.Path.{refl, sym}
use mathlib.Core.List.{[], ◌∷◌}
use native.Mathlib.Omega.{arith}
use lib.IntN.{pos}
use lib.ListN.{length, length-append}
use mir.Syntax.{w16}
use mir.Val.{SFits}
use borrow.Author.Rules.{rules}
use Rattle.std.proofs.lemmas.Slice.Zip.{zip_turn, zip_end}
use Rattle.math_integers.specs.Ranges.{back}
use Rattle.frame_codewords.specs.Fitting.{fitting_next, fitting_end}
use Rattle.frame_codewords.proofs.all_fit.Goals as goal

pub loop-word-preserved : goal.loop-word-preserved
loop-word-preserved c =
    let ys = c.loop-word.yielded in
    let (a, b, x, w) = zip_turn c.args.c.now c.args.widths.now ys c.into_iter-word-iterator.result c.loop-word.word-iterator
    c.next.new.self c.next.result (search rules) (search rules) c.loop-word.yielded_by _ c.in-Some.is c.next.ensures.steps in
    let f : SFits w16 c.in-Some.field-0-0.now = search rules in
    rw (length-append ys ((c.in-Some.field-0-0, c.in-Some.field-0-1) ∷ []))
    (fitting_next (length c.args.c.now) c.args.widths.now c.args.c.now (sym c.requires.0) refl c.loop-word.invariant a
    (w 0) (x (pos 0)) (rw (back f) at c.fit-all.ensures) refl)

pub returns : goal.returns
returns c =
    let l = zip_end c.args.c.now c.args.widths.now c.loop-word.yielded c.into_iter-word-iterator.result c.loop-word.word-iterator
    c.next.new.self c.next.result (search rules) (search rules) c.loop-word.yielded_by c.in-None.is c.next.ensures.steps in
    fitting_end (length c.args.c.now) c.args.widths.now c.args.c.now (sym c.requires.0) refl c.loop-word.invariant
    (omega (arith, l, c.requires.0))
