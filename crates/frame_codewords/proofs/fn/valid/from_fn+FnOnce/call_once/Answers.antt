-- The closure's result is a word.
use mir.Syntax.{w16}
use borrow.Author.Rules.{rules, sfits_of}
use Rattle.math_integers.specs.Ranges.{back}
use Rattle.frame_codewords.proofs.fn.valid.from_fn+FnOnce.call_once.Goals as goal

pub returns : goal.returns
returns c = rw (back {w = w16} (sfits_of c.from_fn.type_inv)) (search rules)
