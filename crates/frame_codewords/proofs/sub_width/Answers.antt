-- The code's table is `sub_widths` itself, and past its end `get` finds nothing, so the answer is 0.
use borrow.Author.Rules.{rules}
use Rattle.standard.specs.Frame.{sub_widths}
use Rattle.frame_codewords.proofs.sub_width.Goals as goal

pub returns : goal.returns
unfolding sub_widths
returns c = search rules
