-- The code's table is `LARc_widths` itself, and past its end `get` finds nothing, so the answer is 0.
use borrow.Author.Rules.{rules}
use Rattle.standard.specs.Tables.{LARc_widths}
use Rattle.frame_codewords.proofs.larc_width.Goals as goal

pub returns : goal.returns
unfolding LARc_widths
returns c = search rules
