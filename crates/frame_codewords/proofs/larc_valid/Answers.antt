-- The table of the code is `LARc_widths` itself.
use Rattle.standard.specs.Tables.{LARc_widths}
use Rattle.frame_codewords.proofs.larc_valid.Goals as goal

pub returns : goal.returns
unfolding LARc_widths
returns c = c.valid.ensures
