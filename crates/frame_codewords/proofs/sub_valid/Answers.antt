-- The table of the code is `sub_widths` itself.
use Rattle.standard.specs.Frame.{sub_widths}
use Rattle.frame_codewords.proofs.sub_valid.Goals as goal

pub returns : goal.returns
unfolding sub_widths
returns c = c.valid.ensures
