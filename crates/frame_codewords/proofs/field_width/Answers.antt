-- Three cases of i: the eight ratios, the sub-frames by the remainder modulo 17, and past the end.
use mathlib.Core.Path.{◌∙◌}
use mathlib.Core.List.{flatten}
use native.Mathlib.Omega.{arith}
use Rattle.standard.specs.Tables.{LARc_widths}
use Rattle.standard.specs.Frame.{sub_widths, widths}
use Rattle.op_tables.specs.Facts.{past_end}
use Rattle.frame_codewords.specs.Widths.{width_first, width_later}
use Rattle.frame_codewords.proofs.field_width.Goals as goal

pub returns-then-i-lt8 : goal.returns-then-i-lt8
returns-then-i-lt8 c = c.larc_width.ensures ∙ width_first c.args.i (omega arith)

pub returns-then-i-lt76 : goal.returns-then-i-lt76
returns-then-i-lt76 c = c.sub_width.ensures ∙ width_later c.args.i (omega arith) (omega arith)

pub returns-else-i-lt76 : goal.returns-else-i-lt76
unfolding widths LARc_widths sub_widths flatten
returns-else-i-lt76 c = past_end widths c.if-i-lt76.false
