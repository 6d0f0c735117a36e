-- The six calls give the least of the seven lines, and that is segment and step (`placed_lines`).
use Rattle.std.specs.Prelude.{◌≡◌}
use Rattle.std.proofs.Common.{◌∙◌, sym, arith}
use Rattle.pcm_alaw.specs.Rules.{lines, placed_lines}
use Rattle.pcm_alaw.proofs.placed.Goals as goal

pub returns-clause-is : goal.returns-clause-is
unfolding lines
returns-clause-is c =
    let least : c.min-4.result ≡ lines c.args.n = omega arith in
    least ∙ sym (placed_lines c.args.n c.requires)
