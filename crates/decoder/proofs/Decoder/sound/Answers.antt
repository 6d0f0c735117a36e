-- nrp is a word, so the test is that of the definition.
use mathlib.Core.Path.{ap, ◌∙◌}
use borrow.Author.Rules.{rules}
use mir.Syntax.{w16}
use mir.Val.{SFits}
use Rattle.math_integers.specs.Ranges.{back}
use Rattle.standard.specs.LongTerm.{is_lag}
use Rattle.standard.specs.House.{sound_decoder}
use Rattle.decoder.specs.Promise.{memory}
use Rattle.decoder.proofs.Decoder.sound.Goals as goal

pub returns : goal.returns
unfolding memory sound_decoder
returns c = let f : SFits w16 c.args.self.nrp = search rules in c.is_lag.ensures ∙ ap is_lag (back f)
