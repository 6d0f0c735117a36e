-- z1 and L_z2 of the state are words, so the struct that is passed has them, and the test of `pre_processing` is the definition's.
use mathlib.Core.Path.{◌≡◌}
use mir.Syntax.{w16, w32}
use mir.Val.{SFits}
use borrow.Author.Rules.{rules}
use Rattle.math_integers.specs.Halves.{mem}
use Rattle.math_integers.specs.Ranges.{back}
use Rattle.standard.specs.House.{sound_coder}
use Rattle.law_soundness.specs.Offset.{sound_offset}
use Rattle.pre_processing.specs.Promise.{kept}
use Rattle.encoder.specs.Promise.{coder}
use Rattle.encoder.proofs.Encoder.sound.Goals as goal

pub returns : goal.returns
unfolding coder sound_coder kept
returns c =
    let e = c.args.self in
    let z1_fits : SFits w16 e.z1 = search rules in
    let l_z2_fits : SFits w32 e.l_z2 = search rules in
    let given : c.sound.result ≡ sound_offset (record { z1 = mem w16 e.z1; L_z2 = mem w32 e.l_z2 }) = c.sound.ensures in
    rw (back z1_fits, back l_z2_fits) at given
