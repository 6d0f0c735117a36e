-- The doubling is `add`, which saturates; the two shifts clear the low 3 bits.
use mir.Syntax.{w16}
use Rattle.math_integers.specs.Ranges.{back, res, shr_fits}
use Rattle.standard.specs.Arithmetic.{◌>>◌, add}
use Rattle.standard.specs.Frame.{sample}
use Rattle.standard.specs.Decoder.{srop}
use Rattle.law_arithmetic.specs.Clip.{plus_fits}
use Rattle.law_arithmetic.specs.Shift.{up_bits}
use Rattle.short_synthesis.proofs.upscaled.Goals as goal

pub returns : goal.returns
unfolding srop sample
returns c =
    let x = c.args.sro in
    let e = rw (back c.ranges.sro) at c.add.ensures in
    rw (res c.add, e) (up_bits w16 (add x x >> 3) 3 (shr_fits 8 (plus_fits w16 x x)))
