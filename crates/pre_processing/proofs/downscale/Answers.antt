-- The two shifts of the code are the definition's shifts: `>>` rounds down, `<<` keeps the low 16 bits.
use mir.Syntax.{w16}
use lib.Signed.{shr_z}
use Rattle.math_integers.specs.Ranges.{back, shr_fits}
use Rattle.law_arithmetic.specs.Shift.{up_bits}
use Rattle.pre_processing.proofs.downscale.Goals as goal

pub returns : goal.returns
returns c = rw (back c.ranges.sop) (up_bits w16 (shr_z c.args.sop 8) 2 (shr_fits 8 c.ranges.sop))
