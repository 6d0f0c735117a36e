-- A shift left by 16 and a shift right by 16 keep the low 16 bits, as a word with its sign (`low_word`). So the cast is exact.
use Prim.Native.Nat.{◌*◌, ◌%◌}
use mathlib.Core.Path.{◌≡◌, ap, subst⁻¹, ◌∙◌}
use lib.IntN.{ℤ}
use mir.Syntax.{w16, w32}
use mir.Val.{SFits, of_z, to_z}
use Rattle.math_integers.specs.Halves.{mem}
use Rattle.math_integers.specs.Ranges.{wide, back}
use Rattle.standard.specs.Arithmetic.{◌>>◌, keep}
use Rattle.law_arithmetic.specs.Shift.{up_bits, keep_fits, low_word}
use Rattle.test_longs.proofs.low_word.Goals as goal
use Rattle.test_longs.proofs.low_word.Goals.{Start}

there_and_back : (c : Start) → mem w32 (to_z w32 ((of_z w32 c.args.a * 65536) % 4294967296) >> 16) ≡ keep w16 c.args.a
there_and_back c =
    let a = c.args.a in
    ap (λ (x : ℤ). mem w32 (x >> 16)) (up_bits w32 a 16 c.ranges.a)
    ∙ (ap (mem w32) (low_word a) ∙ back {w = w32} (wide (keep_fits w16 a) tt))

pub returns : goal.returns
returns c = ap (mem w16) (there_and_back c) ∙ back (keep_fits w16 c.args.a)

pub overflow_cast-result : goal.overflow_cast-result
overflow_cast-result c = subst⁻¹ (SFits w16) (there_and_back c) (keep_fits w16 c.args.a)
