-- The sum with 65536 is positive and fits, and its remainder modulo 2^width is that of the codeword (`word_raised`).
use Prim.Native.Nat.{◌*◌, ◌%◌, ◌^◌}
use mathlib.Core.Path.{◌≡◌, sym, ap, ◌∙◌}
use lib.IntN.{pos, ◌+ℤ◌, nat_abs}
use lib.Pow.{pow_pos}
use mir.Syntax.{w16, w32}
use mir.Val.{to_z}
use mir.Facts.{to_z_pos}
use Rattle.math_integers.specs.Halves.{zar, know, mem, apart, abs_is}
use Rattle.math_integers.specs.Sums.{add_is}
use Rattle.math_integers.specs.Ranges.{zfits, back}
use Rattle.standard.specs.Arithmetic.{modulo}
use Rattle.frame_codewords.specs.Bits.{power, word_raised, low_below}
use Rattle.frame_codewords.proofs.low_bits.Goals as goal
use Rattle.frame_codewords.proofs.low_bits.Goals.{Start}

pub overflow_cast-result : goal.overflow_cast-result
overflow_cast-result c = search zfits

pub overflow_add-result : goal.overflow_add-result
overflow_add-result c = rw (back (overflow_cast-result c), back c.ranges.c) (omega (zar, know c.ranges.c, add_is c.args.c (pos 65536)))

-- what the locals give back of the sum
raised : (c : Start) → mem w32 (mem w32 (mem w16 c.args.c) +ℤ pos 65536) ≡ c.args.c +ℤ pos 65536
raised c = back (overflow_add-result c) ∙ rw (back (overflow_cast-result c), back c.ranges.c)

pub overflow_cast-result-2 : goal.overflow_cast-result-2
overflow_cast-result-2 c =
    let y = c.args.c +ℤ pos 65536 in
    rw (raised c) (omega (zar, know c.ranges.c, add_is c.args.c (pos 65536), apart y, abs_is y))

-- and of its remainder
kept : (c : Start)
    → nat_abs (mem w32 (mem w32 (mem w16 c.args.c) +ℤ pos 65536)) % (1 * 2 ^ c.args.width % 4294967296)
    ≡ modulo c.args.c (2 ^ c.args.width)
kept c = rw (raised c, power c.args.width c.requires) (sym (word_raised c.args.c c.args.width c.requires c.ranges.c))

pub returns : goal.returns
returns c = ap (to_z w16) (kept c) ∙ to_z_pos w16 (low_below c.args.c c.args.width c.requires)

pub nonzero_rem-result : goal.nonzero_rem-result
nonzero_rem-result c = rw (power c.args.width c.requires) (pow_pos c.args.width)

pub overflow_cast-result-4 : goal.overflow_cast-result-4
overflow_cast-result-4 c = rw (kept c) (omega (zar, low_below c.args.c c.args.width c.requires))
