-- Each product and sum fits 32 bits, and the two products together are the product of the whole L_z2 (`parts_decay`).
use Prim.Native.Nat.{◌*◌, ◌%◌}
use mathlib.Core.Path.{◌≡◌, ◌∙◌}
use lib.IntN.{ℤ, pos, ◌-ℤ◌, ◌*ℤ◌}
use mir.Syntax.{w16, w32}
use mir.Val.{SFits, of_z, to_z}
use Rattle.math_integers.specs.Halves.{mem, abs_is, zar, know}
use Rattle.math_integers.specs.Sums.{scale_is}
use Rattle.math_integers.specs.Ranges.{zfits, back, wide}
use Rattle.standard.specs.Arithmetic.{◌>>◌}
use Rattle.law_arithmetic.specs.Shift.{up_bits, down_bits, keep_plain}
use Rattle.pre_processing.specs.Parts.{msp, lsp, msp_in, msp_word, lsp_word, parts_decay, high_fits, all_fits, low_fits}
use Rattle.pre_processing.proofs.recursive.Goals as goal
use Rattle.pre_processing.proofs.recursive.Goals.{Start}

-- the machine's left shift of a word by 15 is the product with 32768
raised : (z : ℤ) → SFits w16 z → to_z w32 ((of_z w32 z * 32768) % 4294967296) ≡ z *ℤ pos 32768
raised z f = up_bits w32 z 15 (wide f tt) ∙ keep_plain (omega (zar, know f, scale_is z 32768))

-- s1 and the high part are words
s1-word : (c : Start) → SFits w16 c.args.s1
s1-word c = omega (zar, abs_is c.args.s1, c.requires.1)

high : (c : Start) → SFits w16 (msp c.args.l_z2)
high c = msp_word c.args.l_z2 c.requires.0

pub overflow_sub-lsp : goal.overflow_sub-lsp
overflow_sub-lsp c = rw (back c.ranges.l_z2, raised (msp c.args.l_z2) (high c)) (wide (lsp_word c.args.l_z2) tt)

-- the low part, as the code computes it
lsp-is : (c : Start) → let x = mem w32 c.args.l_z2 in
    mem w32 (x -ℤ to_z w32 ((of_z w32 (x >> 15) * 32768) % 4294967296)) ≡ lsp c.args.l_z2
lsp-is c = rw (back (overflow_sub-lsp c), back c.ranges.l_z2, raised (msp c.args.l_z2) (high c))

pub overflow_mul-result : goal.overflow_mul-result
overflow_mul-result c = let f = high c in search zfits

pub overflow_add-result : goal.overflow_add-result
overflow_add-result c =
    let x = c.args.l_z2 in
    rw (raised c.args.s1 (s1-word c), back (overflow_mul-result c), down_bits w32 x 15 c.ranges.l_z2)
    (high_fits c.args.s1 (msp x) c.requires.1 (msp_in x c.requires.0) _ tt)

pub overflow_mul-result-2 : goal.overflow_mul-result-2
overflow_mul-result-2 c =
    let f = lsp_word c.args.l_z2 in
    rw (lsp-is c) (search zfits)

pub overflow_add-result-2 : goal.overflow_add-result-2
overflow_add-result-2 c =
    let f = lsp_word c.args.l_z2 in
    rw (back (overflow_mul-result-2 c), lsp-is c) (search zfits)

pub overflow_add-result-3 : goal.overflow_add-result-3
overflow_add-result-3 c =
    let x = c.args.l_z2 in
    rw (back (overflow_add-result c), raised c.args.s1 (s1-word c), back (overflow_mul-result c), down_bits w32 x 15 c.ranges.l_z2)
    (rw (down_bits w32 _ 15 (overflow_add-result-2 c), back (overflow_mul-result-2 c), lsp-is c)
    (all_fits c.args.s1 (msp x) c.requires.1 (msp_in x c.requires.0) _ tt _ (low_fits (lsp x) _ _ (lsp_word x) tt tt)))

pub returns : goal.returns
returns c =
    let x = c.args.l_z2 in
    let high = down_bits w32 x 15 c.ranges.l_z2 in
    rw (back (overflow_add-result-3 c), back (overflow_add-result c), raised c.args.s1 (s1-word c), back (overflow_mul-result c), high)
    (rw (down_bits w32 _ 15 (overflow_add-result-2 c), back (overflow_mul-result-2 c), lsp-is c) (parts_decay x c.args.s1))
