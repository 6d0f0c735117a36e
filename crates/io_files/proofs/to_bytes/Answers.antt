-- Turn i stores the two bytes of word i, the low one first. Its 16 bits are the number that the standard's bytes are taken from.
use Rattle.std.proofs.Common.{◌≡◌, ◌+◌, ◌*◌, sym, ap, ◌∙◌, rules, arith, get_or, pos, length-set}
use Rattle.std.specs.Int.{w16}
use mir.Val.{SFits, to_z, of_z}
use Rattle.math_integers.specs.Ranges.{back}
use Rattle.math_lists.specs.Fill.{fill_next, fill_end}
use Rattle.law_arithmetic.specs.Shift.{modulo_below}
use Rattle.standard.specs.Arithmetic.{modulo}
use Rattle.standard.specs.Files.{file_bytes}
use Rattle.io_files.specs.Words.{file_bytes_length, bytes_at, modulo_bits}
use Rattle.io_files.proofs.to_bytes.Goals as goal

pub loop-i-preserved : goal.loop-i-preserved
loop-i-preserved c =
    let words = c.args.words.now in
    let lent = c.args.bytes.now in
    let i = c.loop-i.i in
    let w = get_or words i (pos 0) in
    let fits : SFits w16 w = search rules in
    let bits : of_z w16 (to_z w16 (of_z w16 w)) ≡ modulo w 65536 = ap (of_z w16) (back fits) ∙ sym (modulo_bits fits) in
    let (p, q) = bytes_at words i (omega arith) in
    let low : get_or c.to_le_bytes.result 0 0 ≡ get_or (file_bytes words) (2 * i) 0 = rw (c.to_le_bytes.ensures, bits) (sym p) in
    let high : get_or c.to_le_bytes.result 1 0 ≡ get_or (file_bytes words) (2 * i + 1) 0 =
    rw (c.to_le_bytes.ensures, bits) (omega (arith, q, modulo_below w {m = 65536} (omega arith))) in
    let n = file_bytes_length words in
    let half = fill_next (file_bytes words) lent (2 * i) c.loop-i.invariant.2 0 (omega arith) (omega arith) low in
    let e : 2 * (i + 1) ≡ 2 * i + 1 + 1 = omega arith in (
      omega arith,
      simp length-set c.loop-i.invariant.1,
      rw e (fill_next (file_bytes words) lent (2 * i + 1) half 0 (omega arith) (omega arith) high),
    )

pub returns : goal.returns
returns c =
    let words = c.args.words.now in
    fill_end (file_bytes words) c.args.bytes.now (2 * c.loop-i.i) c.loop-i.invariant.2 (omega (arith, file_bytes_length words))
    (omega arith)
