-- Turn i stores word i: the bytes at 2 * i and 2 * i + 1 stand for it.
use Rattle.std.proofs.Common.{◌≡◌, ◌+◌, ◌*◌, sym, ap, ◌∙◌, arith, get_or, pos, length-set}
use Rattle.std.specs.Int.{w16}
use mir.Val.{SFits, to_z}
use Rattle.math_integers.specs.Ranges.{back}
use Rattle.math_lists.specs.Fill.{fill_next, fill_end}
use Rattle.law_lengths.specs.Listing.{file_words_length}
use Rattle.standard.specs.Files.{file_words}
use Rattle.io_files.specs.Words.{word_at}
use Rattle.io_files.proofs.from_bytes.Goals as goal

pub loop-i-preserved : goal.loop-i-preserved
loop-i-preserved c =
    let b = c.args.bytes.now in
    let i = c.loop-i.i in
    let low = get_or b (2 * i) 0 in
    let high = get_or b (2 * i + 1) 0 in
    let read : c.from_le_bytes.result ≡ to_z w16 (low + 256 * high) = c.from_le_bytes.ensures ∙ ap (to_z w16) (omega arith) in
    let fits : SFits w16 c.from_le_bytes.result = record { sfits = c.from_le_bytes.type_inv } in
    let own = back fits ∙ (read ∙ sym (word_at b i (omega arith))) in (
      omega arith,
      simp length-set c.loop-i.invariant.1,
      fill_next (file_words b) c.args.words.now i c.loop-i.invariant.2 (pos 0) (omega (arith, file_words_length b)) (omega arith) own,
    )

pub returns : goal.returns
returns c =
    let b = c.args.bytes.now in
    fill_end (file_words b) c.args.words.now c.loop-i.i c.loop-i.invariant.2 (omega (arith, file_words_length b)) (omega arith)
