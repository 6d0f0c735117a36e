-- Number and state cross as they are, the ending and each mark by its number.
use Rattle.std.specs.Prelude.{◌≡◌, map, length}
use Rattle.std.proofs.Common.{sym, ap, ◌∙◌}
use Rattle.std.proofs.Math.ListN.{length-map, get_or-map}
use Rattle.std.proofs.lemmas.List.{ext_get_or}
use borrow.Author.Rules.{rules}
use Rattle.refusals.specs.Numbers.{number_of}
use Rattle.encoder.specs.Promise.{coder, mark, state, ending, marks}
use Rattle.encoder.specs.declared.Mark.TheVariants.{Rule}
use Rattle.boundary.specs.Promise.{ending_number, mark_number, encode_answer}
use Rattle.boundary.proofs.EncodeAnswerFromResultEncodedRefusedEncoder.from.Goals as goal

-- map calls `mark_number` at each mark, so what it gives are the numbers of the marks, one by one
pub returns-in-Ok : goal.returns-in-Ok
unfolding encode_answer number_of coder state ending marks
returns-in-Ok c =
    let ms = c.in-Ok.coded.marks in
    let gave = c.map.ensures.items in
    let four : length ms ≡ 4 = search rules in
    let size = gave.long ∙ sym (length-map (map mark ms) mark_number ∙ length-map ms mark ∙ four) in
    let zero = mark_number (mark Rule) in
    let same = ext_get_or zero c.map.result (map mark_number (map mark ms)) size
    (λ i l.
    let (_, _, called) = gave.at i Rule zero (rw gave.long at l) in
    called.met ∙ sym (get_or-map mark_number (map mark ms) i (mark Rule) ∙ ap mark_number (get_or-map mark ms i Rule)))
    in
    rw (c.in-Ok.is, c.ending_number.ensures, same)

pub returns-in-Err : goal.returns-in-Err
unfolding encode_answer number_of coder state ending marks ending_number mark_number
returns-in-Err c = rw (c.in-Err.is, c.into.ensures)
