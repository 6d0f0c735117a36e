-- The text is put in front of an array of zeros, and what is behind it is zeros still.
use Rattle.std.specs.Prelude.{◌≤◌, ◌≡◌, length}
use borrow.Author.Rules.{rules}
use Rattle.list_text.specs.Kept.{put_front}
use Rattle.list_text.proofs.Lines.of.Goals as goal

pub invariant_of-result : goal.invariant_of-result
invariant_of-result c =
    let size : length c.copy_from_slice.new.self ≡ c.len-len.result = search rules in
    let few : c.len-len.result ≤ 1024 = search rules in
    let (all, behind) = put_front c.len-len.result c.copy_from_slice.new.self size few in
    (few, all, behind)
