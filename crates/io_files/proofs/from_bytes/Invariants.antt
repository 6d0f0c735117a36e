-- Turn i stores word i. The invariant says that the first i words are those of the file, and the rest is as it was.
use Rattle.std.proofs.Common.{◌≡◌, ◌≤◌, length}
use Rattle.math_lists.specs.Fill.{filled}
use Rattle.standard.specs.Files.{file_words}
use Rattle.io_files.proofs.from_bytes.Given as goal

abbrev pub invariant-loop-i : goal.invariant-loop-i
invariant-loop-i l =
    (l.i ≤ length l.initial.words) × (length l.words ≡ length l.initial.words) × (l.words ≡ filled l.i (file_words l.bytes) l.initial.words)
