-- Turn i stores the two bytes of word i. The invariant says that the first 2 * i bytes are those of the file.
use Rattle.std.proofs.Common.{◌≡◌, ◌*◌, ◌≤◌, length}
use Rattle.math_lists.specs.Fill.{filled}
use Rattle.standard.specs.Files.{file_bytes}
use Rattle.io_files.proofs.to_bytes.Given as goal

abbrev pub invariant-loop-i : goal.invariant-loop-i
invariant-loop-i l =
    (l.i ≤ length l.words) × (length l.bytes ≡ length l.initial.bytes) × (l.bytes ≡ filled (2 * l.i) (file_bytes l.words) l.initial.bytes)
