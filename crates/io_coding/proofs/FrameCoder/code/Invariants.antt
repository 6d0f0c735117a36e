-- Turn i takes frame i and puts what it gives behind what the frames before it gave. The invariant is `Through`: the coder and the
-- bytes are those of the first i frames. Of the coder this is known where nothing is promised of the bytes, too. Each frame takes one
-- of those that the coder may still be given.
use Rattle.std.proofs.Common.{◌≡◌, ◌+◌, ◌*◌, ◌≤◌, length}
use Rattle.io_streams.specs.Frames.{through, Through}
use Rattle.io_coding.proofs.FrameCoder.code.Given as goal

abbrev pub invariant-loop-i : goal.invariant-loop-i
invariant-loop-i g l =
    let C = g.Self.FrameCoder in
    record {
      within : l.i ≤ l.frames;
      limit : C.limit l.initial.self ≤ C.limit l.self + l.i;
      room : length l.out ≡ length l.initial.out;
      end : l.end ≤ C.BYTES_OUT * l.i;
      state : C.state l.self ≡ (through C.step C.BYTES_IN (C.state l.initial.self) l.i l.bytes).0;
      codes : C.is_told → Through C.step C.BYTES_IN (C.state l.initial.self) l.i l.bytes l.initial.out (C.state l.self) l.end l.out;
    }
