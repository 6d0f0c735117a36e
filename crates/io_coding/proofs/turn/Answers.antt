-- The whole frames that have come are within the bytes, and what they give is within the buffer for it. Once they are coded, the
-- bytes behind them are kept: the parts of `Turned`.
use Rattle.std.proofs.Common.{rules, ℕ, arith, ◌*◌, ◌/◌, ◌≤◌, ◌<◌, min, length, mul-le-mul_left, mul_comm}
use Rattle.std.proofs.Math.Nat.{mul-div-le}
use Rattle.std.proofs.lemmas.Nat.{le-div}
use Rattle.io_coding.specs.Turn.{front}
use Rattle.io_coding.proofs.turn.Goals as goal

-- as many frames as there are whole ones, or fewer, have no more bytes than there are
within : (size count most : ℕ) → size * min (count / size) most ≤ count
within size count most =
    let fewer : min (count / size) most ≤ count / size = omega arith in
    omega (arith, mul-le-mul_left size fewer, mul-div-le count size)

-- so a buffer has room for them, which has room for the frames that the other one may hold
room : (size other count most all out : ℕ) → 0 < size → count ≤ all → other * (all / size) ≤ out → other * min (count / size) most ≤ out
room size other count most all out some fits h =
    let few : min (count / size) most ≤ all / size = le-div _ all size some
    (omega (arith, within size count most, mul_comm size (min (count / size) most))) in
    omega (arith, mul-le-mul_left other few)

pub code-end-requires-clause-room : goal.code-end-requires-clause-room
code-end-requires-clause-room g c =
    let C = g.C.FrameCoder in
    let count = c.in_ok-count.count in
    let fits = c.in_ok-count.ensures.gathered.room in
    rw (c.frames-frames.ensures, c.BYTES_IN.ensures) (
      omega (arith, within C.BYTES_IN count c.left.result),
      room C.BYTES_IN C.BYTES_OUT count c.left.result (length c.args.room.now) (length c.args.out.now) g.met.C.FrameCoder.some_bytes
          (omega arith) (omega arith),
    )

pub returns-clause-turned : goal.returns-clause-turned
returns-clause-turned g c =
    record {
      read = c.gather.new.room;
      count = c.in_ok-count.count;
      more = search rules;
      held = omega (arith, c.in_ok-count.ensures.gathered.room);
      stands = search rules;
      frames = c.frames-frames.result;
      whole = search rules;
      some = search rules;
      end = c.code-end.result;
      goes = search rules;
      gives = search rules;
      remain = search rules;
      stay = rw (c.BYTES_IN-2.ensures) at
          (front _ _ _ _ _ c.in_ok-count.ensures.gathered.room c.keep-rest.ensures.is c.keep-rest.ensures.moved);
    }
