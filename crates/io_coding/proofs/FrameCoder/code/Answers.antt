-- Turn i takes frame i and puts what it gives behind what the frames before it gave: the laws of `Through`. What a frame gives is
-- put at the front of the part of the buffer that begins where the others end.
use Rattle.std.proofs.Common.{refl, rules, arith, [], ◌≤◌, ◌+◌, ◌-◌, length, mul-suc, mul-le-mul_left}
use Rattle.io_streams.specs.Frames.{through_none, through_goes, through_next, puts_part}
use Rattle.io_coding.proofs.FrameCoder.code.Goals as goal

pub loop-i-init : goal.loop-i-init
loop-i-init g c =
    let C = g.Self.FrameCoder in
    record {
      within = omega arith;
      limit = omega arith;
      room = refl;
      end = omega arith;
      state = (through_none C.step C.BYTES_IN _ _ []).state;
      codes =
          λ told. through_none C.step C.BYTES_IN _ _ _;
    }

pub loop-i-preserved : goal.loop-i-preserved
loop-i-preserved g c =
    let C = g.Self.FrameCoder in
    let held = c.loop-i.invariant in
    let frame = c.frame-end.ensures in
    let more = mul-le-mul_left C.BYTES_OUT c.loop-i-test.true in
    let part = c.loop-i.end + c.BYTES_OUT.result - c.loop-i.end in
    let goes = rw (c.BYTES_IN.ensures, c.BYTES_IN-in-loop-i.ensures) at frame.state in
    let fits : c.loop-i.end + part ≤ length c.loop-i.out = omega (arith, c.BYTES_OUT.ensures, mul-suc C.BYTES_OUT c.loop-i.i) in
    record {
      within = omega arith;
      limit = omega arith;
      room = search rules;
      end = omega (arith, mul-suc C.BYTES_OUT c.loop-i.i);
      state = through_goes C.step C.BYTES_IN _ _ _ held.state goes;
      codes = λ told. through_next C.step C.BYTES_IN (held.codes told) (omega arith) goes
          (puts_part c.loop-i.end part fits (omega (arith, c.BYTES_OUT.ensures))
          (rw (c.BYTES_IN.ensures, c.BYTES_IN-in-loop-i.ensures) at frame.bytes told));
    }
