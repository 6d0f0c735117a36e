-- After i fields the queue and the bytes are those of the codewords before `from` + i.
use native.Mathlib.Omega.{arith}
use Rattle.packing.specs.Turns.{field_at}
use Rattle.packing.proofs.put_fields.Goals as goal

pub put-requires : goal.put-requires
put-requires c =
    let t = field_at c.args.bits.now c.args.from c.loop-i.i c.requires.2 c.loop-i-test.true in
    (c.requires.0, c.requires.1, t.0, t.1, c.loop-i.invariant.1)

pub overflow_add-from : goal.overflow_add-from
overflow_add-from c = omega (arith, field_at c.args.bits.now c.args.from c.loop-i.i c.requires.2 c.loop-i-test.true)
