-- After i fields the queue and the codewords are those before `from` + i.
use native.Mathlib.Omega.{arith}
use Rattle.packing.specs.Turns.{field_at}
use Rattle.packing.proofs.take_fields.Goals as goal

pub take-requires : goal.take-requires
take-requires c =
    let t = field_at c.args.bits.now c.args.from c.loop-i.i c.requires.1 c.loop-i-test.true in
    (c.requires.0, t.0, t.1, c.loop-i.invariant.1)

pub overflow_add-from : goal.overflow_add-from
overflow_add-from c = omega (arith, field_at c.args.bits.now c.args.from c.loop-i.i c.requires.1 c.loop-i-test.true)
