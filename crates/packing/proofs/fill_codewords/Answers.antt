-- The invariant is `Reading` at the place after the ratios and j sub-frames. After the fourth nothing is left.
use mathlib.Core.Path.{refl, sym}
use Prim.Native.Nat.{◌+◌}
use native.Mathlib.Omega.{arith}
use Rattle.standard.specs.Tables.{LARc_widths}
use Rattle.standard.specs.Frame.{sub_widths, widths}
use Rattle.frame_codewords.specs.Fitting.{sub_front, sub_back}
use Rattle.packing.specs.Waiting.{moving_start}
use Rattle.packing.specs.Turns.{reading_at, unpack_end}
use Rattle.packing.proofs.fill_codewords.Goals as goal

pub take_fields-waiting-requires : goal.take_fields-waiting-requires
unfolding widths LARc_widths
take_fields-waiting-requires c =
    let (l, m) = c.requires in
    let (n, (h, a)) = c.default.ensures in
    (l, refl, rw (n, h, a) (record { few = omega arith; read = omega arith; room = m; moving = moving_start _ _ _ _ _ _ _ }))

pub loop-j-init : goal.loop-j-init
loop-j-init c = (omega arith, reading_at c.take_fields-waiting.ensures 0 (omega arith) (omega arith))

pub take_fields-q-requires : goal.take_fields-q-requires
unfolding sub_widths
take_fields-q-requires c = (c.requires.0, sym (sub_front c.loop-j.j (omega arith)), c.loop-j.invariant.1)

pub take_fields-waiting-requires-in-loop-j : goal.take_fields-waiting-requires-in-loop-j
unfolding sub_widths
take_fields-waiting-requires-in-loop-j c = (c.requires.0, sym (sub_back c.loop-j.j (omega arith)), c.take_fields-q.ensures)

pub loop-j-preserved : goal.loop-j-preserved
loop-j-preserved c = (omega arith, reading_at c.take_fields-waiting-in-loop-j.ensures (c.loop-j.j + 1) (omega arith) (omega arith))

pub returns : goal.returns
returns c = let f = c.loop-j.invariant.1 in unpack_end f.moving c.requires.0 f.room (omega arith)
