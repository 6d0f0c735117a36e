-- The invariant is `Filling` at the place after the ratios and j sub-frames. After the fourth only the last byte is left.
use mathlib.Core.Path.{refl, sym}
use Prim.Native.Nat.{◌+◌}
use native.Mathlib.Omega.{arith}
use Rattle.standard.specs.Tables.{LARc_widths}
use Rattle.standard.specs.Frame.{sub_widths, widths}
use Rattle.frame_codewords.specs.Fitting.{sub_part}
use Rattle.packing.specs.Waiting.{moving_start}
use Rattle.packing.specs.Turns.{filling_at, pack_end}
use Rattle.packing.proofs.fill_bytes.Goals as goal

pub put_fields-waiting-requires : goal.put_fields-waiting-requires
unfolding widths LARc_widths
put_fields-waiting-requires c =
    let (l, m, f) = c.requires in
    let (n, (h, a)) = c.default.ensures in
    (l, f, refl, rw (n, h, a) (record { few = omega arith; room = m; moving = moving_start _ _ _ _ _ _ _ }))

pub loop-j-init : goal.loop-j-init
loop-j-init c = (omega arith, filling_at c.put_fields-waiting.ensures 0 (omega arith) (omega arith))

pub put_fields-waiting-requires-in-loop-j : goal.put_fields-waiting-requires-in-loop-j
unfolding sub_widths
put_fields-waiting-requires-in-loop-j c =
    let (l, m, f) = c.requires in
    (l, f, sym (sub_part c.loop-j.j (omega arith)), c.loop-j.invariant.1)

pub loop-j-preserved : goal.loop-j-preserved
loop-j-preserved c = (omega arith, filling_at c.put_fields-waiting-in-loop-j.ensures (c.loop-j.j + 1) (omega arith) (omega arith))

pub returns : goal.returns
returns c = let f = c.loop-j.invariant.1 in pack_end f.moving f.room (omega arith) f.few
