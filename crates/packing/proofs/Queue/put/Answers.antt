-- One turn of pack: a codeword goes above the bits that wait (`pack_in`), and from eight bits on the lowest are a byte
-- (`pack_out`). At most 7 bits wait before it and a field has at most 7, so all fits.
use Prim.Native.Nat.{◌+◌, ◌≤◌}
use mathlib.Core.Path.{ap}
use native.Mathlib.Omega.{arith}
use lib.IntN.{pos, nat_abs}
use lib.ListN.{get_or, length-set}
use mir.Syntax.{w16}
use mir.Val.{SFits}
use borrow.Author.Rules.{rules}
use Rattle.math_integers.specs.Halves.{zar, know}
use Rattle.math_integers.specs.Ranges.{back}
use Rattle.frame_codewords.specs.Widths.{width_most}
use Rattle.packing.specs.Bits.{more_bits}
use Rattle.packing.specs.Turns.{Packing, limit_most, word_below, pack_room, pack_in, pack_out}
use Rattle.packing.proofs.Queue.put.Goals as goal
use Rattle.packing.proofs.Queue.put.Goals.{After-above-self}

pub overflow_cast-codewords : goal.overflow_cast-codewords
overflow_cast-codewords c =
    let s = c in
    let f : SFits w16 (get_or s.args.codewords.now s.args.i (pos 0)) = search rules in
    let z = word_below s.args.codewords.now s.args.i s.requires.0 s.requires.1 s.requires.2 in
    (omega (zar, know f), omega (zar, know f))

-- each of the three numbers has at most 7 bits
pub above-self-requires : goal.above-self-requires
above-self-requires c =
    let s = c in
    let f : SFits w16 (get_or s.args.codewords.now s.args.i (pos 0)) = search rules in
    let z = word_below s.args.codewords.now s.args.i s.requires.0 s.requires.1 s.requires.2 in
    let v = limit_most s.args.i in
    let m = s.requires.4 in
    let u = more_bits _ 7 _ m.moving.held (omega (arith, m.few)) in
    (omega (zar, know f), omega (arith, m.few, s.requires.3, width_most s.args.i), omega (zar, know f))

-- the codeword is put above the bits that wait
taken : (c : After-above-self)
    → let s = c.args in
    Packing s.codewords.now (s.i + 1) s.self.now.at (s.self.now.have + s.width) c.above-self.result s.bytes.now
taken c =
    let s = c in
    let f : SFits w16 (get_or s.args.codewords.now s.args.i (pos 0)) = search rules in
    pack_in s.requires.4.moving s.requires.0 s.requires.1 s.requires.2 s.requires.3 (ap nat_abs (back f)) c.above-self.ensures

-- at most 14 bits wait then
few : (c : After-above-self) → let s = c.args in s.self.now.have + s.width ≤ 14
few c = let s = c in omega (arith, s.requires.4.few, s.requires.3, width_most s.args.i)

pub returns-else-self-ge8 : goal.returns-else-self-ge8
returns-else-self-ge8 c =
    let a = (goal.at.returns-else-self-ge8 c).After-above-self in
    record { few = omega arith; room = a.requires.4.room; moving = taken a }

pub returns-then-self-ge8 : goal.returns-then-self-ge8
returns-then-self-ge8 c =
    let a = (goal.at.returns-then-self-ge8 c).After-above-self in
    let r = a.requires.4.room in
    record { few = omega (arith, few a); room = simp length-set r; moving = pack_out (taken a) r c.if-self-ge8.true }

pub overflow_add-self : goal.overflow_add-self
overflow_add-self c = omega (arith, few (goal.at.overflow_add-self c).After-above-self)

pub bounds-bytes-self : goal.bounds-bytes-self
bounds-bytes-self c =
    let a = (goal.at.bounds-bytes-self c).After-above-self in
    omega (arith, a.requires.4.room, pack_room (taken a))

pub overflow_add-self-then-self-ge8 : goal.overflow_add-self-then-self-ge8
overflow_add-self-then-self-ge8 c = omega (arith, pack_room (taken (goal.at.overflow_add-self-then-self-ge8 c).After-above-self))
