-- One turn of unpack: where the bits that wait are too few for the codeword, the next byte goes above them (`unpack_in`).
-- Either way enough wait then, and the lowest are the codeword (`unpack_out`).
use Prim.Native.Nat.{ℕ, ◌+◌, ◌%◌, ◌^◌, ◌≤◌, ◌<◌}
use lib.IntN.{ℤ}
use mathlib.Core.List.{List}
use mir.Syntax.{w16}
use mathlib.Core.Path.{◌≡◌, refl, ap, ◌∙◌}
use native.Mathlib.Nat.{mod-lt}
use native.Mathlib.Omega.{arith}
use lib.Pow.{pow_pos}
use lib.ListN.{length-set, get_or}
use Rattle.math_integers.specs.Halves.{zar}
use Rattle.math_integers.specs.Ranges.{back}
use Rattle.standard.specs.Frame.{widths}
use Rattle.frame_codewords.specs.Widths.{width_most}
use Rattle.packing.specs.Turns.{Reading, Unpacking, limit_most, unpack_room, unpack_in, unpack_out}
use Rattle.packing.proofs.Queue.take.Goals as goal
use Rattle.packing.proofs.Queue.take.Goals.{After-power-limit, then-self-width, else-self-width}

-- where the bits that wait are too few for the codeword, a byte is left to read
left : {b : List ℕ} {o : List ℤ} {at i have n width : ℕ} → Reading b at i have n o → i < 76 → width ≡ get_or widths i 0
    → have < width → at < 33
left m p e l = unpack_room m.moving p (rw e at l)

-- either way enough bits wait
record Enough (b : List ℕ) (o : List ℤ) (i width waiting have at : ℕ) : Type 0 where
  wait : Unpacking b at i have waiting o
  read : at ≤ 33
  most : have < width + 8
  least : width ≤ have

enough : (c : After-power-limit)
    → let s = c.args in
    let f = c.if-self-width.self in
    Enough s.bytes.now s.codewords.now s.i s.width f.waiting f.have f.at
enough c =
    let s = c.args in
    let (l, p, e, m) = c.requires in
    let t = width_most s.i in
    let y = (c.type_inv.bytes s.self.now.at).fits in
    elim c.if-self-width.branch [
      | then-self-width w ↦
          let n = left m p e w.if-self-width.true in
          rw w.self-is
          (record {
            wait = unpack_in m.moving l n refl y w.above-self.ensures;
            read = omega (arith, n);
            most = omega (arith, w.if-self-width.true);
            least = omega (arith, e, t);
          })
      | else-self-width w ↦
          rw w.self-is
          (record { wait = m.moving; read = m.read; most = omega (arith, m.few); least = w.if-self-width.false })
    ]

-- the codeword's limit is above 0
limit-above : (c : After-power-limit) → 0 < c.power-limit.result
limit-above c = rw c.power-limit.ensures (pow_pos c.args.width)

-- and its codeword fits a word
word-fits : (c : After-power-limit) → ◌<◌ (c.if-self-width.self.waiting % c.power-limit.result) 32768
word-fits c =
    let p = c.power-limit.ensures ∙ ap (λ (n : ℕ). 2 ^ n) c.requires.2 in
    omega (zar, mod-lt c.if-self-width.self.waiting (limit-above c), limit_most c.args.i)

pub overflow_cast-codewords : goal.overflow_cast-codewords
overflow_cast-codewords c = omega (zar, word-fits (goal.at.overflow_cast-codewords c).After-power-limit)

pub returns : goal.returns
returns c =
    let e = enough (goal.at.returns c).After-power-limit in
    let s = c in
    let m = s.requires.3 in
    record {
      few = omega (arith, e.most, e.least);
      read = e.read;
      room = simp length-set m.room;
      moving =
          unpack_out e.wait m.room s.requires.1 s.requires.2 e.least c.power-limit.ensures
          (back {w = w16} (omega (zar, word-fits (goal.at.returns c).After-power-limit)));
    }

pub bounds-bytes-self : goal.bounds-bytes-self
bounds-bytes-self c = omega (arith, c.requires.0, left c.requires.3 c.requires.1 c.requires.2 c.if-self-width.true)

pub power-limit-requires : goal.power-limit-requires
power-limit-requires c = let s = c in omega (arith, s.requires.2, width_most s.args.i)

pub overflow_sub-self : goal.overflow_sub-self
overflow_sub-self c = (enough (goal.at.overflow_sub-self c).After-power-limit).least
