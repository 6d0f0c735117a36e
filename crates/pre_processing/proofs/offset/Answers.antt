-- Iteration k makes one step of the filter. The state stays sound, and this keeps each sum within 32 bits.
use Rattle.std.specs.Prelude.{◌≡◌, true, ℤ, pos, ◌+ℤ◌, ◌-ℤ◌, ◌*ℤ◌}
use Rattle.std.specs.Int.Signed.{shr_z}
use Rattle.std.specs.Int.{w16, w32}
use Rattle.std.proofs.Common.{sym, ap, ◌∙◌, arith, rules, to_z-of_z}
use mir.Val.{SFits, to_z}
use Rattle.math_integers.specs.Halves.{mem, zar, abs_is}
use Rattle.math_integers.specs.Ranges.{back}
use Rattle.math_lists.specs.Scan.{along_start, along_next, along_end}
use Rattle.standard.specs.Preprocessing as standard
use Rattle.standard.specs.Preprocessing.{downscaled, offset}
use Rattle.standard.specs.Arithmetic.{up, ◌>>◌, ◌<<◌}
use Rattle.standard.specs.Tables.{◌at◌}
use Rattle.law_lengths.specs.Analysis.{downscaled_length}
use Rattle.law_soundness.specs.Ranges.{so_range}
use Rattle.law_soundness.specs.Decay.{decayed}
use Rattle.law_soundness.specs.Offset.{sound_offset, downscaled_in, L_z2_in, offset_L_z2, offset_sound}
use Rattle.pre_processing.specs.Promise.{kept}
use Rattle.pre_processing.specs.Turn.{downscaled_at, s1_in, turn_is}
use Rattle.pre_processing.proofs.offset.Goals as goal

pub loop-k-init : goal.loop-k-init
unfolding kept
loop-k-init c =
    let f : SFits w16 c.args.m.z1 = search rules in
    let g : SFits w32 c.args.m.l_z2 = search rules in
    rw (back f, back g) (along_start offset _ _ _, c.requires.1)

-- so of a sample x, and what a sound state m makes of it
module _ (m : standard.Offset) (h : sound_offset m ≡ true) (x so : ℤ) (f : SFits w16 x) (e : so ≡ up w16 (shr_z (mem w16 x) 8) 2) where
  so_is : so ≡ (x >> 3) << 2
  so_is = rw (back f) at e

  so_in : so_range so ≡ true
  so_in = rw so_is (downscaled_in x f)

  s1_fits : SFits w32 (so -ℤ m.z1)
  s1_fits = omega (zar, s1_in m so h so_in, abs_is (so -ℤ m.z1))

pub recursive-l_z2-requires : goal.recursive-l_z2-requires
recursive-l_z2-requires c =
    let l = c.loop-k in
    let m : standard.Offset = record { z1 = to_z w16 l.z1-bits; L_z2 = to_z w32 l.l_z2-bits } in
    let h = l.invariant.1 in
    let x = c.args.sop.now at l.k in
    let so = c.downscale-so.result in
    let f : SFits w16 x = search rules in
    let d = s1_fits m h x so f c.downscale-so.ensures in
    let s : mem w32 (mem w32 c.from.result -ℤ mem w32 c.from-in-loop-k.result) ≡ so -ℤ m.z1 = grind (arith, to_z-of_z) in
    (L_z2_in m h, rw s (s1_in m so h (so_in m h x so f c.downscale-so.ensures)))

pub rounded-requires : goal.rounded-requires
rounded-requires c =
    let l = c.loop-k in
    let m : standard.Offset = record { z1 = to_z w16 l.z1-bits; L_z2 = to_z w32 l.l_z2-bits } in
    let h = l.invariant.1 in
    let x = c.args.sop.now at l.k in
    let so = c.downscale-so.result in
    let f : SFits w16 x = search rules in
    let i = so_in m h x so f c.downscale-so.ensures in
    let d = s1_fits m h x so f c.downscale-so.ensures in
    let e = offset_L_z2 m so h i in
    let r : mem w32 c.recursive-l_z2.result ≡ (offset m so).0.L_z2 = grind (arith, to_z-of_z) in
    rw r (L_z2_in (offset m so).0 (offset_sound m so h i))

pub loop-k-preserved : goal.loop-k-preserved
loop-k-preserved c =
    let l = c.loop-k in
    let m : standard.Offset = record { z1 = to_z w16 l.z1-bits; L_z2 = to_z w32 l.l_z2-bits } in
    let h = l.invariant.1 in
    let sop = c.args.sop.now in
    let x = sop at l.k in
    let so = c.downscale-so.result in
    let f : SFits w16 x = search rules in
    let i = so_in m h x so f c.downscale-so.ensures in
    let d = s1_fits m h x so f c.downscale-so.ensures in
    let next : standard.Offset = record { z1 = mem w16 so; L_z2 = mem w32 c.recursive-l_z2.result } in
    let r : next.L_z2 ≡ pos 32768 *ℤ (so -ℤ m.z1) +ℤ decayed m.L_z2 = grind (arith, to_z-of_z) in
    let step = turn_is m so h i next (mem w16 c.rounded.result) (grind (arith, to_z-of_z)) r (grind (arith, to_z-of_z)) in
    let read = so_is m h x so f c.downscale-so.ensures ∙ sym (downscaled_at sop l.k (omega arith)) in (
      along_next offset _ _ (pos 0) l.invariant.0 (rw downscaled_length (omega arith)) (omega arith) read
          (ap (λ p. p.0) step) (ap (λ p. p.1) step),
      ap (λ p. sound_offset p.0) step ∙ offset_sound m so h i,
    )

pub returns : goal.returns
unfolding kept
returns c =
    let l = c.loop-k in
    let both = along_end offset _ _ l.invariant.0 (rw downscaled_length (omega arith)) (omega arith) in
    record { state = both.0; samples = both.1 }
