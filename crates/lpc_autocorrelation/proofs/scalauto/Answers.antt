-- Two cases: silence gives 0; otherwise the largest size is above 0, and 4 less its norm is the scale.
use Rattle.std.specs.Prelude.{◌≡◌, ◌*◌, ◌%◌, true, List, ℤ, pos, ◌*ℤ◌}
use Rattle.std.specs.Int.Signed.{lt_z}
use Rattle.std.specs.Int.{w16, w32}
use Rattle.std.proofs.Common.{sym, ◌∙◌, arith, rules, to_z-of_z}
use mir.Val.{SFits, to_z, of_z}
use Rattle.math_integers.specs.Halves.{zar}
use Rattle.math_integers.specs.Sums.{scale_is}
use Rattle.math_integers.specs.Ranges.{wide, bits_pos, bits_eq}
use Rattle.standard.specs.Arithmetic.{peak}
use Rattle.law_arithmetic.specs.Shift.{up_bits}
use Rattle.law_fields.specs.Amplitudes.{peak_halves, peak_up}
use Rattle.lpc_autocorrelation.specs.Scale.{scale_silent, scale_heard}
use Rattle.lpc_autocorrelation.proofs.scalauto.Goals as goal

module _ (s : List ℤ) where
  smax_fits : SFits w16 (peak s)
  smax_fits = omega (zar, peak_halves s)

  -- as the code has it, shifted
  smax_is : to_z w32 ((of_z w32 (peak s) * 65536) % 4294967296) ≡ peak s *ℤ pos 65536
  smax_is = up_bits w32 (peak s) 16 (wide smax_fits tt) ∙ peak_up s

  -- where the test does not find silence it is above 0
  above : ¬ (of_z w16 (peak s) ≡ 0) → lt_z (pos 0) (peak s) ≡ true
  above h = let i = peak_halves s in omega (zar, i, rw (bits_pos w16 (peak s) (omega (zar, i))) at h)

pub norm-requires : goal.norm-requires
norm-requires c =
    let s = c.args.s.now in
    let f = smax_fits s in
    let e = smax_is s in
    let a = above s (rw c.peak-smax.ensures at c.if-smax-eq0.false) in
    let l : lt_z (pos 0) (peak s *ℤ pos 65536) ≡ true = omega (zar, a, scale_is (peak s) 65536) in
    grind (arith, to_z-of_z)

pub returns-then-smax-eq0 : goal.returns-then-smax-eq0
returns-then-smax-eq0 c =
    let s = c.args.s.now in
    let z : SFits w16 (pos 0) = search rules in
    sym (scale_silent s (bits_eq (smax_fits s) z (rw c.peak-smax.ensures at c.if-smax-eq0.true)))

pub returns-else-smax-eq0 : goal.returns-else-smax-eq0
returns-else-smax-eq0 c =
    let s = c.args.s.now in
    let f = smax_fits s in
    let e = smax_is s in
    let h = scale_heard s (above s (rw c.peak-smax.ensures at c.if-smax-eq0.false)) in
    grind (arith, to_z-of_z)
