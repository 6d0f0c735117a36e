-- Three ends: the first sum is 0, a step stops, all eight steps are done. In the loop, the coefficients so far and those that
-- the steps to come will give are together the definition's (`Along`).
use Rattle.std.specs.Prelude.{◌≡◌, suc, ◌+◌, ◌-◌, true, false, ℤ, pos, length}
use Rattle.std.specs.Int.Signed.{lt_z, le_z}
use Rattle.std.specs.Int.{w32}
use Rattle.std.proofs.Common.{◌∙◌, arith, rules, to_z-of_z}
use Rattle.std.proofs.lemmas.Int.{ints}
use mir.Val.{of_z}
use Rattle.standard.specs.Arithmetic.{is_zero, abs}
use Rattle.standard.specs.Tables.{◌at◌}
use Rattle.standard.specs.Lpc.{ACF}
use Rattle.law_lengths.specs.Analysis.{ACF_length}
use Rattle.lpc_reflection.specs.Promise.{ended}
use Rattle.lpc_reflection.specs.Along.{along_start, along_next, silent_is, all_measured, stopped_is, complete_is}
use Rattle.lpc_reflection.proofs.reflection_coefficients.Goals as goal

-- a first sum that is not negative, and not 0, is above 0
above : (x : ℤ) → le_z (pos 0) x ≡ true → ¬ (of_z w32 x ≡ 0) → (lt_z (pos 0) x ≡ true) × (is_zero x ≡ false)
above x h d = (grind (arith, ints), grind (arith, ints))

pub returns-then-l_acf-eq0 : goal.returns-then-l_acf-eq0
unfolding ended
returns-then-l_acf-eq0 c =
    let z : c.args.l_acf at 0 ≡ pos 0 = grind (arith, ints) in
    let both = silent_is c.args.l_acf (rw z) in
    record { r = both.0; ending = both.1 }

pub acf-p-requires : goal.acf-p-requires
acf-p-requires c = (above (c.args.l_acf at 0) c.requires c.if-l_acf-eq0.false).0

pub loop-n-init : goal.loop-n-init
loop-n-init c =
    let L-acf = c.args.l_acf in
    let n : length L-acf ≡ 9 = search rules in
    let z = (above (L-acf at 0) c.requires c.if-l_acf-eq0.false).1 in
    (search rules, rw (c.k_start.ensures, c.acf-p.ensures, ← all_measured L-acf z n) (along_start (ACF L-acf) (ACF_length L-acf ∙ n)))

pub loop-n-preserved : goal.loop-n-preserved
loop-n-preserved c =
    let l = c.loop-n in
    let i : 9 - l.n ≡ suc (9 - (l.n + 1)) = omega arith in
    let j : l.n + 1 - 1 ≡ l.n = omega arith in
    let k : suc (l.n - 1) ≡ l.n = omega arith in
    let on : lt_z (l.a.p at 0) (abs (l.a.p at 1)) ≡ false = grind (arith, to_z-of_z) in
    let next = along_next (l.n - 1) (9 - (l.n + 1)) l.a.p l.a.k l.r (rw i at l.invariant.1) on in
    (search rules, grind (arith, to_z-of_z))

pub returns-then-a-abs : goal.returns-then-a-abs
unfolding ended
returns-then-a-abs c =
    let l = c.loop-n in
    let z = (above (c.args.l_acf at 0) c.requires c.if-l_acf-eq0.false).1 in
    let i : 9 - l.n ≡ suc (8 - l.n) = omega arith in
    let k : suc (l.n - 1) ≡ l.n = omega arith in
    let stops : lt_z (l.a.p at 0) (abs (l.a.p at 1)) ≡ true = grind (arith, to_z-of_z) in
    let both = rw k at (stopped_is c.args.l_acf z (l.n - 1) (8 - l.n) l.a.p l.a.k l.r (rw i at l.invariant.1) stops) in
    record { r = both.0; ending = both.1 }

pub returns : goal.returns
unfolding ended
returns c =
    let l = c.loop-n in
    let z = (above (c.args.l_acf at 0) c.requires c.if-l_acf-eq0.false).1 in
    let i : 9 - l.n ≡ 0 = omega arith in
    let j : l.n - 1 ≡ 8 = omega arith in
    let both = complete_is c.args.l_acf z l.a.p l.a.k l.r (rw (i, j) at l.invariant.1) in
    record { r = both.0; ending = both.1 }
