-- Iteration k makes one step of the definition's run, from `last`, which is the sample before.
use Rattle.std.specs.Prelude.{refl, pos}
use Rattle.std.proofs.Common.{arith, rules, to_z-of_z}
use Rattle.std.specs.Int.{w16}
use mir.Val.{SFits}
use Rattle.math_integers.specs.Ranges.{back}
use Rattle.math_lists.specs.Scan.{along_start, along_next, along_end}
use Rattle.standard.specs.Tables.{◌at◌}
use Rattle.standard.specs.Preprocessing.{emphasis}
use Rattle.pre_processing.proofs.emphasis.Goals as goal

pub loop-k-init : goal.loop-k-init
loop-k-init c = grind (arith, to_z-of_z, along_start)

pub loop-k-preserved : goal.loop-k-preserved
unfolding emphasis
loop-k-preserved c =
    let f : SFits w16 (c.args.sof.now at c.loop-k.k) = search rules in
    along_next emphasis _ _ (pos 0) c.loop-k.invariant (omega arith) (omega arith) refl (back f) (grind (arith, to_z-of_z))

pub returns : goal.returns
returns c =
    let both = rw (back c.ranges.mp) at (along_end emphasis _ _ c.loop-k.invariant (omega arith) (omega arith)) in
    record { mp = both.0; samples = both.1 }
