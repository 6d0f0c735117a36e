-- Iteration k makes one step of the filter. The state stays sound, and this keeps each sum within 32 bits.
use Rattle.std.specs.Prelude.{◌≡◌, true}
use Rattle.math_lists.specs.Scan.{Along}
use Rattle.standard.specs.Preprocessing as standard
use Rattle.standard.specs.Preprocessing.{downscaled, offset}
use Rattle.law_soundness.specs.Offset.{sound_offset}
use Rattle.pre_processing.specs.Promise.{kept}
use Rattle.pre_processing.proofs.offset.Given as goal

abbrev pub invariant-loop-k : goal.invariant-loop-k
invariant-loop-k l = let m : standard.Offset = record { z1 = l.z1; L_z2 = l.l_z2 } in
    Along offset (kept l.fn.m) (downscaled l.sop) m l.k l.sof × (sound_offset m ≡ true)
