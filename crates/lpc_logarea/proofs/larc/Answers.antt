-- 4.2.7 step by step: each operation's promise, put into the next.
use Rattle.std.specs.Prelude.{ℕ, ◌≡◌, ◌<◌, ℤ}
use Rattle.std.specs.Int.Signed.{◌≤ℤ◌}
use Rattle.std.specs.Int.{int_min, int_max}
use Rattle.std.proofs.Common.{arith, to_z-of_z}
use Rattle.std.proofs.lemmas.Int.{ints}
use Rattle.op_tables.specs.Facts.{LARc_span}
use Rattle.law_arithmetic.specs.Shift.{down_bits}
use Rattle.standard.specs.Tables.{◌at◌, MIC, MAC}
use Rattle.standard.specs.Lpc.{clamped, LARc}
use Rattle.lpc_logarea.proofs.larc.Goals as goal

-- between ends in their order, std's limits are the standard's
limits : (least most x : ℤ) → least ≤ℤ most → int_max least (int_min x most) ≡ clamped least most x
unfolding clamped
limits least most x h = grind (arith, ints)

-- MIC is not above MAC
ordered : (i : ℕ) → i < 8 → MIC at i ≤ℤ MAC at i
ordered i h = let e = LARc_span i h in grind (arith, ints)

pub clamp-requires : goal.clamp-requires
clamp-requires c = grind (arith, to_z-of_z, ordered)

pub returns : goal.returns
unfolding LARc
returns c = grind (arith, to_z-of_z, limits, down_bits)
