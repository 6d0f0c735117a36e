-- Call i shifts L_ACF[i] by the norm of L_ACF[0], so the array is `ACF`. The norm exists because L_ACF[0] is above 0.
use Rattle.std.specs.Prelude.{◌≡◌, pos, length}
use Rattle.std.proofs.Common.{arith, rules, to_z-of_z}
use Rattle.math_lists.specs.Made.{made_map}
use Rattle.standard.specs.Arithmetic.{norm}
use Rattle.standard.specs.Tables.{◌at◌}
use Rattle.standard.specs.Lpc.{normalized, ACF}
use Rattle.lpc_reflection.proofs.acf.Goals as goal

pub norm-temp-requires : goal.norm-temp-requires
norm-temp-requires c = grind (arith, to_z-of_z)

pub returns : goal.returns
unfolding ACF
returns c =
    let L-acf = c.args.l_acf in
    let nine : length L-acf ≡ 9 = search rules in
    made_map c.from_fn.ensures.items (normalized (norm (L-acf at 0))) L-acf (pos 0) (pos 0) nine
    (λ k b y q t. (search rules, grind (arith, to_z-of_z)))
