-- Call i gives LARc of LAR of r[i], so the array is `ratio_codes`.
use Rattle.std.specs.Prelude.{pos}
use Rattle.std.proofs.Common.{arith, to_z-of_z}
use borrow.Author.Rules.{rules}
use Rattle.math_lists.specs.Made.{made_tab}
use Rattle.standard.specs.Tables.{◌at◌}
use Rattle.standard.specs.Lpc.{LAR, LARc, ratio_codes}
use Rattle.lpc_logarea.proofs.ratio_codes.Goals as goal

pub returns : goal.returns
unfolding ratio_codes
returns c =
    let r = c.args.r in
    made_tab c.from_fn.ensures.items (λ i. LARc i (LAR (r at i))) (pos 0)
    (λ k b y q t. (search rules, grind (arith, to_z-of_z)))
