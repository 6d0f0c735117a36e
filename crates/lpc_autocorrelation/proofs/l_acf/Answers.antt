-- Call k gives the sum at distance k. With eight zeros before the samples each sum goes over all 160 (`upto_all`).
use Rattle.std.specs.Prelude.{◌≡◌, true, pos}
use Rattle.std.proofs.Common.{arith, rules, ap, ◌∙◌}
use Rattle.std.proofs.iter.Serving.{serving}
use Rattle.math_lists.specs.Every.{every}
use Rattle.math_lists.specs.Made.{made}
use Rattle.op_sums.specs.Room.{at_most}
use Rattle.standard.specs.Lpc.{L_ACF}
use Rattle.law_lengths.specs.Analysis.{L_ACF_length}
use Rattle.lpc_autocorrelation.specs.Blocks.{padded_small, upto, upto_all}
use Rattle.lpc_autocorrelation.proofs.l_acf.Goals as goal

pub from_fn-requires : goal.from_fn-requires
from_fn-requires c =
    let small : every (at_most 2048) c.padded-z.result ≡ true =
    rw c.padded-z.ensures (padded_small c.args.s.now c.requires.0 c.requires.1) in
    grind (arith, serving)

pub returns : goal.returns
returns c =
    let s = c.args.s.now in
    made c.from_fn.ensures.items (L_ACF s) (pos 0) (L_ACF_length s)
    (λ k b y q t.
    let sum : y ≡ upto c.padded-z.result k 160 = search rules in
    (search rules, sum ∙ (ap (λ z. upto z k 160) c.padded-z.ensures ∙ upto_all s c.requires.0 c.requires.1 k b)))
