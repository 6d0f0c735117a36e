-- Call k gives the valid bits of codeword k, so the array is all of them.
use lib.IntN.{pos}
use borrow.Author.Rules.{rules}
use Rattle.math_lists.specs.Made.{made_zip}
use Rattle.law_fields.specs.Valid.{low_bits}
use Rattle.frame_codewords.proofs.valid.Goals as goal

pub returns : goal.returns
returns g c =
    made_zip c.from_fn.ensures.items low_bits c.args.widths.now c.args.c.now 0 (pos 0) (pos 0) c.requires.0 c.requires.1
    (λ k b y q t. search rules)
