-- One law of `Returns` for each return. The quotient of byte 32 by 16 is the spare bits.
use native.Mathlib.Omega.{arith}
use borrow.Author.Rules.{rules}
use Rattle.std.proofs.lemmas.Result.{err_from_is_err_and}
use Rattle.refusals.specs.Numbers.{answered, number}
use Rattle.packing.specs.Returns.{unpack_0, unpack_refused_lengths, unpack_6, spare_none, spare_some}
use Rattle.packing.proofs.unpack.Goals as goal

pub returns-in_err-length_refusal : goal.returns-in_err-length_refusal
unfolding answered
returns-in_err-length_refusal c =
    let p = err_from_is_err_and c.from_residual.result c.from_residual.ensures.1 in
    rw (p.1, p.2) (unpack_refused_lengths _ _ _ c.in_err-length_refusal.ensures.number)

pub returns-then-bytes-ne0 : goal.returns-then-bytes-ne0
unfolding answered number
returns-then-bytes-ne0 c =
    let (l, m) = c.in_ok-length_refusal.ensures.lengths in
    unpack_6 _ _ l m (spare_some c.args.bytes.now m (search rules) (λ e. c.if-bytes-ne0.true (omega arith)))

pub returns : goal.returns
unfolding answered
returns c =
    let (l, m) = c.in_ok-length_refusal.ensures.lengths in
    unpack_0 _ _ l m (spare_none c.args.bytes.now m (omega arith)) c.fill_codewords.ensures
