-- One law of `Returns` for each return.
use Rattle.std.proofs.Common.{sym, ◌∙◌}
use Rattle.std.proofs.lemmas.Result.{err_from_is_err_and}
use Rattle.refusals.specs.Numbers.{answered, number}
use Rattle.packing.specs.Returns.{pack_0, pack_refused_lengths, pack_5}
use Rattle.packing.proofs.pack.Goals as goal

pub returns-in_err-length_refusal : goal.returns-in_err-length_refusal
unfolding answered
returns-in_err-length_refusal c =
    let p = err_from_is_err_and c.from_residual.result c.from_residual.ensures.1 in
    rw (p.1, p.2) (pack_refused_lengths _ _ _ c.in_err-length_refusal.ensures.number)

pub returns-then-not-fits : goal.returns-then-not-fits
unfolding answered number
returns-then-not-fits c =
    let (l, m) = c.in_ok-length_refusal.ensures.lengths in pack_5 _ _ l m (sym c.fits.ensures ∙ c.if-not-fits.true)

pub returns : goal.returns
unfolding answered
returns c =
    let (l, m) = c.in_ok-length_refusal.ensures.lengths in
    pack_0 _ _ l m (sym c.fits.ensures ∙ c.if-not-fits.false) c.fill_bytes.ensures
