-- Without the bias each is the word that it stood for.
use borrow.Author.Rules.{rules}
use Rattle.short_synthesis.specs.Lattice.{all_from, mapped}
use Rattle.short_synthesis.specs.Biased.{low, low_fits, low_is}
use Rattle.short_synthesis.proofs.without_bias.Goals as goal

pub map-requires : goal.map-requires
map-requires c = all_from low (λ z h. search (rules, low_fits)) c.args.l c.requires

pub returns : goal.returns
returns c =
    let l = c.args.l in
    mapped low (λ z y h r. search (rules, low_is)) l c.map.result (all_from low (λ z h. h) l c.requires) c.map.ensures
