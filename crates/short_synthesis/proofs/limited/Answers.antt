-- One sample as 4.3.4 writes it: each section takes the sri that the one before gives, and all eight are the definition's.
use borrow.Author.Rules.{rules}
use Rattle.math_integers.specs.Ranges.{back}
use Rattle.short_synthesis.specs.Lattice.{all_from, factor_back, local_factor, word_back, local_word, passed_word, passed_back, passed_by, sections_are}
use Rattle.short_synthesis.proofs.limited.Goals as goal

-- ---- what each call asks: what a local gives back of a coefficient or a cell passes the same test

pub through-s6-requires : goal.through-s6-requires
through-s6-requires c = search (rules, local_factor, local_word, passed_word)

pub through-s5-requires : goal.through-s5-requires
through-s5-requires c = search (rules, local_factor, local_word, passed_word)

pub through-s4-requires : goal.through-s4-requires
through-s4-requires c = search (rules, local_factor, local_word, passed_word)

pub through-s3-requires : goal.through-s3-requires
through-s3-requires c = search (rules, local_factor, local_word, passed_word)

pub through-s2-requires : goal.through-s2-requires
through-s2-requires c = search (rules, local_factor, local_word, passed_word)

pub through-s1-requires : goal.through-s1-requires
through-s1-requires c = search (rules, local_factor, local_word, passed_word)

pub through-s0-requires : goal.through-s0-requires
through-s0-requires c = search (rules, local_factor, local_word, passed_word)

-- ---- all of them

pub returns : goal.returns
returns c =
    let r = all_from (λ z. z) factor_back c.args.r c.requires.0 in
    let v = all_from (λ z. z) word_back c.args.v c.requires.1 in
    rw c.shifted.ensures
    (sections_are c.args.r c.args.v c.args.wt
    (passed_by r.v7 v.v7 (back c.ranges.wt) c.through-s7.ensures).out
    (passed_by r.v6 v.v6 (passed_back c.through-s7.ensures) c.through-s6.ensures)
    (passed_by r.v5 v.v5 (passed_back c.through-s6.ensures) c.through-s5.ensures)
    (passed_by r.v4 v.v4 (passed_back c.through-s5.ensures) c.through-s4.ensures)
    (passed_by r.v3 v.v3 (passed_back c.through-s4.ensures) c.through-s3.ensures)
    (passed_by r.v2 v.v2 (passed_back c.through-s3.ensures) c.through-s2.ensures)
    (passed_by r.v1 v.v1 (passed_back c.through-s2.ensures) c.through-s1.ensures)
    (passed_by r.v0 v.v0 (passed_back c.through-s1.ensures) c.through-s0.ensures))
