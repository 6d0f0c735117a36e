-- Each return is a row of the two: the tests that were taken or left before it decide what `refusal` gives.
use borrow.Author.Tests.{ne_eqb}
use Rattle.standard.specs.House.{refusal}
use Rattle.refusals.specs.Numbers.{answered, number}
use Rattle.packing.proofs.length_refusal.Goals as goal

pub returns-then-codewords-ne76 : goal.returns-then-codewords-ne76
unfolding answered number refusal
returns-then-codewords-ne76 c = record { number = rw (ne_eqb _ _ c.if-codewords-ne76.true); lengths = tt }

pub returns-then-bytes-ne33 : goal.returns-then-bytes-ne33
unfolding answered number refusal
returns-then-bytes-ne33 c = record { number = rw (c.if-codewords-ne76.false, ne_eqb _ _ c.if-bytes-ne33.true); lengths = tt }

pub returns : goal.returns
unfolding answered refusal
returns c = record {
  number = rw (c.if-codewords-ne76.false, c.if-bytes-ne33.false);
  lengths = (c.if-codewords-ne76.false, c.if-bytes-ne33.false);
}
