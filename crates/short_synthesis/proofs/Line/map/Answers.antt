-- Each of the eight calls gives what f may give there.
use borrow.Author.Rules.{rules}
use Rattle.short_synthesis.proofs.Line.map.Goals as goal

pub returns : goal.returns
returns g c =
    record {
      v0 = search rules;
      v1 = search rules;
      v2 = search rules;
      v3 = search rules;
      v4 = search rules;
      v5 = search rules;
      v6 = search rules;
      v7 = search rules;
    }
