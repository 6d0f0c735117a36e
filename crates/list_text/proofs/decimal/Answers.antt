-- A number below ten is its byte (`decimal_one`). Of another, what the library prints is the definition's text (`printed`), of at most
-- seven bytes (`decimal_most`).
use borrow.Author.Rules.{rules}
use Rattle.list_text.specs.Fields.{decimal_one, printed, decimal_most}
use Rattle.list_text.proofs.decimal.Goals as goal

pub text-requires : goal.text-requires
text-requires g c =
    let n = c.args.n in search (rules, printed n c.requires.0, decimal_most n c.requires.0)

pub returns-then-n-lt10-clause-text : goal.returns-then-n-lt10-clause-text
returns-then-n-lt10-clause-text g c =
    let n = c.args.n in search (rules, decimal_one n c.if-n-lt10.true)

pub returns-else-n-lt10-clause-text : goal.returns-else-n-lt10-clause-text
returns-else-n-lt10-clause-text g c =
    let n = c.args.n in search (rules, printed n c.requires.0)

pub returns-else-n-lt10-clause-room : goal.returns-else-n-lt10-clause-room
returns-else-n-lt10-clause-room g c =
    let n = c.args.n in search (rules, printed n c.requires.0, decimal_most n c.requires.0)
