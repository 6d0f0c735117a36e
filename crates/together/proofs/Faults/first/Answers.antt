-- Each test gives its fault where it holds, and leaves the others to those behind it.
use Rattle.std.proofs.Common.{◌≡◌, Bool, true, false, cond, Some, None, refl}
use Rattle.std.specs.Bool.{then_some}
use Rattle.std.specs.Option.{option_or}
use Rattle.together.proofs.Faults.first.Goals as goal

first_of : {T : Type 0} (a b c d e : Bool) (v w x y z : T)
    → option_or (option_or (option_or (option_or (then_some a v) (then_some b w)) (then_some c x)) (then_some d y)) (then_some e z)
    ≡ cond a (Some v) (cond b (Some w) (cond c (Some x) (cond d (Some y) (cond e (Some z) None))))
first_of true b c d e v w x y z = refl
first_of false true c d e v w x y z = refl
first_of false false true d e v w x y z = refl
first_of false false false true e v w x y z = refl
first_of false false false false true v w x y z = refl
first_of false false false false false v w x y z = refl

pub returns : goal.returns
returns c =
    let f = c.args.self in
    rw (
      c.or-4.ensures,
      c.or-3.ensures,
      c.or-2.ensures,
      c.or.ensures,
      c.then_some.ensures,
      c.then_some-2.ensures,
      c.then_some-3.ensures,
      c.then_some-4.ensures,
      c.then_some-5.ensures,
    )
    (first_of f.refused f.field f.lag f.history f.ratios _ _ _ _ _)
