-- The two tests are those of the definition; the law `moved` turns the moved range of the second into one of the difference.
use Rattle.std.specs.Prelude.{◌≡◌, Some, true, false, ℤ, pos, ◌+ℤ◌, ◌-ℤ◌, ◌*ℤ◌}
use Rattle.std.proofs.Common.{arith, rules, to_z-of_z, ◌∙◌}
use Rattle.std.proofs.Math.IntN.{*ℤ_comm}
use Rattle.std.specs.Int.{w16, w32}
use Rattle.std.specs.Range.{range_inclusive_start, range_inclusive_end, range_inclusive_exhausted, range_inclusive_contains}
use Rattle.std.specs.Ordering.{int_cmp}
use Rattle.std.proofs.lemmas.Int.{ints}
use mir.Val.{SFits}
use Rattle.math_integers.specs.Halves.{zar, know, mem}
use Rattle.math_integers.specs.Sums.{add_is, minus_is, scale_is}
use Rattle.standard.specs.Arithmetic.{within}
use Rattle.standard.specs.Tables.{neg}
use Rattle.pre_processing.specs.Promise.{kept}
use Rattle.pre_processing.specs.Soundness.{moved}
use Rattle.pre_processing.proofs.sound.Goals as goal

-- 32768 * z1 and the two ends of the moved range fit 32 bits
module _ (z1 : ℤ) (f : SFits w16 z1) where
  abbrev centre : ℤ
  centre = z1 *ℤ pos 32768

  centre_fits : SFits w32 centre
  centre_fits = omega (zar, know f, scale_is z1 32768)

  least_fits : SFits w32 (centre -ℤ pos 536740337)
  least_fits = omega (zar, know f, scale_is z1 32768, minus_is centre (pos 536740337))

  most_fits : SFits w32 (centre +ℤ pos 536871409)
  most_fits = omega (zar, know f, scale_is z1 32768, add_is centre (pos 536871409))

-- the test `least..=most` of std, at a range that is not spent
tested : (s : _) (least most z : ℤ) → range_inclusive_start s ≡ least → range_inclusive_end s ≡ most → range_inclusive_exhausted s ≡ false
    → range_inclusive_contains (λ x y. Some (int_cmp x y)) s z ≡ within least most z
tested s least most z a b d = grind (arith, ints)

pub returns-then-contains : goal.returns-then-contains
unfolding kept
returns-then-contains c =
    let z1 = c.args.m.z1 in
    let z2 = c.args.m.l_z2 in
    let f : SFits w16 z1 = search rules in
    let first : within (neg 16384) (pos 16380) z1 ≡ true = grind (arith, to_z-of_z) in
    let n = c.new-then-contains.ensures in
    let z : mem w32 c.from-z1.result ≡ z1 = grind (arith, to_z-of_z) in
    let i = centre_fits z1 f in
    let j = least_fits z1 f in
    let k = most_fits z1 f in
    let start : range_inclusive_start c.new-then-contains.result ≡ centre z1 f -ℤ pos 536740337 = grind (arith, to_z-of_z) in
    let end : range_inclusive_end c.new-then-contains.result ≡ centre z1 f +ℤ pos 536871409 = grind (arith, to_z-of_z) in
    let second = c.contains-then-contains.ensures.value ∙ tested _ _ _ z2 start end n.exhausted in
    rw (first, *ℤ_comm (pos 32768) z1) (second ∙ moved 536740337 536871409 (centre z1 f) z2)

pub returns-else-contains : goal.returns-else-contains
unfolding kept
returns-else-contains c =
    let first : within (neg 16384) (pos 16380) c.args.m.z1 ≡ false = grind (arith, to_z-of_z) in
    rw first c.if-contains.false
