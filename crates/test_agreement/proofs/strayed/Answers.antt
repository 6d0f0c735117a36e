-- Turn i stores what `stray` says of codeword i. The invariant says that the first i are stored and the rest is as it was, so
-- a turn reads the codeword as it was at the start.
use Rattle.std.proofs.Common.{◌≡◌, ℕ, ◌^◌, ◌<◌, true, List, arith, rules, ℤ, pos, ◌+ℤ◌, ◌*ℤ◌, length, get_or, length-set}
use mathlib.Core.List.{zip_with, flatten}
use Rattle.std.specs.Int.{w16}
use mir.Val.{SFits, to_z, of_z}
use Rattle.math_integers.specs.Ranges.{back, res}
use Rattle.math_lists.specs.Every.{every_at}
use Rattle.math_lists.specs.Fill.{filled, fill_next, fill_read, fill_end}
use Rattle.math_lists.specs.Tab.{zip_length, zip_at}
use Rattle.standard.specs.Tables.{◌at◌, LARc_widths}
use Rattle.standard.specs.Frame.{sub_widths, widths}
use Rattle.standard.specs.House.{fit, fits}
use Rattle.frame_codewords.specs.Widths.{width_most}
use Rattle.test_agreement.specs.Stray.{stray, stray_length}
use Rattle.test_agreement.proofs.strayed.Goals as goal

-- codeword i: it fits its field, and this is what is stored for it
module _ (k : ℤ) (first : List ℤ) (l : length first ≡ 76) (i : ℕ) (h : i < 76) where
  fit_at : fits first ≡ true → fit (get_or widths i 0) (first at i) ≡ true
  unfolding widths LARc_widths sub_widths flatten fits
  fit_at e =
      rw (zip_at fit widths first i 0 (pos 0) true (omega arith) (omega arith)) at
      (every_at (λ b. b) (zip_with fit widths first) i true e (rw zip_length (omega arith)))

  stray_at : stray k first at i ≡ first at i +ℤ k *ℤ pos (2 ^ get_or widths i 0)
  unfolding widths LARc_widths sub_widths flatten stray
  stray_at = zip_at _ widths first i 0 (pos 0) (pos 0) (omega arith) (omega arith)

  as_it_was : (now : List ℤ) → now ≡ filled i (stray k first) first → now at i ≡ first at i
  as_it_was now so_far =
      let as_many = stray_length k first l in
      fill_read _ _ i so_far i (pos 0) (omega (arith, as_many)) (omega arith)

pub beside-requires : goal.beside-requires
beside-requires c =
    let first = c.args.codewords.now in
    let i = c.loop-i.i in
    let l : length first ≡ 76 = search rules in
    let f : SFits w16 (c.loop-i.codewords at i) = search rules in
    let width = c.field_width.ensures in
    let so_far = rw (back c.ranges.k) at c.loop-i.invariant.1 in
    let same = as_it_was c.args.k first l i (omega arith) c.loop-i.codewords so_far in (
      (rw width (width_most _), rw (back f, same, width) (fit_at c.args.k first l i (omega arith) c.requires.0)),
      rw (back c.ranges.k) c.requires.1,
    )

pub loop-i-preserved : goal.loop-i-preserved
loop-i-preserved c =
    let first = c.args.codewords.now in
    let i = c.loop-i.i in
    let l : length first ≡ 76 = search rules in
    let as_many = stray_length c.args.k first l in
    let f : SFits w16 (c.loop-i.codewords at i) = search rules in
    let so_far = rw (back c.ranges.k) at c.loop-i.invariant.1 in
    let same = as_it_was c.args.k first l i (omega arith) c.loop-i.codewords so_far in
    let own : to_z w16 (of_z w16 c.beside.result) ≡ stray c.args.k first at i =
    cc (
      back f,
      back c.ranges.k,
      same,
      c.field_width.ensures,
      res c.beside,
      c.beside.ensures,
      stray_at c.args.k first l i (omega arith),
    ) in (
      (omega arith, simp length-set c.loop-i.invariant.0.1),
      rw (back c.ranges.k) (fill_next _ _ i so_far (pos 0) (omega (arith, as_many)) (omega arith) own),
    )

pub returns : goal.returns
returns c =
    let first = c.args.codewords.now in
    let l : length first ≡ 76 = search rules in
    let so_far = rw (back c.ranges.k) at c.loop-i.invariant.1 in
    fill_end _ _ c.loop-i.i so_far (omega (arith, stray_length c.args.k first l)) (omega arith)
