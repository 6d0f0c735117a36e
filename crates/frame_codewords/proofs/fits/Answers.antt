-- The parts that are left decide the whole: a part that does not fit makes the answer false, one that fits leaves the rest.
use Prim.Native.Nat.{ℕ, ◌+◌, ◌-◌, ◌*◌, ◌≤◌, ◌<◌}
use mathlib.Core.Path.{◌≡◌, sym, ap, ◌∙◌}
use mathlib.Core.Bool.{Bool, ◌&&◌}
use mathlib.Core.List.{List, [], ◌∷◌, ◌++◌}
use native.Mathlib.Omega.{arith}
use lib.ListN.{length, take, drop, length-drop, length-append}
use lib.IntN.{ℤ}
use lib.Seq.{take_at, drop_at, drop-drop, take_all}
use Rattle.std.specs.Slice.Iter.{chunks_exact_rest, chunks_exact_size}
use Rattle.standard.specs.Tables.{LARc_widths}
use Rattle.standard.specs.Frame.{sub_widths}
use Rattle.standard.specs.House.{fits}
use Rattle.frame_codewords.specs.Fitting.{fit_from, fits_ratios, fits_sub, fits_last}
use Rattle.frame_codewords.proofs.fits.Goals as goal
use Rattle.frame_codewords.proofs.fits.Goals.{After-all_fit, After-all_fit-in-loop-sub}

-- the answer is that of the ratios and what follows them
ratios : (c : After-all_fit)
    → let xs = c.args.c.now in
    fits xs ≡ (c.all_fit.result && fit_from 8 xs)
unfolding LARc_widths
ratios c = rw c.all_fit.ensures (fits_ratios c.args.c.now)

pub returns-then-not-all_fit : goal.returns-then-not-all_fit
returns-then-not-all_fit c = sym (rw (c.if-not-all_fit.true) at (ratios (goal.at.returns-then-not-all_fit c).After-all_fit))

pub loop-sub-init : goal.loop-sub-init
loop-sub-init c =
    let xs = c.args.c.now in
    let i = c.into_iter-sub-iterator.ensures.into_iter_gives in
    let whole = take_all (length xs - 8) (drop 8 xs) (rw length-drop (omega arith)) in (
      omega arith,
      ap chunks_exact_rest i ∙ (c.chunks_exact-sub-items.ensures.rest ∙ whole),
      ap chunks_exact_size i ∙ c.chunks_exact-sub-items.ensures.size,
      sym (rw (c.if-not-all_fit.false) at (ratios (goal.at.loop-sub-init c).After-all_fit)),
    )

-- what is left to test before an iteration is its own sub-frame and what is left after it
module _ (c : After-all_fit-in-loop-sub) where
  abbrev xs : List ℤ
  xs = c.args.c.now

  abbrev j : ℕ
  j = length c.loop-sub.yielded

  abbrev after : List ℤ
  after = chunks_exact_rest c.next.new.self

  joined : drop (8 + 17 * j) xs ≡ c.in-Some.sub.now ++ after
  joined = let (a, r, z, e) = c.loop-sub.invariant in sym r ∙ c.in-Some.ensures.steps.1.0

  size : length c.in-Some.sub.now ≡ 17
  size = let (a, r, z, e) = c.loop-sub.invariant in c.in-Some.ensures.steps.1.1 ∙ z

  more : j < 4
  more = omega (arith, c.requires, length-drop (8 + 17 * j) xs, ap length joined, length-append c.in-Some.sub.now after, size)

  rest : after ≡ drop (8 + 17 * (j + 1)) xs
  rest =
      let e : 8 + 17 * j + 17 ≡ 8 + 17 * (j + 1) = omega arith in
      rw (← e, ← drop-drop 17 (8 + 17 * j) xs, joined) (sym (drop_at c.in-Some.sub.now after 17 size))

  turn : fits xs ≡ (c.all_fit-in-loop-sub.result && fit_from (8 + 17 * (j + 1)) xs)
  unfolding sub_widths
  turn =
      let (a, r, z, e) = c.loop-sub.invariant in
      let part : take 17 (drop (8 + 17 * j) xs) ≡ c.in-Some.sub.now = rw joined (take_at c.in-Some.sub.now after 17 size) in
      let whole = rw part at (fits_sub j xs more) in
      sym e ∙ (whole ∙ ap (λ (b : Bool). b && fit_from (8 + 17 * (j + 1)) xs) (sym c.all_fit-in-loop-sub.ensures))

pub returns-then-not-all_fit-2 : goal.returns-then-not-all_fit-2
returns-then-not-all_fit-2 c =
    sym (rw (c.if-not-all_fit-2.true) at (turn (goal.at.returns-then-not-all_fit-2 c).After-all_fit-in-loop-sub))

pub loop-sub-preserved : goal.loop-sub-preserved
loop-sub-preserved c =
    let t = (goal.at.loop-sub-preserved c).After-all_fit-in-loop-sub in
    let (a, r, z, e) = c.loop-sub.invariant in
    rw (length-append c.loop-sub.yielded (c.in-Some.sub ∷ []))
    (omega (arith, more t), rest t, c.next.ensures.steps.0 ∙ z, sym (rw (c.if-not-all_fit-2.false) at (turn t)))

pub returns : goal.returns
returns c =
    let xs = c.args.c.now in
    let j = length c.loop-sub.yielded in
    let (a, r, z, e) = c.loop-sub.invariant in
    let l : 4 ≤ j = omega (arith, c.requires, length-drop (8 + 17 * j) xs, ap length r, z, c.in-None.ensures.steps.1.0) in
    sym (fits_last j xs l c.requires) ∙ e
