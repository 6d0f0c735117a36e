-- An iteration is two sections. The second is as the first with the two lists exchanged: one law of the next section serves both.
use Prim.Native.Nat.{ℕ, ◌+◌, ◌*◌, ◌<◌}
use mathlib.Core.Path.{◌≡◌, ap, ◌∙◌}
use mathlib.Core.Bool.{true}
use mathlib.Core.List.{List, zip}
use native.Mathlib.Omega.{arith}
use borrow.Author.Rules.{rules}
use lib.IntN.{ℤ, pos}
use lib.ListN.{length, set}
use mir.Syntax.{w16}
use mir.Val.{SFits}
use Rattle.math_integers.specs.Halves.{mem}
use Rattle.math_integers.specs.Ranges.{back}
use Rattle.math_lists.specs.Scan.{run, along_end}
use Rattle.math_lists.specs.Every.{every, every_at}
use Rattle.standard.specs.Tables.{◌at◌}
use Rattle.standard.specs.ShortTerm.{coefficients, analysed}
use Rattle.short_ratios.specs.Stretches.{rps, rps_length}
use Rattle.short_ratios.specs.Bounds.{factor, rps_above}
use Rattle.short_analysis.specs.Sections.{own, spread_every, spread_length, stage}
use Rattle.short_analysis.specs.Frame.{columns, pairs_eight, Done, done_next, frame_is}
use Rattle.short_analysis.proofs.filtered.Goals as goal
use Rattle.short_analysis.proofs.filtered.Goals.{After-coefficients-4, After-stage, After-stage-in-loop-j, In-loop-j}

-- ---- before the loop: the coefficients of the four stretches

module _ (r : After-coefficients-4) where
  abbrev first : List ℤ
  first = r.coefficients.result

  abbrev second : List ℤ
  second = r.coefficients-2.result

  abbrev third : List ℤ
  third = r.coefficients-3.result

  abbrev fourth : List ℤ
  fourth = r.coefficients-4.result

  -- so many sections are done
  abbrev Past : ℕ → List ℤ → List ℤ → List ℤ → List ℤ → Type 0
  Past = Done first second third fourth r.args.u r.args.s.now

  -- no coefficient is -32768
  own_above : (i : ℕ) → i < 8 → every factor (own first second third fourth i) ≡ true
  own_above i h =
      spread_every factor (first at i) (second at i) (third at i) (fourth at i)
      (above 0 first r.coefficients.ensures) (above 1 second r.coefficients-2.ensures)
      (above 2 third r.coefficients-3.ensures) (above 3 fourth r.coefficients-4.ensures)
    where
      above : (j : ℕ) (xs : List ℤ) → xs ≡ rps j r.args.old r.args.new → factor (xs at i) ≡ true
      above j xs e =
          let n = rps_length j r.args.old r.args.new (search rules) (search rules) in
          every_at factor xs i (pos 0) (rw e (rps_above j _ _)) (rw e (omega (arith, n)))

  -- a section has one for each sample
  own_length : (i : ℕ) {rp : List ℤ} → rp ≡ own first second third fourth i → length rp ≡ 160
  own_length i e = ap length e ∙ spread_length (first at i) (second at i) (third at i) (fourth at i)

  -- so the next call has what it asks for
  asked : {i : ℕ} {rp di p q kept : List ℤ} → i < 8 → rp ≡ own first second third fourth i → Past i di p q kept
      → ((length rp ≡ 160) × (length p ≡ 161)) × ((length di ≡ 160) × ((length q ≡ 161) × (every factor rp ≡ true)))
  asked {i} l e d = ((own_length i e, d.p_length), (d.di_length, (d.q_length, ap (every factor) e ∙ own_above i l)))

-- ---- an iteration: section i, and then section k

-- there are eight sections
below : (j : ℕ) → j < 4 → (2 * j < 8) × (2 * j + 1 < 8)
below j h = (omega arith, omega arith)

-- the first is done, and sav went from p to q
module _ (c : After-stage) where
  abbrev known : After-coefficients-4
  known = (goal.at.After-stage c).After-coefficients-4

  done_one : Past known (2 * c.loop-j.j + 1) c.stage.new.di c.stage.new.q c.stage.new.p
      (set c.loop-j.kept (2 * c.loop-j.j) (mem w16 c.stage.result))
  done_one =
      let l = (below c.loop-j.j c.loop-j-test.true).0 in
      let u : SFits w16 (c.args.u at (2 * c.loop-j.j)) = search rules in
      done_next _ _ _ _ _ _ c.loop-j.invariant.2 (search rules) l c.own.ensures (back u)
      c.stage.ensures.p c.stage.ensures.di c.stage.ensures.q c.stage.ensures.u (back {w = w16} (record { sfits = c.stage.type_inv }))

pub stage-requires : goal.stage-requires
stage-requires c =
    asked (goal.at.stage-requires c).After-coefficients-4 (below c.loop-j.j c.loop-j-test.true).0 c.own.ensures c.loop-j.invariant.2

pub stage-requires-in-loop-j : goal.stage-requires-in-loop-j
stage-requires-in-loop-j c =
    let one = (goal.at.stage-requires-in-loop-j c).After-stage in
    asked (known one) (below c.loop-j.j c.loop-j-test.true).1 c.own-in-loop-j.ensures (done_one one)

-- the second is done, and sav went from q to p
pub loop-j-preserved : goal.loop-j-preserved
loop-j-preserved c =
    let one = (goal.at.loop-j-preserved c).After-stage in
    let j = c.loop-j.j in
    let l = (below j c.loop-j-test.true).1 in
    let u : SFits w16 (c.args.u at (2 * j + 1)) = search rules in
    let s = c.stage-in-loop-j.ensures in
    let two = done_next _ _ _ _ _ _ (done_one one) (search rules) l c.own-in-loop-j.ensures (back u)
    s.p s.di s.q s.u (back {w = w16} (record { sfits = c.stage-in-loop-j.type_inv })) in
    let n : 2 * j + 1 + 1 ≡ 2 * (j + 1) = omega arith in
    (omega arith, own_length (known one) (2 * j + 1) c.own-in-loop-j.ensures, rw n at two)

-- ---- after the loop

-- the whole, from what was computed before the loop
whole : (u old new s first second third fourth : List ℤ) → length u ≡ 8 → length old ≡ 8 → length new ≡ 8 → length s ≡ 160
    → first ≡ rps 0 old new → second ≡ rps 1 old new → third ≡ rps 2 old new → fourth ≡ rps 3 old new
    → run analysed u (zip (coefficients old new) s)
    ≡ (let t = run (stage 159) (s, s) (zip (columns first second third fourth) u) in (t.1, t.0.0))
whole u old new s first second third fourth a b c d e₀ e₁ e₂ e₃ = rw (e₀, e₁, e₂, e₃) (frame_is u old new s a b c d)

pub returns : goal.returns
returns c =
    let d = c.loop-j.invariant.2 in
    let s = c.args in
    let n : length s.u ≡ 8 = search rules in
    let w =
    whole s.u s.old s.new s.s.now _ _ _ _ n (search rules) (search rules) c.requires
    c.coefficients.ensures c.coefficients-2.ensures c.coefficients-3.ensures c.coefficients-4.ensures in
    let m = pairs_eight c.coefficients.result c.coefficients-2.result c.coefficients-3.result c.coefficients-4.result s.u n in
    let (f, g) = along_end (stage 159) _ _ d.along (omega (arith, m)) (omega (arith, d.kept_length)) in
    record { u = rw w g; d = rw w (ap (λ (t : List ℤ × List ℤ). t.0) f) }
