-- The stages in the definition's order: the selected grid, its largest size, that size's code, the codes of the pulses. Each is the
-- definition's by the one before.
use Prim.Native.Nat.{ℕ}
use mathlib.Core.Path.{◌≡◌, ap, ap₂, ◌∙◌}
use mathlib.Core.List.{List}
use native.Mathlib.Omega.{arith}
use lib.IntN.{ℤ}
use lib.ListN.{length, take}
use lib.Seq.{take_all}
use mir.Syntax.{w16}
use borrow.Author.Rules.{rules}
use Rattle.math_integers.specs.Halves.{mem}
use Rattle.math_integers.specs.Ranges.{res}
use Rattle.standard.specs.Arithmetic.{peak}
use Rattle.standard.specs.Rpe.{grid, Mc, xmaxc, amplitude, xMc}
use Rattle.law_fields.specs.Amplitudes.{peak_in, xmaxc_fits}
use Rattle.law_fields.specs.Pulses.{grid_in}
use Rattle.frame_subframe.specs.Whole.{block_code}
use Rattle.frame_subframe.proofs.selected.Goals as goal
use Rattle.frame_subframe.proofs.selected.Goals.{After-grid-xm, After-xmaxc-xmaxc}

pub grid-xm-requires : goal.grid-xm-requires
grid-xm-requires c = omega (arith, c.mc-mc.ensures, grid_in c.args.x)

-- the point after the grid is read, from the code of its largest size
abbrev read : After-xmaxc-xmaxc → After-grid-xm
read c = c.before.before.before

-- the selected grid
selects : (c : After-grid-xm) → let x = c.args.x in c.grid-xm.result ≡ grid (Mc x) x
selects c =
    let m = c.mc-mc in
    let x = c.args.x in
    let given : c.grid-xm.result ≡ grid m.result x = c.grid-xm.ensures in
    given ∙ ap (λ (n : ℕ). grid n x) m.ensures

-- the code of its largest size
codes : (c : After-xmaxc-xmaxc) → c.xmaxc-xmaxc.result ≡ block_code (read c).args.x
codes c =
    let k = c.before in
    let g = k.before.before in
    let n : length g.grid-xm.result ≡ 13 = search rules in
    let e : k.peak.result ≡ peak (take 13 g.grid-xm.result) = k.peak.ensures in
    c.xmaxc-xmaxc.ensures ∙ ap xmaxc (res k.peak ∙ (e ∙ ap peak (take_all 13 g.grid-xm.result (omega arith) ∙ selects g)))

pub pulse_codes-requires : goal.pulse_codes-requires
pulse_codes-requires c =
    let x = (read c).args.x in
    rw (res c.xmaxc-xmaxc, codes c) (xmaxc_fits (peak (grid (Mc x) x)) (peak_in (grid (Mc x) x)))

pub returns : goal.returns
returns c =
    let k = c.before in
    let g = read k in
    let code = res k.xmaxc-xmaxc ∙ codes k in
    let given : c.pulse_codes.result ≡ xMc (amplitude (mem w16 k.xmaxc-xmaxc.result)) g.grid-xm.result = c.pulse_codes.ensures in
    record {
      mc = g.mc-mc.ensures;
      xmaxc = code;
      xmc = given ∙ ap₂ (λ (n : ℤ) (xm : List ℤ). xMc (amplitude n) xm) code (selects g);
    }
