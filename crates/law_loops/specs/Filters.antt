-- The standard's filters on arrays: the filters with one state, sample by sample; and the two lattices on one sample, section by section.
use Rattle.std.specs.Prelude.{ℕ, ◌-◌, ◌≡◌, refl, ℤ, pos, length, set, take}
use mathlib.Core.List.{List, zip_with, zip}
use Rattle.std.specs.Int.{w32}
use Rattle.math_lists.specs.Scan.{run}
use Rattle.math_lists.specs.Steps.{steps}
use Rattle.math_lists.specs.Tab.{tab}
use Rattle.math_lists.specs.For.{by_both, steps_run}
use Rattle.standard.specs.Arithmetic.{◌>>◌, low, up, add, sub, mult_r, L_add, L_sub, L_mult}
use Rattle.standard.specs.Tables.{◌at◌, neg}
use Rattle.standard.specs.Preprocessing.{Offset, recursive, offset, emphasis}
use Rattle.standard.specs.ShortTerm.{section, analysed}
use Rattle.standard.specs.Decoder.{inverse_section, synthesised, de_emphasis}

-- ---- 4.2.2 Offset compensation

-- iteration k, on z1, L_z2 and sof[0..159]
unfoldable pub sof_turn : List ℤ → ℕ → Offset × List ℤ → Offset × List ℤ
sof_turn so k (m, sof) =
    let s1 = sub (so at k) m.z1 in
    let L_s2 = up w32 s1 15 in
    let msp = low (m.L_z2 >> 15) in
    let lsp = low (L_sub m.L_z2 (up w32 msp 15)) in
    let temp = mult_r lsp (pos 32735) in
    let L-s2' = L_add L_s2 temp in
    let L_z2 = L_add (L_mult msp (pos 32735) >> 1) L-s2' in
    (record { z1 = so at k; L_z2 = L_z2 }, set sof k (low (L_add L_z2 (pos 16384) >> 15)))

-- for k = 0 to 159, it is the definition's run
pub sof_loop : (m : Offset) (so sof : List ℤ) → length sof ≡ length so → steps (sof_turn so) (length so) 0 (m, sof) ≡ run offset m so
unfolding sof_turn offset recursive
sof_loop m so = steps_run offset m so (pos 0)

-- ---- 4.2.3 Pre-emphasis

-- iteration k, on mp and s[0..159]
unfoldable pub s_turn : List ℤ → ℕ → ℤ × List ℤ → ℤ × List ℤ
s_turn sof k (mp, s) = (sof at k, set s k (add (sof at k) (mult_r mp (neg 28180))))

-- for k = 0 to 159, it is the definition's run
pub s_loop : (mp : ℤ) (sof s : List ℤ) → length s ≡ length sof → steps (s_turn sof) (length sof) 0 (mp, s) ≡ run emphasis mp sof
unfolding s_turn emphasis
s_loop mp sof = steps_run emphasis mp sof (pos 0)

-- ---- 4.3.5 De-emphasis filtering

-- iteration k, on msr and sro[0..159]
unfoldable pub sro_turn : List ℤ → ℕ → ℤ × List ℤ → ℤ × List ℤ
sro_turn sr k (msr, sro) =
    let srok = add (sr at k) (mult_r msr (pos 28180)) in
    (srok, set sro k srok)

-- for k = 0 to 159, it is the definition's run
pub sro_loop : (msr : ℤ) (sr sro : List ℤ) → length sro ≡ length sr → steps (sro_turn sr) (length sr) 0 (msr, sro) ≡ run de_emphasis msr sr
unfolding sro_turn de_emphasis
sro_loop msr sr = steps_run de_emphasis msr sr (pos 0)

-- ---- 4.2.10: rp[i] stands at index i − 1

-- iteration i, on di, sav and u[0..7]
unfoldable pub section_turn : List ℤ → ℕ → ℤ × ℤ × List ℤ → ℤ × ℤ × List ℤ
section_turn rp i (di, sav, u) =
    let temp = add (u at (i - 1)) (mult_r (rp at (i - 1)) di) in
    let di' = add di (mult_r (rp at (i - 1)) (u at (i - 1))) in
    (di', temp, set u (i - 1) sav)

-- one sample: di = s[k], sav = di, for i = 1 to 8, d[k] = di
unfoldable pub analysis_loop : List ℤ → ℤ → List ℤ → List ℤ × ℤ
analysis_loop rp s u =
    let t = steps (section_turn rp) 8 1 (s, s, u) in
    (t.2, t.0)

-- u[0..7] and d[k] are those of the definition
pub analysis_is : (rp : List ℤ) (s : ℤ) (u : List ℤ) → length rp ≡ 8 → length u ≡ 8 → analysis_loop rp s u ≡ analysed u (rp, s)
unfolding steps section_turn analysis_loop tab run zip zip_with section analysed
analysis_is rp s = by_both (λ rp u. analysis_loop rp s u ≡ analysed u (rp, s)) (pos 0) 8 8 (λ f g. refl) rp

-- ---- 4.3.4: rrp[i] stands at index i − 1

-- iteration i, on sri and v[0..8]
unfoldable pub inverse_turn : List ℤ → ℕ → ℤ × List ℤ → ℤ × List ℤ
inverse_turn rrp i (sri, v) =
    let sri' = sub sri (mult_r (rrp at (8 - i)) (v at (8 - i))) in
    (sri', set v (9 - i) (add (v at (8 - i)) (mult_r (rrp at (8 - i)) sri')))

-- one sample: sri = wt[k], for i = 1 to 8, sr[k] = sri, v[0] = sri
unfoldable pub synthesis_loop : List ℤ → ℤ → List ℤ → List ℤ × ℤ
synthesis_loop rrp wt v =
    let t = steps (inverse_turn rrp) 8 1 (wt, v) in
    (set t.1 0 t.0, t.0)

-- v[0..7] and sr[k] are those of the definition; v[8] is stored and never read
pub synthesis_is : (rrp : List ℤ) (wt : ℤ) (v : List ℤ) → length rrp ≡ 8 → length v ≡ 9
    → let t = synthesis_loop rrp wt v in (take 8 t.0, t.1) ≡ synthesised (take 8 v) (rrp, wt)
unfolding steps inverse_turn synthesis_loop tab zip zip_with inverse_section synthesised
synthesis_is rrp wt =
    by_both (λ rrp v. let t = synthesis_loop rrp wt v in (take 8 t.0, t.1) ≡ synthesised (take 8 v) (rrp, wt)) (pos 0) 8 9
    (λ f g. refl) rrp
