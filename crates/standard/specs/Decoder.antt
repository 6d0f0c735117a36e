-- 4.3: the decoder, its procedures in the order of the standard.
use Rattle.std.specs.Prelude.{cond, ℤ, pos, nat_abs, take}
use mathlib.Core.List.{List, [], ◌∷◌, map, zip, foldr, flatten}
use Rattle.math_lists.specs.Scan.{run}
use Rattle.standard.specs.Arithmetic.{add, sub, mult_r}
use Rattle.standard.specs.Frame.{sample, Subframe, Frame}
use Rattle.standard.specs.ShortTerm.{ratios, coefficients}
use Rattle.standard.specs.LongTerm.{is_lag}
use Rattle.standard.specs.Rpe.{reconstructed, updated}

-- what the decoder keeps in memory for the next frame: drp[−120..−1] and the lag nrp of 4.3.2, LARpp(j − 1)[1..8] of 4.3.3, v[0..7] of
-- 4.3.4 and msr of 4.3.5
pub record Decoder : Type 0 where
  pub drp : List ℤ
  pub nrp : ℤ
  pub LARpp : List ℤ
  pub v : List ℤ
  pub msr : ℤ

-- ---- 4.3.1, 4.3.2 RPE decoding, long term synthesis filtering

-- Nr: the received lag, if it lies in 40 to 120; the remembered lag otherwise
unfoldable pub Nr : ℤ → ℤ → ℤ
Nr nrp Ncr = cond (is_lag Ncr) Ncr nrp

-- one sub-frame: drp[−120..−1] and nrp after it, and drp[0..39]
unfoldable pub sub_decoded : List ℤ × ℤ → Subframe → (List ℤ × ℤ) × List ℤ
sub_decoded (drp, nrp) f =
    let lag = Nr nrp f.Nc in
    let new = reconstructed (nat_abs lag) f drp in
    ((updated drp new, lag), new)

-- ---- 4.3.3 Computation of the decoded reflection coefficients: `ratios` (4.2.8) and `coefficients` (4.2.9), as in the coder

-- ---- 4.3.4 Short term synthesis filtering section

-- section i, of rrp[i] and v[i − 1]: the next sri, and v[i] put before the v of the sections above
unfoldable pub inverse_section : ℤ × ℤ → ℤ × List ℤ → ℤ × List ℤ
inverse_section (rrp, v) (sri, above) =
    let out = sub sri (mult_r rrp v) in
    (out, add v (mult_r rrp out) ∷ above)

-- one sample through the eight sections, the eighth first: v[0..7], and sr[k]. v[8] is never read
unfoldable pub synthesised : List ℤ → List ℤ × ℤ → List ℤ × ℤ
synthesised v (rrp, wt) =
    let t = foldr inverse_section (wt, []) (zip rrp v) in
    (t.0 ∷ take 7 t.1, t.0)

-- ---- 4.3.5 De-emphasis filtering

-- one sample sr[k]: the next msr, and sro[k]
unfoldable pub de_emphasis : ℤ → ℤ → ℤ × ℤ
de_emphasis msr sr =
    let sro = add sr (mult_r msr (pos 28180)) in
    (sro, sro)

-- ---- 4.3.6, 4.3.7 Upscaling of the output signal, truncation of the output variable

-- srop[k] of sro[k]
unfoldable pub srop : ℤ → ℤ
srop sro = sample (add sro sro)

-- ---- 4.3 the whole decoder: what it keeps for the next frame, and 160 samples

unfoldable pub decoded : Decoder → Frame → Decoder × List ℤ
decoded m f =
    let wt = run sub_decoded (m.drp, m.nrp) f.subframes in
    let larpp = ratios f.LARc in
    let sr = run synthesised m.v (zip (coefficients m.LARpp larpp) (flatten wt.1)) in
    let sro = run de_emphasis m.msr sr.1 in
    (record { drp = wt.0.0; nrp = wt.0.1; LARpp = larpp; v = sr.0; msr = sro.0 }, map srop sro.1)
