-- 4.2: the encoder, which is called the coder here. Its procedures stand in the order of the standard.
use mathlib.Core.List.{List, map, zip}
use Rattle.std.specs.Prelude.{ℤ, pos, nat_abs, replicate}
use Rattle.std.specs.Int.{w32}
use Rattle.math_lists.specs.Scan.{run}
use Rattle.math_lists.specs.Best.{Best}
use Rattle.math_lists.specs.Cut.{cut}
use Rattle.standard.specs.Arithmetic.{shr, sub, peak}
use Rattle.standard.specs.Frame.{Subframe, Frame}
use Rattle.standard.specs.Preprocessing.{downscaled, offset, emphasis}
use Rattle.standard.specs.Lpc.{scalauto, scaled, rescaled, L_ACF, Ending, ending, r, ratio_codes}
use Rattle.standard.specs.ShortTerm.{ratios, coefficients, analysed}
use Rattle.standard.specs.LongTerm.{scal, lag_search, Nc, L_power, bc, dpp, residual}
use Rattle.standard.specs.Rpe.{weighted, Mc, grid, xmaxc, amplitude, xMc, reconstructed, updated}

-- what the coder keeps in memory for the next frame: z1 and L_z2 of 4.2.2, mp of 4.2.3, LARpp(j − 1)[1..8] of 4.2.8, u[0..7] of 4.2.10 and
-- dp[−120..−1] of 4.2.18
pub record Coder : Type 0 where
  pub z1 : ℤ
  pub L_z2 : ℤ
  pub mp : ℤ
  pub LARpp : List ℤ
  pub u : List ℤ
  pub dp : List ℤ

-- what 4.2.1 to 4.2.10 make of a frame of samples
pub record Analysis : Type 0 where
  pub next : Coder
  pub LARc : List ℤ
  pub ending : Ending
  pub d : List ℤ

-- "procedure 4.2.0 to 4.2.10 are done once per frame"
unfoldable pub analysis : Coder → List ℤ → Analysis
analysis c sop =
    let sof = run offset (record { z1 = c.z1; L_z2 = c.L_z2 }) (downscaled sop) in
    let s = run emphasis c.mp sof.1 in
    let scale = scalauto s.1 in
    let small = scaled scale s.1 in
    let L-acf = L_ACF small in
    let larc = ratio_codes (r L-acf) in
    let larpp = ratios larc in
    let d = run analysed c.u (zip (coefficients c.LARpp larpp) (rescaled scale small)) in
    record {
      next = record { z1 = sof.0.z1; L_z2 = sof.0.L_z2; mp = s.0; LARpp = larpp; u = d.0; dp = c.dp };
      LARc = larc;
      ending = ending L-acf;
      d = d.1;
    }

-- what 4.2.11 to 4.2.18 make of 40 samples of d: the codewords, and the search that gave the lag
pub record Subcoded : Type 0 where
  pub codes : Subframe
  pub search : Best

-- "Procedure 4.2.11 to 4.2.18 are to be executed four times per frame"
unfoldable pub sub_coded : List ℤ → List ℤ → Subcoded
sub_coded dp d =
    let search = lag_search d dp in
    let lag = Nc search in
    let L_max = shr w32 search.sum (sub (pos 6) (scal d)) in
    let gain = bc L_max (L_power lag dp) in
    let x = weighted (residual d (dpp lag gain dp)) in
    let m = Mc x in
    let xM = grid m x in
    let code = xmaxc (peak xM) in
    record { codes = record { Nc = pos lag; bc = pos gain; Mc = pos m; xmaxc = code; xMc = xMc (amplitude code) xM }; search = search }

-- the same, with dp after the sub-frame
unfoldable pub sub_step : List ℤ → List ℤ → List ℤ × Subcoded
sub_step dp d =
    let s = sub_coded dp d in
    let f = s.codes in
    (updated dp (reconstructed (nat_abs f.Nc) f dp), s)

-- what the coder makes of a frame of samples
pub record Coded : Type 0 where
  pub LARc : List ℤ
  pub ending : Ending
  pub subframes : List Subcoded

-- its codewords
unfoldable pub frame : Coded → Frame
frame c = record { LARc = c.LARc; subframes = map (λ s. s.codes) c.subframes }

-- of 160 samples: what the coder keeps for the next frame, and what it makes of them
unfoldable pub coded : Coder → List ℤ → Coder × Coded
coded c sop =
    let a = analysis c sop in
    let t = run sub_step c.dp (cut (replicate 4 40) a.d) in
    let n = a.next in
    let next : Coder = record { z1 = n.z1; L_z2 = n.L_z2; mp = n.mp; LARpp = n.LARpp; u = n.u; dp = t.0 } in
    (next, record { LARc = a.LARc; ending = a.ending; subframes = t.1 })
