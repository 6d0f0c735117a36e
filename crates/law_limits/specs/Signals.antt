-- The lists and numbers that are computed while a frame is coded, under the standard's names. The laws of this crate speak of these.
use Rattle.std.specs.Prelude.{ℕ, ◌<◌, ◌≡◌, ℤ, pos, nat_abs, get_or, take, replicate}
use Rattle.std.proofs.Math.Path.{refl}
use mathlib.Core.List.{List, [], map}
use Rattle.std.specs.Int.{w16, w32}
use Rattle.math_lists.specs.Cut.{cut, cut_count}
use Rattle.math_lists.specs.Scan.{run, run_at}
use Rattle.standard.specs.Arithmetic.{shr, sub, peak}
use Rattle.standard.specs.Preprocessing.{downscaled, Offset, offset, emphasis}
use Rattle.standard.specs.Lpc.{scalauto, scaled, L_ACF, ending, r, ratio_codes}
use Rattle.standard.specs.LongTerm.{scal, lag_search, L_power, bc, dpp, residual}
use Rattle.standard.specs.Rpe.{weighted, grid, Mc, xmaxc, amplitude, xMc}
use Rattle.standard.specs.Coder.{Coder, analysis, Subcoded, sub_coded, sub_step, coded}

-- ---- 4.2.1 to 4.2.10, of a frame sop[0..159]

module _ (c : Coder) where
  -- what the offset filter starts from
  abbrev pub kept : Offset
  kept = record { z1 = c.z1; L_z2 = c.L_z2 }

  module _ (sop : List ℤ) where
    -- and what it keeps after k samples
    abbrev pub memory : ℕ → Offset
    memory k = (run offset kept (downscaled (take k sop))).0

    -- sof[0..159]
    abbrev pub sof : List ℤ
    sof = (run offset kept (downscaled sop)).1

    -- s[0..159]
    abbrev pub s : List ℤ
    s = (run emphasis c.mp sof).1

    -- the scale, and s scaled by it
    abbrev pub scale : ℤ
    scale = scalauto s

    abbrev pub small : List ℤ
    small = scaled scale s

    -- L_ACF[0..8]
    abbrev pub sums : List ℤ
    sums = L_ACF small

    -- d[0..159], in the four parts of the sub-frames
    abbrev pub parts : List (List ℤ)
    parts = cut (replicate 4 40) (analysis c sop).d

    -- d[0..39] of sub-frame i, and dp[−120..−1] where it starts
    abbrev pub part : ℕ → List ℤ
    part i = get_or parts i []

    abbrev pub history : ℕ → List ℤ
    history i = (run sub_step c.dp (take i parts)).0

    -- the definitions' frame is made of these
    pub frame_is : ((coded c sop).1.ending ≡ ending sums) × ((coded c sop).1.LARc ≡ ratio_codes (r sums))
    unfolding coded analysis
    frame_is = (refl, refl)

    -- and its sub-frames
    pub subframe_is : (i : ℕ) (z : Subcoded) → i < 4 → get_or (coded c sop).1.subframes i z ≡ sub_coded (history i) (part i)
    unfolding coded sub_step
    subframe_is i z h = run_at sub_step c.dp parts i [] z (rw cut_count h)

-- ---- 4.2.11 to 4.2.16, of a sub-frame that starts from dp[−120..−1] and d[0..39]

-- d, scaled
abbrev pub wt : List ℤ → List ℤ
wt d = map (λ x. shr w16 x (scal d)) d

module _ (dp d : List ℤ) where
  -- the lag and the gain that it is coded with
  abbrev pub lag : ℕ
  lag = nat_abs (sub_coded dp d).codes.Nc

  abbrev pub gain : ℕ
  gain = nat_abs (sub_coded dp d).codes.bc

  -- L_max, rescaled, and L_power
  abbrev pub L_max : ℤ
  L_max = shr w32 (lag_search d dp).sum (sub (pos 6) (scal d))

  abbrev pub L_pow : ℤ
  L_pow = L_power lag dp

  -- e[0..39]
  abbrev pub e : List ℤ
  e = residual d (dpp lag gain dp)

  -- x[0..39]
  abbrev pub x : List ℤ
  x = weighted e

  -- xM[0..12], and the exponent of their amplitude
  abbrev pub xM : List ℤ
  xM = grid (nat_abs (sub_coded dp d).codes.Mc) x

  abbrev pub exp : ℤ
  exp = (amplitude (sub_coded dp d).codes.xmaxc).exp

  -- the definitions' sub-frame is made of these
  pub codes_are : (gain ≡ bc L_max L_pow) × ((sub_coded dp d).codes.Mc ≡ pos (Mc x)) × ((sub_coded dp d).codes.xmaxc ≡ xmaxc (peak xM))
      × ((sub_coded dp d).codes.xMc ≡ xMc (amplitude (sub_coded dp d).codes.xmaxc) xM)
  unfolding sub_coded
  codes_are = (refl, refl, refl, refl)
