-- House rules, 'Worked rows': all twelve rows as one statement over the definitions; and 'Arithmetic' at the ends of the range.
use Rattle.std.specs.Prelude.{◌≡◌, refl, List, [], ◌∷◌, ℤ, pos, take, replicate}
use Rattle.std.specs.Int.{w16, w32}
use Rattle.math_lists.specs.Scan.{run}
use Rattle.standard.specs.Arithmetic.{add, sub, L_add, L_sub, shr, shl, mult, mult_r, abs, div, norm}
use Rattle.standard.specs.Tables.{neg}
use Rattle.standard.specs.Frame.{words}
use Rattle.standard.specs.Lpc.{scaled, rescaled}
use Rattle.standard.specs.Rpe.{xmaxc, amplitude, xMp}
use Rattle.standard.specs.Coder.{frame, coded}
use Rattle.standard.specs.Decoder.{Nr}
use Rattle.standard.specs.Packed.{packed}
use Rattle.standard.specs.House.{home_coder, home_decoder}
use Rattle.standard.specs.Opened.{opened}

-- 4.2.4's scaling and rescaling of one sample
abbrev there_and_back : ℤ → ℤ → List ℤ
there_and_back scale x = rescaled scale (scaled scale (x ∷ []))

-- the lags that are used when these lags are received one after the other, from home
abbrev pub lags_used : List ℤ → List ℤ
lags_used received = (run (λ nrp Ncr. let lag = Nr nrp Ncr in (lag, lag)) home_decoder.nrp received).1

pub record Worked : Type 0 where
  pub mult_minus : mult (neg 1) (pos 16384) ≡ neg 1
  pub mult_r_minus : mult_r (neg 1) (pos 16384) ≡ pos 0
  pub mult_plus : mult (pos 1) (pos 16384) ≡ pos 0
  pub mult_r_plus : mult_r (pos 1) (pos 16384) ≡ pos 1
  pub mult_r_least : mult_r (neg 32768) (neg 32768) ≡ pos 32767
  pub div_half : div (pos 1) (pos 2) ≡ pos 16384
  pub div_same : div (pos 7) (pos 7) ≡ pos 32767
  pub div_zero : div (pos 0) (pos 0) ≡ pos 0
  pub norm_one : norm (pos 1) ≡ pos 30
  pub norm_top : norm (pos 1073741824) ≡ pos 0
  pub kept : there_and_back (pos 4) (pos 32759) ≡ pos 32752 ∷ []
  pub wrapped : there_and_back (pos 4) (pos 32760) ≡ neg 32768 ∷ []
  pub maximum_31 : xmaxc (pos 31) ≡ pos 0
  pub maximum_32 : xmaxc (pos 32) ≡ pos 1
  pub maximum_511 : xmaxc (pos 511) ≡ pos 15
  pub maximum_512 : xmaxc (pos 512) ≡ pos 16
  pub maximum_32767 : xmaxc (pos 32767) ≡ pos 63
  pub code_0 : amplitude (pos 0) ≡ record { exp = neg 4; mant = 7 }
  pub code_2 : amplitude (pos 2) ≡ record { exp = neg 2; mant = 3 }
  pub code_15 : amplitude (pos 15) ≡ record { exp = pos 0; mant = 7 }
  pub code_16 : amplitude (pos 16) ≡ record { exp = pos 1; mant = 0 }
  pub code_63 : amplitude (pos 63) ≡ record { exp = pos 6; mant = 7 }
  pub quietest : xMp (amplitude (pos 0)) (pos 4 ∷ pos 3 ∷ []) ≡ pos 4 ∷ neg 4 ∷ []
  pub loudest : xMp (amplitude (pos 63)) (pos 7 ∷ pos 0 ∷ []) ≡ pos 28671 ∷ neg 28671 ∷ []
  pub lags : lags_used (pos 39 ∷ pos 40 ∷ pos 121 ∷ pos 120 ∷ []) ≡ pos 40 ∷ pos 40 ∷ pos 40 ∷ pos 120 ∷ []
  pub zero_packed : take 5 (packed (words (frame (coded home_coder (replicate 160 (pos 0))).1))) ≡ 32 ∷ 72 ∷ 23 ∷ 214 ∷ 132 ∷ []

pub worked : Worked
unfolding opened
worked = record {
  mult_minus = refl;
  mult_r_minus = refl;
  mult_plus = refl;
  mult_r_plus = refl;
  mult_r_least = refl;
  div_half = refl;
  div_same = refl;
  div_zero = refl;
  norm_one = refl;
  norm_top = refl;
  kept = refl;
  wrapped = refl;
  maximum_31 = refl;
  maximum_32 = refl;
  maximum_511 = refl;
  maximum_512 = refl;
  maximum_32767 = refl;
  code_0 = refl;
  code_2 = refl;
  code_15 = refl;
  code_16 = refl;
  code_63 = refl;
  quietest = refl;
  loudest = refl;
  lags = refl;
  zero_packed = refl;
}

pub record RangeEnds : Type 0 where
  pub add_high : add (pos 32767) (pos 1) ≡ pos 32767
  pub sub_low : sub (neg 32768) (pos 1) ≡ neg 32768
  pub L_add_high : L_add (pos 2147483647) (pos 1) ≡ pos 2147483647
  pub L_sub_low : L_sub (neg 2147483648) (pos 1) ≡ neg 2147483648
  pub abs_least : abs (neg 32768) ≡ pos 32767
  pub mult_least : mult (neg 32768) (neg 32768) ≡ pos 32767
  pub shr_down : shr w16 (neg 1) (pos 1) ≡ neg 1
  pub shr_left : shr w16 (pos 1) (neg 1) ≡ pos 2
  pub shl_low_bits : shl w16 (pos 32767) (pos 1) ≡ neg 2
  pub shl_right : shl w32 (neg 3) (neg 1) ≡ neg 2

pub ends : RangeEnds
unfolding opened
ends = record {
  add_high = refl;
  sub_low = refl;
  L_add_high = refl;
  L_sub_low = refl;
  abs_least = refl;
  mult_least = refl;
  shr_down = refl;
  shr_left = refl;
  shl_low_bits = refl;
  shl_right = refl;
}
