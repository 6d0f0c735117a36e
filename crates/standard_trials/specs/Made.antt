-- Frames for what no vector shows, encoded and decoded. Written by outside/write_trials.py.
use Rattle.std.specs.Prelude.{◌≡◌, refl, [], ◌∷◌, pos, replicate}
use Rattle.std.proofs.Math.Option.{some}
use Rattle.standard.specs.Tables.{neg}
use Rattle.standard.specs.Lpc.{stopped, complete}
use Rattle.standard.specs.House.{rule, found}
use Rattle.standard.specs.Answers.{encode, decode}
use Rattle.standard.specs.Opened.{opened}

-- stopped at 2
pub stopped_at_2 : encode (record { z1 = pos 0; L_z2 = pos 0; mp = pos 0; LARpp = pos 0 ∷ pos 0 ∷ pos 0 ∷ pos 0 ∷ pos 0 ∷ pos 0 ∷ pos 0 ∷ pos 0 ∷ []; u = pos 0 ∷ pos 0 ∷ pos 0 ∷ pos 0 ∷ pos 0 ∷ pos 0 ∷ pos 0 ∷ pos 0 ∷ []; dp = pos 0 ∷ pos 0 ∷ pos 0 ∷ pos 0 ∷ pos 0 ∷ pos 0 ∷ pos 0 ∷ pos 0 ∷ pos 0 ∷ pos 0 ∷ pos 0 ∷ pos 0 ∷ pos 0 ∷ pos 0 ∷ pos 0 ∷ pos 0 ∷ pos 0 ∷ pos 0 ∷ pos 0 ∷ pos 0 ∷ pos 0 ∷ pos 0 ∷ pos 0 ∷ pos 0 ∷ pos 0 ∷ pos 0 ∷ pos 0 ∷ pos 0 ∷ pos 0 ∷ pos 0 ∷ pos 0 ∷ pos 0 ∷ pos 0 ∷ pos 0 ∷ pos 0 ∷ pos 0 ∷ pos 0 ∷ pos 0 ∷ pos 0 ∷ pos 0 ∷ pos 0 ∷ pos 0 ∷ pos 0 ∷ pos 0 ∷ pos 0 ∷ pos 0 ∷ pos 0 ∷ pos 0 ∷ pos 0 ∷ pos 0 ∷ pos 0 ∷ pos 0 ∷ pos 0 ∷ pos 0 ∷ pos 0 ∷ pos 0 ∷ pos 0 ∷ pos 0 ∷ pos 0 ∷ pos 0 ∷ pos 0 ∷ pos 0 ∷ pos 0 ∷ pos 0 ∷ pos 0 ∷ pos 0 ∷ pos 0 ∷ pos 0 ∷ pos 0 ∷ pos 0 ∷ pos 0 ∷ pos 0 ∷ pos 0 ∷ pos 0 ∷ pos 0 ∷ pos 0 ∷ pos 0 ∷ pos 0 ∷ pos 0 ∷ pos 0 ∷ pos 0 ∷ pos 0 ∷ pos 0 ∷ pos 0 ∷ pos 0 ∷ pos 0 ∷ pos 0 ∷ pos 0 ∷ pos 0 ∷ pos 0 ∷ pos 0 ∷ pos 0 ∷ pos 0 ∷ pos 0 ∷ pos 0 ∷ pos 0 ∷ pos 0 ∷ pos 0 ∷ pos 0 ∷ pos 0 ∷ pos 0 ∷ pos 0 ∷ pos 0 ∷ pos 0 ∷ pos 0 ∷ pos 0 ∷ pos 0 ∷ pos 0 ∷ pos 0 ∷ pos 0 ∷ pos 0 ∷ pos 0 ∷ pos 0 ∷ pos 0 ∷ pos 0 ∷ pos 0 ∷ pos 0 ∷ pos 0 ∷ pos 0 ∷ pos 0 ∷ [] }) (pos 3 ∷ neg 28 ∷ pos 79 ∷ neg 155 ∷ pos 255 ∷ neg 381 ∷ pos 531 ∷ neg 705 ∷ pos 904 ∷ neg 1127 ∷ pos 1373 ∷ neg 1642 ∷ pos 1935 ∷ neg 2249 ∷ pos 2585 ∷ neg 2942 ∷ pos 3321 ∷ neg 3719 ∷ pos 4137 ∷ neg 4573 ∷ pos 5028 ∷ neg 5501 ∷ pos 5990 ∷ neg 6495 ∷ pos 7016 ∷ neg 7551 ∷ pos 8099 ∷ neg 8660 ∷ pos 9234 ∷ neg 9818 ∷ pos 10412 ∷ neg 11016 ∷ pos 11628 ∷ neg 12247 ∷ pos 12872 ∷ neg 13503 ∷ pos 14139 ∷ neg 14778 ∷ pos 15419 ∷ neg 16062 ∷ pos 16705 ∷ neg 17348 ∷ pos 17989 ∷ neg 18628 ∷ pos 19264 ∷ neg 19895 ∷ pos 20520 ∷ neg 21139 ∷ pos 21751 ∷ neg 22355 ∷ pos 22949 ∷ neg 23533 ∷ pos 24107 ∷ neg 24668 ∷ pos 25216 ∷ neg 25751 ∷ pos 26272 ∷ neg 26777 ∷ pos 27266 ∷ neg 27739 ∷ pos 28194 ∷ neg 28630 ∷ pos 29048 ∷ neg 29446 ∷ pos 29825 ∷ neg 30182 ∷ pos 30518 ∷ neg 30832 ∷ pos 31125 ∷ neg 31394 ∷ pos 31640 ∷ neg 31863 ∷ pos 32062 ∷ neg 32236 ∷ pos 32386 ∷ neg 32512 ∷ pos 32612 ∷ neg 32688 ∷ pos 32739 ∷ neg 32764 ∷ pos 32764 ∷ neg 32739 ∷ pos 32688 ∷ neg 32612 ∷ pos 32512 ∷ neg 32386 ∷ pos 32236 ∷ neg 32062 ∷ pos 31863 ∷ neg 31640 ∷ pos 31394 ∷ neg 31125 ∷ pos 30832 ∷ neg 30518 ∷ pos 30182 ∷ neg 29825 ∷ pos 29446 ∷ neg 29048 ∷ pos 28630 ∷ neg 28194 ∷ pos 27739 ∷ neg 27266 ∷ pos 26777 ∷ neg 26272 ∷ pos 25751 ∷ neg 25216 ∷ pos 24668 ∷ neg 24107 ∷ pos 23533 ∷ neg 22949 ∷ pos 22355 ∷ neg 21751 ∷ pos 21139 ∷ neg 20520 ∷ pos 19895 ∷ neg 19264 ∷ pos 18628 ∷ neg 17989 ∷ pos 17348 ∷ neg 16705 ∷ pos 16062 ∷ neg 15419 ∷ pos 14778 ∷ neg 14139 ∷ pos 13503 ∷ neg 12872 ∷ pos 12247 ∷ neg 11628 ∷ pos 11016 ∷ neg 10412 ∷ pos 9818 ∷ neg 9234 ∷ pos 8660 ∷ neg 8099 ∷ pos 7551 ∷ neg 7016 ∷ pos 6495 ∷ neg 5990 ∷ pos 5501 ∷ neg 5028 ∷ pos 4573 ∷ neg 4137 ∷ pos 3719 ∷ neg 3321 ∷ pos 2942 ∷ neg 2585 ∷ pos 2249 ∷ neg 1935 ∷ pos 1642 ∷ neg 1373 ∷ pos 1127 ∷ neg 904 ∷ pos 705 ∷ neg 531 ∷ pos 381 ∷ neg 255 ∷ pos 155 ∷ neg 79 ∷ pos 28 ∷ neg 3 ∷ []) (replicate 76 (pos 0)) ≡ record { number = 0; state = record { z1 = neg 4; L_z2 = neg 122997; mp = neg 4; LARpp = pos 25394 ∷ pos 0 ∷ pos 0 ∷ pos 0 ∷ neg 220 ∷ pos 546 ∷ neg 656 ∷ pos 436 ∷ []; u = neg 16 ∷ pos 32 ∷ neg 64 ∷ pos 81 ∷ neg 98 ∷ pos 131 ∷ neg 162 ∷ pos 161 ∷ []; dp = pos 364 ∷ pos 0 ∷ pos 0 ∷ neg 26 ∷ pos 0 ∷ pos 0 ∷ pos 26 ∷ pos 0 ∷ pos 0 ∷ neg 26 ∷ pos 0 ∷ pos 0 ∷ neg 26 ∷ pos 0 ∷ pos 0 ∷ neg 26 ∷ pos 0 ∷ pos 0 ∷ pos 26 ∷ pos 0 ∷ pos 0 ∷ neg 26 ∷ pos 0 ∷ pos 0 ∷ pos 26 ∷ pos 0 ∷ pos 0 ∷ pos 26 ∷ pos 0 ∷ pos 0 ∷ pos 26 ∷ pos 0 ∷ pos 0 ∷ neg 26 ∷ pos 0 ∷ pos 0 ∷ pos 26 ∷ pos 0 ∷ pos 0 ∷ neg 546 ∷ pos 0 ∷ pos 0 ∷ neg 6 ∷ pos 0 ∷ pos 0 ∷ pos 6 ∷ pos 0 ∷ pos 0 ∷ neg 6 ∷ pos 0 ∷ pos 0 ∷ pos 18 ∷ pos 0 ∷ pos 0 ∷ neg 6 ∷ pos 0 ∷ pos 0 ∷ pos 6 ∷ pos 0 ∷ pos 0 ∷ neg 6 ∷ pos 0 ∷ pos 0 ∷ pos 6 ∷ pos 0 ∷ pos 0 ∷ neg 42 ∷ pos 0 ∷ pos 0 ∷ pos 6 ∷ pos 0 ∷ pos 0 ∷ neg 6 ∷ pos 0 ∷ pos 0 ∷ pos 6 ∷ pos 0 ∷ pos 0 ∷ neg 42 ∷ pos 127 ∷ neg 280 ∷ pos 78 ∷ pos 0 ∷ pos 40 ∷ neg 78 ∷ pos 0 ∷ neg 40 ∷ pos 78 ∷ pos 0 ∷ pos 280 ∷ neg 546 ∷ pos 237 ∷ neg 40 ∷ pos 0 ∷ neg 17 ∷ pos 40 ∷ pos 0 ∷ pos 17 ∷ neg 40 ∷ pos 0 ∷ neg 17 ∷ pos 40 ∷ pos 0 ∷ neg 17 ∷ pos 40 ∷ pos 0 ∷ neg 17 ∷ pos 40 ∷ pos 0 ∷ pos 17 ∷ neg 40 ∷ pos 0 ∷ neg 17 ∷ neg 40 ∷ pos 0 ∷ pos 17 ∷ neg 40 ∷ pos 0 ∷ pos 17 ∷ pos 0 ∷ [] }; ending = some (stopped 2); marks = some rule ∷ some found ∷ some found ∷ some found ∷ []; codewords = pos 63 ∷ pos 32 ∷ pos 20 ∷ pos 11 ∷ pos 8 ∷ pos 5 ∷ pos 3 ∷ pos 2 ∷ pos 40 ∷ pos 0 ∷ pos 3 ∷ pos 22 ∷ pos 3 ∷ pos 4 ∷ pos 3 ∷ pos 5 ∷ pos 3 ∷ pos 4 ∷ pos 3 ∷ pos 4 ∷ pos 6 ∷ pos 4 ∷ pos 3 ∷ pos 4 ∷ pos 0 ∷ pos 40 ∷ pos 2 ∷ pos 0 ∷ pos 12 ∷ pos 7 ∷ pos 4 ∷ pos 3 ∷ pos 4 ∷ pos 1 ∷ pos 4 ∷ pos 3 ∷ pos 4 ∷ pos 3 ∷ pos 0 ∷ pos 3 ∷ pos 4 ∷ pos 3 ∷ pos 79 ∷ pos 1 ∷ pos 2 ∷ pos 8 ∷ pos 4 ∷ pos 3 ∷ pos 4 ∷ pos 2 ∷ pos 4 ∷ pos 3 ∷ pos 4 ∷ pos 3 ∷ pos 0 ∷ pos 3 ∷ pos 4 ∷ pos 3 ∷ pos 7 ∷ pos 91 ∷ pos 2 ∷ pos 0 ∷ pos 9 ∷ pos 0 ∷ pos 4 ∷ pos 3 ∷ pos 7 ∷ pos 3 ∷ pos 4 ∷ pos 3 ∷ pos 4 ∷ pos 4 ∷ pos 4 ∷ pos 3 ∷ pos 3 ∷ pos 3 ∷ [] }
unfolding opened
stopped_at_2 = refl

-- stopped at 5
pub stopped_at_5 : encode (record { z1 = pos 0; L_z2 = pos 0; mp = pos 0; LARpp = pos 0 ∷ pos 0 ∷ pos 0 ∷ pos 0 ∷ pos 0 ∷ pos 0 ∷ pos 0 ∷ pos 0 ∷ []; u = pos 0 ∷ pos 0 ∷ pos 0 ∷ pos 0 ∷ pos 0 ∷ pos 0 ∷ pos 0 ∷ pos 0 ∷ []; dp = pos 0 ∷ pos 0 ∷ pos 0 ∷ pos 0 ∷ pos 0 ∷ pos 0 ∷ pos 0 ∷ pos 0 ∷ pos 0 ∷ pos 0 ∷ pos 0 ∷ pos 0 ∷ pos 0 ∷ pos 0 ∷ pos 0 ∷ pos 0 ∷ pos 0 ∷ pos 0 ∷ pos 0 ∷ pos 0 ∷ pos 0 ∷ pos 0 ∷ pos 0 ∷ pos 0 ∷ pos 0 ∷ pos 0 ∷ pos 0 ∷ pos 0 ∷ pos 0 ∷ pos 0 ∷ pos 0 ∷ pos 0 ∷ pos 0 ∷ pos 0 ∷ pos 0 ∷ pos 0 ∷ pos 0 ∷ pos 0 ∷ pos 0 ∷ pos 0 ∷ pos 0 ∷ pos 0 ∷ pos 0 ∷ pos 0 ∷ pos 0 ∷ pos 0 ∷ pos 0 ∷ pos 0 ∷ pos 0 ∷ pos 0 ∷ pos 0 ∷ pos 0 ∷ pos 0 ∷ pos 0 ∷ pos 0 ∷ pos 0 ∷ pos 0 ∷ pos 0 ∷ pos 0 ∷ pos 0 ∷ pos 0 ∷ pos 0 ∷ pos 0 ∷ pos 0 ∷ pos 0 ∷ pos 0 ∷ pos 0 ∷ pos 0 ∷ pos 0 ∷ pos 0 ∷ pos 0 ∷ pos 0 ∷ pos 0 ∷ pos 0 ∷ pos 0 ∷ pos 0 ∷ pos 0 ∷ pos 0 ∷ pos 0 ∷ pos 0 ∷ pos 0 ∷ pos 0 ∷ pos 0 ∷ pos 0 ∷ pos 0 ∷ pos 0 ∷ pos 0 ∷ pos 0 ∷ pos 0 ∷ pos 0 ∷ pos 0 ∷ pos 0 ∷ pos 0 ∷ pos 0 ∷ pos 0 ∷ pos 0 ∷ pos 0 ∷ pos 0 ∷ pos 0 ∷ pos 0 ∷ pos 0 ∷ pos 0 ∷ pos 0 ∷ pos 0 ∷ pos 0 ∷ pos 0 ∷ pos 0 ∷ pos 0 ∷ pos 0 ∷ pos 0 ∷ pos 0 ∷ pos 0 ∷ pos 0 ∷ pos 0 ∷ pos 0 ∷ pos 0 ∷ pos 0 ∷ pos 0 ∷ pos 0 ∷ pos 0 ∷ [] }) (pos 3 ∷ pos 0 ∷ neg 79 ∷ pos 0 ∷ pos 255 ∷ pos 0 ∷ neg 531 ∷ pos 0 ∷ pos 904 ∷ pos 0 ∷ neg 1373 ∷ pos 0 ∷ pos 1935 ∷ pos 0 ∷ neg 2585 ∷ pos 0 ∷ pos 3321 ∷ pos 0 ∷ neg 4137 ∷ pos 0 ∷ pos 5028 ∷ pos 0 ∷ neg 5990 ∷ pos 0 ∷ pos 7016 ∷ pos 0 ∷ neg 8099 ∷ pos 0 ∷ pos 9234 ∷ pos 0 ∷ neg 10412 ∷ pos 0 ∷ pos 11628 ∷ pos 0 ∷ neg 12872 ∷ pos 0 ∷ pos 14139 ∷ pos 0 ∷ neg 15419 ∷ pos 0 ∷ pos 16705 ∷ pos 0 ∷ neg 17989 ∷ pos 0 ∷ pos 19264 ∷ pos 0 ∷ neg 20520 ∷ pos 0 ∷ pos 21751 ∷ pos 0 ∷ neg 22949 ∷ pos 0 ∷ pos 24107 ∷ pos 0 ∷ neg 25216 ∷ pos 0 ∷ pos 26272 ∷ pos 0 ∷ neg 27266 ∷ pos 0 ∷ pos 28194 ∷ pos 0 ∷ neg 29048 ∷ pos 0 ∷ pos 29825 ∷ pos 0 ∷ neg 30518 ∷ pos 0 ∷ pos 31125 ∷ pos 0 ∷ neg 31640 ∷ pos 0 ∷ pos 32062 ∷ pos 0 ∷ neg 32386 ∷ pos 0 ∷ pos 32612 ∷ pos 0 ∷ neg 32739 ∷ pos 0 ∷ pos 32764 ∷ pos 0 ∷ neg 32688 ∷ pos 0 ∷ pos 32512 ∷ pos 0 ∷ neg 32236 ∷ pos 0 ∷ pos 31863 ∷ pos 0 ∷ neg 31394 ∷ pos 0 ∷ pos 30832 ∷ pos 0 ∷ neg 30182 ∷ pos 0 ∷ pos 29446 ∷ pos 0 ∷ neg 28630 ∷ pos 0 ∷ pos 27739 ∷ pos 0 ∷ neg 26777 ∷ pos 0 ∷ pos 25751 ∷ pos 0 ∷ neg 24668 ∷ pos 0 ∷ pos 23533 ∷ pos 0 ∷ neg 22355 ∷ pos 0 ∷ pos 21139 ∷ pos 0 ∷ neg 19895 ∷ pos 0 ∷ pos 18628 ∷ pos 0 ∷ neg 17348 ∷ pos 0 ∷ pos 16062 ∷ pos 0 ∷ neg 14778 ∷ pos 0 ∷ pos 13503 ∷ pos 0 ∷ neg 12247 ∷ pos 0 ∷ pos 11016 ∷ pos 0 ∷ neg 9818 ∷ pos 0 ∷ pos 8660 ∷ pos 0 ∷ neg 7551 ∷ pos 0 ∷ pos 6495 ∷ pos 0 ∷ neg 5501 ∷ pos 0 ∷ pos 4573 ∷ pos 0 ∷ neg 3719 ∷ pos 0 ∷ pos 2942 ∷ pos 0 ∷ neg 2249 ∷ pos 0 ∷ pos 1642 ∷ pos 0 ∷ neg 1127 ∷ pos 0 ∷ pos 705 ∷ pos 0 ∷ neg 381 ∷ pos 0 ∷ pos 155 ∷ pos 0 ∷ neg 28 ∷ pos 0 ∷ []) (replicate 76 (pos 0)) ≡ record { number = 0; state = record { z1 = pos 0; L_z2 = pos 4156; mp = pos 0; LARpp = pos 0 ∷ pos 25394 ∷ pos 820 ∷ pos 16384 ∷ neg 220 ∷ pos 546 ∷ neg 656 ∷ pos 436 ∷ []; u = pos 16 ∷ neg 16 ∷ neg 48 ∷ pos 62 ∷ pos 71 ∷ neg 52 ∷ neg 62 ∷ pos 54 ∷ []; dp = pos 0 ∷ neg 240 ∷ pos 50 ∷ pos 0 ∷ pos 144 ∷ neg 50 ∷ pos 0 ∷ pos 48 ∷ pos 50 ∷ pos 0 ∷ neg 240 ∷ pos 151 ∷ pos 0 ∷ neg 48 ∷ neg 151 ∷ pos 0 ∷ pos 336 ∷ neg 151 ∷ pos 0 ∷ pos 48 ∷ pos 151 ∷ pos 0 ∷ neg 336 ∷ pos 252 ∷ pos 0 ∷ pos 48 ∷ neg 353 ∷ pos 0 ∷ pos 144 ∷ pos 50 ∷ pos 0 ∷ neg 48 ∷ pos 151 ∷ pos 0 ∷ neg 240 ∷ pos 151 ∷ pos 0 ∷ pos 48 ∷ neg 252 ∷ pos 0 ∷ pos 151 ∷ neg 308 ∷ pos 0 ∷ pos 252 ∷ pos 44 ∷ pos 0 ∷ neg 353 ∷ pos 308 ∷ pos 0 ∷ pos 50 ∷ neg 132 ∷ pos 0 ∷ pos 151 ∷ neg 220 ∷ pos 0 ∷ pos 151 ∷ pos 44 ∷ pos 0 ∷ neg 252 ∷ pos 220 ∷ pos 0 ∷ neg 84 ∷ neg 26 ∷ pos 0 ∷ pos 50 ∷ neg 62 ∷ pos 0 ∷ pos 17 ∷ pos 62 ∷ pos 0 ∷ neg 84 ∷ pos 97 ∷ pos 0 ∷ neg 17 ∷ neg 9 ∷ pos 0 ∷ pos 118 ∷ neg 97 ∷ pos 0 ∷ pos 17 ∷ neg 36 ∷ neg 43 ∷ pos 0 ∷ pos 84 ∷ neg 43 ∷ pos 0 ∷ pos 12 ∷ pos 43 ∷ pos 0 ∷ neg 60 ∷ pos 72 ∷ pos 0 ∷ pos 36 ∷ neg 101 ∷ pos 0 ∷ pos 36 ∷ pos 14 ∷ pos 0 ∷ neg 12 ∷ pos 43 ∷ pos 0 ∷ neg 60 ∷ pos 43 ∷ pos 0 ∷ pos 36 ∷ neg 72 ∷ pos 0 ∷ pos 60 ∷ neg 24 ∷ pos 5 ∷ pos 36 ∷ pos 14 ∷ neg 5 ∷ neg 12 ∷ pos 5 ∷ pos 5 ∷ pos 36 ∷ neg 24 ∷ pos 15 ∷ pos 0 ∷ [] }; ending = some (stopped 5); marks = some rule ∷ some found ∷ some found ∷ some found ∷ []; codewords = pos 32 ∷ pos 63 ∷ pos 21 ∷ pos 31 ∷ pos 8 ∷ pos 5 ∷ pos 3 ∷ pos 2 ∷ pos 40 ∷ pos 0 ∷ pos 2 ∷ pos 24 ∷ pos 4 ∷ pos 3 ∷ pos 4 ∷ pos 5 ∷ pos 2 ∷ pos 2 ∷ pos 5 ∷ pos 6 ∷ pos 0 ∷ pos 4 ∷ pos 5 ∷ pos 5 ∷ pos 1 ∷ pos 40 ∷ pos 1 ∷ pos 1 ∷ pos 11 ∷ pos 1 ∷ pos 5 ∷ pos 4 ∷ pos 1 ∷ pos 3 ∷ pos 7 ∷ pos 4 ∷ pos 0 ∷ pos 4 ∷ pos 5 ∷ pos 3 ∷ pos 1 ∷ pos 4 ∷ pos 60 ∷ pos 1 ∷ pos 1 ∷ pos 10 ∷ pos 0 ∷ pos 4 ∷ pos 7 ∷ pos 2 ∷ pos 1 ∷ pos 4 ∷ pos 6 ∷ pos 3 ∷ pos 3 ∷ pos 4 ∷ pos 4 ∷ pos 4 ∷ pos 3 ∷ pos 107 ∷ pos 0 ∷ pos 0 ∷ pos 2 ∷ pos 2 ∷ pos 7 ∷ pos 4 ∷ pos 1 ∷ pos 5 ∷ pos 5 ∷ pos 3 ∷ pos 1 ∷ pos 5 ∷ pos 6 ∷ pos 5 ∷ pos 3 ∷ pos 5 ∷ [] }
unfolding opened
stopped_at_5 = refl

-- stopped at 7
pub stopped_at_7 : encode (record { z1 = pos 0; L_z2 = pos 0; mp = pos 0; LARpp = pos 0 ∷ pos 0 ∷ pos 0 ∷ pos 0 ∷ pos 0 ∷ pos 0 ∷ pos 0 ∷ pos 0 ∷ []; u = pos 0 ∷ pos 0 ∷ pos 0 ∷ pos 0 ∷ pos 0 ∷ pos 0 ∷ pos 0 ∷ pos 0 ∷ []; dp = pos 0 ∷ pos 0 ∷ pos 0 ∷ pos 0 ∷ pos 0 ∷ pos 0 ∷ pos 0 ∷ pos 0 ∷ pos 0 ∷ pos 0 ∷ pos 0 ∷ pos 0 ∷ pos 0 ∷ pos 0 ∷ pos 0 ∷ pos 0 ∷ pos 0 ∷ pos 0 ∷ pos 0 ∷ pos 0 ∷ pos 0 ∷ pos 0 ∷ pos 0 ∷ pos 0 ∷ pos 0 ∷ pos 0 ∷ pos 0 ∷ pos 0 ∷ pos 0 ∷ pos 0 ∷ pos 0 ∷ pos 0 ∷ pos 0 ∷ pos 0 ∷ pos 0 ∷ pos 0 ∷ pos 0 ∷ pos 0 ∷ pos 0 ∷ pos 0 ∷ pos 0 ∷ pos 0 ∷ pos 0 ∷ pos 0 ∷ pos 0 ∷ pos 0 ∷ pos 0 ∷ pos 0 ∷ pos 0 ∷ pos 0 ∷ pos 0 ∷ pos 0 ∷ pos 0 ∷ pos 0 ∷ pos 0 ∷ pos 0 ∷ pos 0 ∷ pos 0 ∷ pos 0 ∷ pos 0 ∷ pos 0 ∷ pos 0 ∷ pos 0 ∷ pos 0 ∷ pos 0 ∷ pos 0 ∷ pos 0 ∷ pos 0 ∷ pos 0 ∷ pos 0 ∷ pos 0 ∷ pos 0 ∷ pos 0 ∷ pos 0 ∷ pos 0 ∷ pos 0 ∷ pos 0 ∷ pos 0 ∷ pos 0 ∷ pos 0 ∷ pos 0 ∷ pos 0 ∷ pos 0 ∷ pos 0 ∷ pos 0 ∷ pos 0 ∷ pos 0 ∷ pos 0 ∷ pos 0 ∷ pos 0 ∷ pos 0 ∷ pos 0 ∷ pos 0 ∷ pos 0 ∷ pos 0 ∷ pos 0 ∷ pos 0 ∷ pos 0 ∷ pos 0 ∷ pos 0 ∷ pos 0 ∷ pos 0 ∷ pos 0 ∷ pos 0 ∷ pos 0 ∷ pos 0 ∷ pos 0 ∷ pos 0 ∷ pos 0 ∷ pos 0 ∷ pos 0 ∷ pos 0 ∷ pos 0 ∷ pos 0 ∷ pos 0 ∷ pos 0 ∷ pos 0 ∷ pos 0 ∷ pos 0 ∷ pos 0 ∷ [] }) (pos 0 ∷ pos 0 ∷ neg 1 ∷ pos 0 ∷ pos 8 ∷ pos 0 ∷ neg 33 ∷ pos 0 ∷ pos 92 ∷ pos 0 ∷ neg 206 ∷ pos 0 ∷ pos 395 ∷ pos 0 ∷ neg 676 ∷ pos 0 ∷ pos 1062 ∷ pos 0 ∷ neg 1557 ∷ pos 0 ∷ pos 2160 ∷ pos 0 ∷ neg 2856 ∷ pos 0 ∷ pos 3624 ∷ pos 0 ∷ neg 4432 ∷ pos 0 ∷ pos 5243 ∷ pos 0 ∷ neg 6016 ∷ pos 0 ∷ pos 6709 ∷ pos 0 ∷ neg 7282 ∷ pos 0 ∷ pos 7702 ∷ pos 0 ∷ neg 7945 ∷ pos 0 ∷ pos 7994 ∷ pos 0 ∷ neg 7847 ∷ pos 0 ∷ pos 7513 ∷ pos 0 ∷ neg 7012 ∷ pos 0 ∷ pos 6375 ∷ pos 0 ∷ neg 5637 ∷ pos 0 ∷ pos 4840 ∷ pos 0 ∷ neg 4025 ∷ pos 0 ∷ pos 3233 ∷ pos 0 ∷ neg 2498 ∷ pos 0 ∷ pos 1846 ∷ pos 0 ∷ neg 1296 ∷ pos 0 ∷ pos 855 ∷ pos 0 ∷ neg 523 ∷ pos 0 ∷ pos 290 ∷ pos 0 ∷ neg 141 ∷ pos 0 ∷ pos 57 ∷ pos 0 ∷ neg 17 ∷ pos 0 ∷ pos 3 ∷ pos 0 ∷ pos 0 ∷ pos 0 ∷ pos 0 ∷ pos 0 ∷ neg 1 ∷ pos 0 ∷ pos 8 ∷ pos 0 ∷ neg 33 ∷ pos 0 ∷ pos 92 ∷ pos 0 ∷ neg 206 ∷ pos 0 ∷ pos 395 ∷ pos 0 ∷ neg 676 ∷ pos 0 ∷ pos 1062 ∷ pos 0 ∷ neg 1557 ∷ pos 0 ∷ pos 2160 ∷ pos 0 ∷ neg 2856 ∷ pos 0 ∷ pos 3624 ∷ pos 0 ∷ neg 4432 ∷ pos 0 ∷ pos 5243 ∷ pos 0 ∷ neg 6016 ∷ pos 0 ∷ pos 6709 ∷ pos 0 ∷ neg 7282 ∷ pos 0 ∷ pos 7702 ∷ pos 0 ∷ neg 7945 ∷ pos 0 ∷ pos 7994 ∷ pos 0 ∷ neg 7847 ∷ pos 0 ∷ pos 7513 ∷ pos 0 ∷ neg 7012 ∷ pos 0 ∷ pos 6375 ∷ pos 0 ∷ neg 5637 ∷ pos 0 ∷ pos 4840 ∷ pos 0 ∷ neg 4025 ∷ pos 0 ∷ pos 3233 ∷ pos 0 ∷ neg 2498 ∷ pos 0 ∷ pos 1846 ∷ pos 0 ∷ neg 1296 ∷ pos 0 ∷ pos 855 ∷ pos 0 ∷ neg 523 ∷ pos 0 ∷ pos 290 ∷ pos 0 ∷ neg 141 ∷ pos 0 ∷ pos 57 ∷ pos 0 ∷ neg 17 ∷ pos 0 ∷ pos 3 ∷ pos 0 ∷ pos 0 ∷ pos 0 ∷ []) (replicate 76 (pos 0)) ≡ record { number = 0; state = record { z1 = pos 0; L_z2 = pos 3914; mp = pos 0; LARpp = pos 0 ∷ pos 25394 ∷ pos 0 ∷ pos 16384 ∷ pos 4586 ∷ pos 11468 ∷ neg 656 ∷ pos 436 ∷ []; u = pos 0 ∷ pos 0 ∷ pos 0 ∷ pos 0 ∷ pos 10 ∷ neg 10 ∷ neg 6 ∷ neg 3 ∷ []; dp = pos 0 ∷ pos 252 ∷ pos 0 ∷ pos 0 ∷ neg 98 ∷ pos 0 ∷ pos 0 ∷ neg 46 ∷ pos 0 ∷ pos 0 ∷ pos 26 ∷ pos 0 ∷ pos 0 ∷ pos 46 ∷ pos 0 ∷ pos 0 ∷ neg 46 ∷ pos 0 ∷ pos 0 ∷ neg 46 ∷ pos 0 ∷ pos 0 ∷ pos 46 ∷ pos 0 ∷ pos 0 ∷ neg 7 ∷ pos 0 ∷ pos 0 ∷ neg 31 ∷ pos 0 ∷ pos 0 ∷ pos 12 ∷ pos 0 ∷ pos 0 ∷ neg 7 ∷ pos 0 ∷ pos 0 ∷ neg 26 ∷ pos 0 ∷ pos 0 ∷ pos 0 ∷ pos 0 ∷ pos 10 ∷ neg 12 ∷ pos 0 ∷ neg 10 ∷ pos 12 ∷ pos 0 ∷ neg 10 ∷ neg 12 ∷ pos 0 ∷ pos 10 ∷ pos 12 ∷ pos 0 ∷ neg 10 ∷ pos 36 ∷ pos 0 ∷ neg 10 ∷ neg 36 ∷ pos 0 ∷ pos 10 ∷ neg 36 ∷ pos 0 ∷ pos 29 ∷ pos 60 ∷ pos 0 ∷ neg 67 ∷ pos 60 ∷ pos 0 ∷ pos 48 ∷ neg 84 ∷ pos 0 ∷ pos 29 ∷ neg 36 ∷ pos 0 ∷ pos 10 ∷ pos 36 ∷ pos 0 ∷ neg 29 ∷ pos 36 ∷ pos 10 ∷ pos 0 ∷ pos 12 ∷ neg 10 ∷ pos 0 ∷ pos 36 ∷ neg 10 ∷ pos 0 ∷ neg 12 ∷ pos 10 ∷ pos 0 ∷ neg 60 ∷ pos 29 ∷ pos 0 ∷ pos 84 ∷ neg 67 ∷ pos 0 ∷ pos 36 ∷ pos 48 ∷ pos 0 ∷ neg 60 ∷ pos 29 ∷ pos 0 ∷ neg 36 ∷ pos 10 ∷ pos 0 ∷ pos 36 ∷ neg 29 ∷ pos 0 ∷ pos 12 ∷ pos 25 ∷ pos 0 ∷ neg 12 ∷ neg 10 ∷ pos 0 ∷ neg 12 ∷ neg 5 ∷ pos 0 ∷ neg 12 ∷ pos 3 ∷ [] }; ending = some (stopped 7); marks = some rule ∷ some found ∷ some found ∷ some found ∷ []; codewords = pos 32 ∷ pos 63 ∷ pos 20 ∷ pos 31 ∷ pos 12 ∷ pos 15 ∷ pos 3 ∷ pos 2 ∷ pos 40 ∷ pos 0 ∷ pos 2 ∷ pos 19 ∷ pos 4 ∷ pos 3 ∷ pos 3 ∷ pos 4 ∷ pos 3 ∷ pos 3 ∷ pos 4 ∷ pos 5 ∷ pos 0 ∷ pos 6 ∷ pos 5 ∷ pos 4 ∷ pos 2 ∷ pos 42 ∷ pos 0 ∷ pos 1 ∷ pos 8 ∷ pos 7 ∷ pos 2 ∷ pos 3 ∷ pos 4 ∷ pos 4 ∷ pos 3 ∷ pos 3 ∷ pos 4 ∷ pos 3 ∷ pos 4 ∷ pos 3 ∷ pos 3 ∷ pos 3 ∷ pos 80 ∷ pos 0 ∷ pos 3 ∷ pos 2 ∷ pos 3 ∷ pos 4 ∷ pos 3 ∷ pos 4 ∷ pos 5 ∷ pos 2 ∷ pos 2 ∷ pos 6 ∷ pos 6 ∷ pos 0 ∷ pos 2 ∷ pos 5 ∷ pos 5 ∷ pos 109 ∷ pos 0 ∷ pos 2 ∷ pos 2 ∷ pos 4 ∷ pos 5 ∷ pos 3 ∷ pos 1 ∷ pos 7 ∷ pos 5 ∷ pos 1 ∷ pos 2 ∷ pos 5 ∷ pos 4 ∷ pos 3 ∷ pos 3 ∷ pos 3 ∷ [] }
unfolding opened
stopped_at_7 = refl

-- div(0, 0)
pub zero_by_zero : encode (record { z1 = pos 0; L_z2 = pos 0; mp = pos 0; LARpp = pos 0 ∷ pos 0 ∷ pos 0 ∷ pos 0 ∷ pos 0 ∷ pos 0 ∷ pos 0 ∷ pos 0 ∷ []; u = pos 0 ∷ pos 0 ∷ pos 0 ∷ pos 0 ∷ pos 0 ∷ pos 0 ∷ pos 0 ∷ pos 0 ∷ []; dp = pos 0 ∷ pos 0 ∷ pos 0 ∷ pos 0 ∷ pos 0 ∷ pos 0 ∷ pos 0 ∷ pos 0 ∷ pos 0 ∷ pos 0 ∷ pos 0 ∷ pos 0 ∷ pos 0 ∷ pos 0 ∷ pos 0 ∷ pos 0 ∷ pos 0 ∷ pos 0 ∷ pos 0 ∷ pos 0 ∷ pos 0 ∷ pos 0 ∷ pos 0 ∷ pos 0 ∷ pos 0 ∷ pos 0 ∷ pos 0 ∷ pos 0 ∷ pos 0 ∷ pos 0 ∷ pos 0 ∷ pos 0 ∷ pos 0 ∷ pos 0 ∷ pos 0 ∷ pos 0 ∷ pos 0 ∷ pos 0 ∷ pos 0 ∷ pos 0 ∷ pos 0 ∷ pos 0 ∷ pos 0 ∷ pos 0 ∷ pos 0 ∷ pos 0 ∷ pos 0 ∷ pos 0 ∷ pos 0 ∷ pos 0 ∷ pos 0 ∷ pos 0 ∷ pos 0 ∷ pos 0 ∷ pos 0 ∷ pos 0 ∷ pos 0 ∷ pos 0 ∷ pos 0 ∷ pos 0 ∷ pos 0 ∷ pos 0 ∷ pos 0 ∷ pos 0 ∷ pos 0 ∷ pos 0 ∷ pos 0 ∷ pos 0 ∷ pos 0 ∷ pos 0 ∷ pos 0 ∷ pos 0 ∷ pos 0 ∷ pos 0 ∷ pos 0 ∷ pos 0 ∷ pos 0 ∷ pos 0 ∷ pos 0 ∷ pos 0 ∷ pos 0 ∷ pos 0 ∷ pos 0 ∷ pos 0 ∷ pos 0 ∷ pos 0 ∷ pos 0 ∷ pos 0 ∷ pos 0 ∷ pos 0 ∷ pos 0 ∷ pos 0 ∷ pos 0 ∷ pos 0 ∷ pos 0 ∷ pos 0 ∷ pos 0 ∷ pos 0 ∷ pos 0 ∷ pos 0 ∷ pos 0 ∷ pos 0 ∷ pos 0 ∷ pos 0 ∷ pos 0 ∷ pos 0 ∷ pos 0 ∷ pos 0 ∷ pos 0 ∷ pos 0 ∷ pos 0 ∷ pos 0 ∷ pos 0 ∷ pos 0 ∷ pos 0 ∷ pos 0 ∷ pos 0 ∷ pos 0 ∷ pos 0 ∷ pos 0 ∷ [] }) (pos 2 ∷ pos 17 ∷ pos 48 ∷ pos 92 ∷ pos 148 ∷ pos 215 ∷ pos 289 ∷ pos 367 ∷ pos 447 ∷ pos 523 ∷ pos 593 ∷ pos 651 ∷ pos 694 ∷ pos 717 ∷ pos 716 ∷ pos 687 ∷ pos 626 ∷ pos 530 ∷ pos 395 ∷ pos 219 ∷ pos 0 ∷ neg 263 ∷ neg 572 ∷ neg 925 ∷ neg 1323 ∷ neg 1764 ∷ neg 2244 ∷ neg 2762 ∷ neg 3313 ∷ neg 3892 ∷ neg 4494 ∷ neg 5113 ∷ neg 5742 ∷ neg 6374 ∷ neg 7001 ∷ neg 7615 ∷ neg 8208 ∷ neg 8771 ∷ neg 9295 ∷ neg 9773 ∷ neg 10196 ∷ neg 10556 ∷ neg 10845 ∷ neg 11056 ∷ neg 11182 ∷ neg 11219 ∷ neg 11160 ∷ neg 11001 ∷ neg 10741 ∷ neg 10376 ∷ neg 9905 ∷ neg 9329 ∷ neg 8649 ∷ neg 7867 ∷ neg 6988 ∷ neg 6015 ∷ neg 4955 ∷ neg 3815 ∷ neg 2603 ∷ neg 1328 ∷ pos 0 ∷ pos 1371 ∷ pos 2774 ∷ pos 4196 ∷ pos 5625 ∷ pos 7050 ∷ pos 8457 ∷ pos 9833 ∷ pos 11166 ∷ pos 12445 ∷ pos 13656 ∷ pos 14788 ∷ pos 15832 ∷ pos 16777 ∷ pos 17613 ∷ pos 18334 ∷ pos 18931 ∷ pos 19401 ∷ pos 19737 ∷ pos 19936 ∷ pos 19998 ∷ pos 19921 ∷ pos 19706 ∷ pos 19356 ∷ pos 18873 ∷ pos 18263 ∷ pos 17531 ∷ pos 16686 ∷ pos 15734 ∷ pos 14685 ∷ pos 13549 ∷ pos 12338 ∷ pos 11062 ∷ pos 9733 ∷ pos 8363 ∷ pos 6966 ∷ pos 5554 ∷ pos 4139 ∷ pos 2734 ∷ pos 1350 ∷ pos 0 ∷ neg 1306 ∷ neg 2557 ∷ neg 3743 ∷ neg 4857 ∷ neg 5890 ∷ neg 6836 ∷ neg 7688 ∷ neg 8443 ∷ neg 9097 ∷ neg 9648 ∷ neg 10095 ∷ neg 10439 ∷ neg 10679 ∷ neg 10820 ∷ neg 10863 ∷ neg 10814 ∷ neg 10677 ∷ neg 10458 ∷ neg 10165 ∷ neg 9804 ∷ neg 9382 ∷ neg 8909 ∷ neg 8391 ∷ neg 7839 ∷ neg 7259 ∷ neg 6660 ∷ neg 6051 ∷ neg 5440 ∷ neg 4833 ∷ neg 4237 ∷ neg 3660 ∷ neg 3107 ∷ neg 2583 ∷ neg 2092 ∷ neg 1639 ∷ neg 1225 ∷ neg 853 ∷ neg 525 ∷ neg 241 ∷ pos 0 ∷ pos 198 ∷ pos 355 ∷ pos 473 ∷ pos 555 ∷ pos 604 ∷ pos 623 ∷ pos 617 ∷ pos 589 ∷ pos 544 ∷ pos 486 ∷ pos 420 ∷ pos 348 ∷ pos 276 ∷ pos 207 ∷ pos 144 ∷ pos 90 ∷ pos 47 ∷ pos 17 ∷ pos 2 ∷ []) (replicate 76 (pos 0)) ≡ record { number = 0; state = record { z1 = pos 0; L_z2 = pos 9112; mp = pos 0; LARpp = neg 26214 ∷ pos 25394 ∷ pos 0 ∷ pos 0 ∷ neg 220 ∷ pos 546 ∷ neg 656 ∷ pos 436 ∷ []; u = neg 7 ∷ neg 2 ∷ neg 7 ∷ pos 9 ∷ pos 3 ∷ neg 5 ∷ pos 7 ∷ pos 0 ∷ []; dp = neg 40 ∷ pos 0 ∷ pos 0 ∷ pos 8 ∷ pos 0 ∷ pos 0 ∷ pos 8 ∷ pos 5 ∷ pos 0 ∷ pos 8 ∷ pos 5 ∷ pos 0 ∷ pos 8 ∷ pos 14 ∷ pos 0 ∷ neg 8 ∷ pos 14 ∷ pos 0 ∷ pos 8 ∷ pos 5 ∷ pos 0 ∷ pos 8 ∷ neg 5 ∷ pos 0 ∷ pos 24 ∷ neg 14 ∷ pos 0 ∷ pos 24 ∷ neg 24 ∷ pos 0 ∷ pos 24 ∷ neg 34 ∷ pos 0 ∷ pos 8 ∷ neg 14 ∷ pos 0 ∷ pos 24 ∷ neg 24 ∷ pos 0 ∷ pos 0 ∷ pos 0 ∷ neg 8 ∷ pos 0 ∷ pos 0 ∷ neg 8 ∷ pos 0 ∷ pos 0 ∷ neg 8 ∷ pos 0 ∷ pos 0 ∷ neg 3 ∷ pos 0 ∷ pos 0 ∷ pos 13 ∷ pos 0 ∷ pos 0 ∷ pos 6 ∷ pos 0 ∷ pos 0 ∷ pos 6 ∷ pos 0 ∷ pos 0 ∷ pos 13 ∷ pos 0 ∷ pos 0 ∷ pos 19 ∷ pos 0 ∷ pos 0 ∷ pos 10 ∷ pos 0 ∷ pos 0 ∷ pos 0 ∷ pos 0 ∷ pos 0 ∷ pos 6 ∷ pos 0 ∷ pos 0 ∷ neg 6 ∷ pos 0 ∷ pos 0 ∷ neg 7 ∷ pos 0 ∷ pos 0 ∷ neg 1 ∷ pos 0 ∷ pos 0 ∷ neg 10 ∷ pos 0 ∷ pos 0 ∷ neg 12 ∷ pos 0 ∷ pos 0 ∷ neg 14 ∷ pos 0 ∷ pos 0 ∷ neg 10 ∷ pos 0 ∷ pos 0 ∷ neg 12 ∷ pos 0 ∷ pos 0 ∷ neg 12 ∷ pos 0 ∷ pos 0 ∷ neg 4 ∷ pos 0 ∷ neg 4 ∷ pos 4 ∷ pos 0 ∷ pos 1 ∷ pos 4 ∷ pos 0 ∷ pos 1 ∷ pos 5 ∷ pos 0 ∷ pos 1 ∷ pos 5 ∷ pos 0 ∷ pos 1 ∷ pos 1 ∷ [] }; ending = some (stopped 4); marks = some rule ∷ some found ∷ some found ∷ some found ∷ []; codewords = pos 0 ∷ pos 63 ∷ pos 20 ∷ pos 11 ∷ pos 8 ∷ pos 5 ∷ pos 3 ∷ pos 2 ∷ pos 40 ∷ pos 0 ∷ pos 2 ∷ pos 11 ∷ pos 4 ∷ pos 4 ∷ pos 5 ∷ pos 5 ∷ pos 4 ∷ pos 3 ∷ pos 2 ∷ pos 1 ∷ pos 0 ∷ pos 2 ∷ pos 1 ∷ pos 1 ∷ pos 1 ∷ pos 45 ∷ pos 0 ∷ pos 0 ∷ pos 1 ∷ pos 1 ∷ pos 4 ∷ pos 4 ∷ pos 4 ∷ pos 4 ∷ pos 3 ∷ pos 4 ∷ pos 4 ∷ pos 5 ∷ pos 5 ∷ pos 5 ∷ pos 4 ∷ pos 5 ∷ pos 88 ∷ pos 0 ∷ pos 1 ∷ pos 1 ∷ pos 3 ∷ pos 3 ∷ pos 3 ∷ pos 3 ∷ pos 4 ∷ pos 3 ∷ pos 3 ∷ pos 4 ∷ pos 5 ∷ pos 5 ∷ pos 5 ∷ pos 6 ∷ pos 4 ∷ pos 106 ∷ pos 0 ∷ pos 0 ∷ pos 0 ∷ pos 2 ∷ pos 4 ∷ pos 4 ∷ pos 5 ∷ pos 6 ∷ pos 4 ∷ pos 5 ∷ pos 5 ∷ pos 6 ∷ pos 4 ∷ pos 4 ∷ pos 4 ∷ pos 4 ∷ [] }
unfolding opened
zero_by_zero = refl

-- from a sound state: at scale 4 a sample comes back as -32768
pub wrapped : encode (record { z1 = neg 16384; L_z2 = pos 397; mp = pos 0; LARpp = pos 0 ∷ pos 0 ∷ pos 0 ∷ pos 0 ∷ pos 0 ∷ pos 0 ∷ pos 0 ∷ pos 0 ∷ []; u = pos 0 ∷ pos 0 ∷ pos 0 ∷ pos 0 ∷ pos 0 ∷ pos 0 ∷ pos 0 ∷ pos 0 ∷ []; dp = pos 0 ∷ pos 0 ∷ pos 0 ∷ pos 0 ∷ pos 0 ∷ pos 0 ∷ pos 0 ∷ pos 0 ∷ pos 0 ∷ pos 0 ∷ pos 0 ∷ pos 0 ∷ pos 0 ∷ pos 0 ∷ pos 0 ∷ pos 0 ∷ pos 0 ∷ pos 0 ∷ pos 0 ∷ pos 0 ∷ pos 0 ∷ pos 0 ∷ pos 0 ∷ pos 0 ∷ pos 0 ∷ pos 0 ∷ pos 0 ∷ pos 0 ∷ pos 0 ∷ pos 0 ∷ pos 0 ∷ pos 0 ∷ pos 0 ∷ pos 0 ∷ pos 0 ∷ pos 0 ∷ pos 0 ∷ pos 0 ∷ pos 0 ∷ pos 0 ∷ pos 0 ∷ pos 0 ∷ pos 0 ∷ pos 0 ∷ pos 0 ∷ pos 0 ∷ pos 0 ∷ pos 0 ∷ pos 0 ∷ pos 0 ∷ pos 0 ∷ pos 0 ∷ pos 0 ∷ pos 0 ∷ pos 0 ∷ pos 0 ∷ pos 0 ∷ pos 0 ∷ pos 0 ∷ pos 0 ∷ pos 0 ∷ pos 0 ∷ pos 0 ∷ pos 0 ∷ pos 0 ∷ pos 0 ∷ pos 0 ∷ pos 0 ∷ pos 0 ∷ pos 0 ∷ pos 0 ∷ pos 0 ∷ pos 0 ∷ pos 0 ∷ pos 0 ∷ pos 0 ∷ pos 0 ∷ pos 0 ∷ pos 0 ∷ pos 0 ∷ pos 0 ∷ pos 0 ∷ pos 0 ∷ pos 0 ∷ pos 0 ∷ pos 0 ∷ pos 0 ∷ pos 0 ∷ pos 0 ∷ pos 0 ∷ pos 0 ∷ pos 0 ∷ pos 0 ∷ pos 0 ∷ pos 0 ∷ pos 0 ∷ pos 0 ∷ pos 0 ∷ pos 0 ∷ pos 0 ∷ pos 0 ∷ pos 0 ∷ pos 0 ∷ pos 0 ∷ pos 0 ∷ pos 0 ∷ pos 0 ∷ pos 0 ∷ pos 0 ∷ pos 0 ∷ pos 0 ∷ pos 0 ∷ pos 0 ∷ pos 0 ∷ pos 0 ∷ pos 0 ∷ pos 0 ∷ pos 0 ∷ pos 0 ∷ pos 0 ∷ [] }) (pos 32767 ∷ pos 0 ∷ pos 0 ∷ pos 0 ∷ pos 0 ∷ pos 0 ∷ pos 0 ∷ pos 0 ∷ pos 0 ∷ pos 0 ∷ pos 0 ∷ pos 0 ∷ pos 0 ∷ pos 0 ∷ pos 0 ∷ pos 0 ∷ pos 0 ∷ pos 0 ∷ pos 0 ∷ pos 0 ∷ pos 0 ∷ pos 0 ∷ pos 0 ∷ pos 0 ∷ pos 0 ∷ pos 0 ∷ pos 0 ∷ pos 0 ∷ pos 0 ∷ pos 0 ∷ pos 0 ∷ pos 0 ∷ pos 0 ∷ pos 0 ∷ pos 0 ∷ pos 0 ∷ pos 0 ∷ pos 0 ∷ pos 0 ∷ pos 0 ∷ pos 0 ∷ pos 0 ∷ pos 0 ∷ pos 0 ∷ pos 0 ∷ pos 0 ∷ pos 0 ∷ pos 0 ∷ pos 0 ∷ pos 0 ∷ pos 0 ∷ pos 0 ∷ pos 0 ∷ pos 0 ∷ pos 0 ∷ pos 0 ∷ pos 0 ∷ pos 0 ∷ pos 0 ∷ pos 0 ∷ pos 0 ∷ pos 0 ∷ pos 0 ∷ pos 0 ∷ pos 0 ∷ pos 0 ∷ pos 0 ∷ pos 0 ∷ pos 0 ∷ pos 0 ∷ pos 0 ∷ pos 0 ∷ pos 0 ∷ pos 0 ∷ pos 0 ∷ pos 0 ∷ pos 0 ∷ pos 0 ∷ pos 0 ∷ pos 0 ∷ pos 0 ∷ pos 0 ∷ pos 0 ∷ pos 0 ∷ pos 0 ∷ pos 0 ∷ pos 0 ∷ pos 0 ∷ pos 0 ∷ pos 0 ∷ pos 0 ∷ pos 0 ∷ pos 0 ∷ pos 0 ∷ pos 0 ∷ pos 0 ∷ pos 0 ∷ pos 0 ∷ pos 0 ∷ pos 0 ∷ pos 0 ∷ pos 0 ∷ pos 0 ∷ pos 0 ∷ pos 0 ∷ pos 0 ∷ pos 0 ∷ pos 0 ∷ pos 0 ∷ pos 0 ∷ pos 0 ∷ pos 0 ∷ pos 0 ∷ pos 0 ∷ pos 0 ∷ pos 0 ∷ pos 0 ∷ pos 0 ∷ pos 0 ∷ pos 0 ∷ pos 0 ∷ pos 0 ∷ pos 0 ∷ pos 0 ∷ pos 0 ∷ pos 0 ∷ pos 0 ∷ pos 0 ∷ pos 0 ∷ pos 0 ∷ pos 0 ∷ pos 0 ∷ pos 0 ∷ pos 0 ∷ pos 0 ∷ pos 0 ∷ pos 0 ∷ pos 0 ∷ pos 0 ∷ pos 0 ∷ pos 0 ∷ pos 0 ∷ pos 0 ∷ pos 0 ∷ pos 0 ∷ pos 0 ∷ pos 0 ∷ pos 0 ∷ pos 0 ∷ pos 0 ∷ pos 0 ∷ pos 0 ∷ pos 0 ∷ pos 0 ∷ pos 0 ∷ pos 0 ∷ pos 0 ∷ pos 0 ∷ pos 0 ∷ pos 0 ∷ []) (replicate 76 (pos 0)) ≡ record { number = 0; state = record { z1 = pos 0; L_z2 = pos 456936143; mp = pos 13945; LARpp = neg 2458 ∷ neg 5734 ∷ neg 5734 ∷ neg 4916 ∷ neg 3824 ∷ neg 2730 ∷ neg 2622 ∷ neg 1422 ∷ []; u = pos 1936 ∷ pos 1646 ∷ pos 1086 ∷ pos 712 ∷ pos 500 ∷ pos 385 ∷ pos 321 ∷ pos 269 ∷ []; dp = neg 403 ∷ pos 0 ∷ pos 0 ∷ pos 173 ∷ pos 0 ∷ pos 0 ∷ pos 877 ∷ pos 0 ∷ pos 0 ∷ pos 762 ∷ pos 0 ∷ pos 0 ∷ pos 762 ∷ pos 0 ∷ pos 0 ∷ pos 762 ∷ pos 0 ∷ pos 0 ∷ pos 762 ∷ pos 0 ∷ pos 0 ∷ pos 762 ∷ pos 0 ∷ pos 0 ∷ pos 762 ∷ pos 0 ∷ pos 0 ∷ pos 762 ∷ pos 0 ∷ pos 0 ∷ pos 762 ∷ pos 0 ∷ pos 0 ∷ pos 762 ∷ pos 0 ∷ pos 0 ∷ pos 762 ∷ pos 0 ∷ pos 0 ∷ pos 0 ∷ pos 0 ∷ pos 0 ∷ pos 613 ∷ pos 0 ∷ pos 0 ∷ pos 789 ∷ pos 0 ∷ pos 0 ∷ pos 674 ∷ pos 0 ∷ pos 0 ∷ pos 674 ∷ pos 0 ∷ pos 0 ∷ pos 674 ∷ pos 0 ∷ pos 0 ∷ pos 674 ∷ pos 0 ∷ pos 0 ∷ pos 674 ∷ pos 0 ∷ pos 0 ∷ pos 674 ∷ pos 0 ∷ pos 0 ∷ pos 674 ∷ pos 0 ∷ pos 0 ∷ pos 674 ∷ pos 0 ∷ pos 0 ∷ pos 674 ∷ pos 0 ∷ pos 0 ∷ pos 674 ∷ pos 0 ∷ pos 0 ∷ pos 616 ∷ neg 40 ∷ pos 0 ∷ pos 0 ∷ pos 669 ∷ pos 0 ∷ pos 0 ∷ pos 669 ∷ pos 0 ∷ pos 0 ∷ pos 650 ∷ pos 0 ∷ pos 0 ∷ pos 650 ∷ pos 0 ∷ pos 0 ∷ pos 650 ∷ pos 0 ∷ pos 0 ∷ pos 650 ∷ pos 0 ∷ pos 0 ∷ pos 650 ∷ pos 0 ∷ pos 0 ∷ pos 650 ∷ pos 0 ∷ pos 0 ∷ pos 650 ∷ pos 0 ∷ pos 0 ∷ pos 650 ∷ pos 0 ∷ pos 0 ∷ pos 650 ∷ pos 0 ∷ pos 0 ∷ pos 650 ∷ pos 0 ∷ pos 0 ∷ pos 560 ∷ neg 40 ∷ [] }; ending = some complete; marks = some rule ∷ some found ∷ some found ∷ some found ∷ []; codewords = pos 29 ∷ pos 25 ∷ pos 13 ∷ pos 5 ∷ pos 5 ∷ pos 2 ∷ pos 2 ∷ pos 1 ∷ pos 40 ∷ pos 0 ∷ pos 0 ∷ pos 63 ∷ pos 0 ∷ pos 5 ∷ pos 5 ∷ pos 4 ∷ pos 4 ∷ pos 4 ∷ pos 4 ∷ pos 4 ∷ pos 4 ∷ pos 4 ∷ pos 4 ∷ pos 4 ∷ pos 4 ∷ pos 40 ∷ pos 0 ∷ pos 0 ∷ pos 34 ∷ pos 7 ∷ pos 2 ∷ pos 3 ∷ pos 4 ∷ pos 4 ∷ pos 4 ∷ pos 4 ∷ pos 4 ∷ pos 4 ∷ pos 4 ∷ pos 4 ∷ pos 4 ∷ pos 4 ∷ pos 79 ∷ pos 0 ∷ pos 2 ∷ pos 18 ∷ pos 0 ∷ pos 1 ∷ pos 5 ∷ pos 5 ∷ pos 5 ∷ pos 5 ∷ pos 5 ∷ pos 5 ∷ pos 5 ∷ pos 5 ∷ pos 5 ∷ pos 5 ∷ pos 7 ∷ pos 119 ∷ pos 0 ∷ pos 2 ∷ pos 17 ∷ pos 0 ∷ pos 0 ∷ pos 5 ∷ pos 5 ∷ pos 5 ∷ pos 5 ∷ pos 5 ∷ pos 5 ∷ pos 5 ∷ pos 5 ∷ pos 5 ∷ pos 5 ∷ pos 7 ∷ [] }
unfolding opened
wrapped = refl

-- any words from any sound state: clips in 4.2.3, at 26112 in 4.2.9.2, in 4.2.12
pub any_state_20 : encode (record { z1 = pos 13292; L_z2 = pos 674912400; mp = pos 32767; LARpp = pos 32767 ∷ neg 32768 ∷ pos 32767 ∷ neg 32768 ∷ pos 32767 ∷ pos 29413 ∷ pos 32767 ∷ neg 32768 ∷ []; u = pos 8769 ∷ pos 32767 ∷ neg 32768 ∷ pos 32767 ∷ neg 32768 ∷ neg 32768 ∷ neg 32768 ∷ neg 32768 ∷ []; dp = pos 448 ∷ pos 32767 ∷ neg 32768 ∷ neg 32768 ∷ pos 2300 ∷ neg 32768 ∷ neg 32768 ∷ neg 31067 ∷ pos 32767 ∷ neg 14828 ∷ pos 11253 ∷ neg 32768 ∷ pos 3119 ∷ neg 32768 ∷ pos 32767 ∷ neg 16904 ∷ neg 16360 ∷ pos 32767 ∷ neg 32768 ∷ neg 25975 ∷ pos 32767 ∷ neg 32768 ∷ neg 32768 ∷ neg 32768 ∷ pos 8562 ∷ pos 32767 ∷ neg 25643 ∷ neg 32768 ∷ pos 26899 ∷ neg 32768 ∷ neg 23187 ∷ neg 32768 ∷ pos 32767 ∷ neg 21507 ∷ pos 6685 ∷ neg 32768 ∷ neg 32768 ∷ neg 32768 ∷ neg 29651 ∷ pos 32767 ∷ pos 32767 ∷ neg 32768 ∷ neg 32768 ∷ neg 32768 ∷ neg 32768 ∷ pos 32767 ∷ neg 16335 ∷ neg 32768 ∷ pos 32767 ∷ neg 32768 ∷ neg 32768 ∷ pos 32767 ∷ pos 32767 ∷ pos 32767 ∷ neg 32768 ∷ neg 32768 ∷ neg 32768 ∷ pos 32767 ∷ pos 32767 ∷ neg 32768 ∷ neg 24038 ∷ neg 32768 ∷ neg 31455 ∷ neg 23595 ∷ pos 11903 ∷ neg 32768 ∷ pos 32767 ∷ neg 32768 ∷ neg 32768 ∷ neg 5641 ∷ pos 20458 ∷ neg 22518 ∷ pos 32767 ∷ neg 32768 ∷ neg 14720 ∷ pos 16508 ∷ pos 32767 ∷ neg 32768 ∷ neg 32768 ∷ pos 32767 ∷ neg 32768 ∷ pos 32767 ∷ pos 32767 ∷ neg 5694 ∷ pos 32767 ∷ neg 32768 ∷ neg 32768 ∷ pos 32767 ∷ neg 1369 ∷ pos 32767 ∷ neg 32768 ∷ pos 32767 ∷ neg 32768 ∷ pos 32767 ∷ neg 32768 ∷ pos 32767 ∷ pos 5323 ∷ pos 6095 ∷ neg 21864 ∷ pos 32767 ∷ pos 13436 ∷ pos 32767 ∷ pos 32767 ∷ pos 32767 ∷ pos 10184 ∷ neg 14236 ∷ neg 16616 ∷ pos 2378 ∷ neg 27657 ∷ pos 32767 ∷ neg 32768 ∷ pos 32767 ∷ neg 32768 ∷ pos 32767 ∷ neg 29462 ∷ neg 32768 ∷ pos 32767 ∷ neg 606 ∷ neg 32768 ∷ pos 32767 ∷ [] }) (neg 32768 ∷ pos 32767 ∷ pos 32767 ∷ neg 27598 ∷ pos 32767 ∷ pos 32767 ∷ neg 20281 ∷ neg 15113 ∷ pos 7941 ∷ neg 32768 ∷ pos 32767 ∷ neg 32768 ∷ neg 32768 ∷ pos 32767 ∷ neg 32768 ∷ pos 32767 ∷ neg 32768 ∷ pos 7415 ∷ neg 32768 ∷ neg 5711 ∷ neg 32768 ∷ pos 32767 ∷ neg 32768 ∷ pos 14947 ∷ neg 681 ∷ neg 8681 ∷ pos 32767 ∷ neg 32768 ∷ pos 32767 ∷ pos 32767 ∷ neg 15902 ∷ neg 32768 ∷ neg 32768 ∷ pos 32767 ∷ neg 21019 ∷ neg 7600 ∷ pos 32767 ∷ pos 20633 ∷ neg 27076 ∷ neg 32768 ∷ pos 32767 ∷ neg 32768 ∷ pos 32767 ∷ neg 32768 ∷ neg 20444 ∷ pos 32767 ∷ neg 32768 ∷ neg 10831 ∷ pos 32767 ∷ neg 21180 ∷ pos 32767 ∷ pos 32767 ∷ pos 32767 ∷ pos 7508 ∷ pos 19953 ∷ neg 24500 ∷ neg 32768 ∷ neg 24685 ∷ neg 32768 ∷ neg 2785 ∷ neg 23408 ∷ pos 32767 ∷ neg 32768 ∷ pos 32767 ∷ neg 32768 ∷ pos 32767 ∷ pos 32767 ∷ pos 32767 ∷ neg 32768 ∷ neg 17159 ∷ pos 32767 ∷ neg 8251 ∷ neg 32768 ∷ pos 32767 ∷ neg 32768 ∷ neg 32768 ∷ pos 23086 ∷ pos 16834 ∷ pos 3451 ∷ pos 11923 ∷ pos 32767 ∷ neg 32768 ∷ neg 20617 ∷ neg 32768 ∷ neg 32768 ∷ neg 32768 ∷ pos 32767 ∷ neg 32768 ∷ pos 32767 ∷ neg 32768 ∷ neg 32768 ∷ neg 29200 ∷ neg 12325 ∷ pos 32767 ∷ pos 15067 ∷ pos 32767 ∷ pos 32767 ∷ pos 32767 ∷ pos 4630 ∷ pos 32767 ∷ neg 32768 ∷ neg 32768 ∷ neg 32768 ∷ pos 32767 ∷ pos 32767 ∷ neg 32768 ∷ pos 23543 ∷ neg 32768 ∷ neg 32768 ∷ pos 1173 ∷ neg 30723 ∷ neg 23923 ∷ pos 32767 ∷ pos 32767 ∷ neg 32768 ∷ pos 10981 ∷ neg 29345 ∷ neg 31182 ∷ neg 17406 ∷ neg 28230 ∷ pos 32767 ∷ pos 32767 ∷ pos 15966 ∷ neg 23607 ∷ neg 17400 ∷ neg 32768 ∷ pos 126 ∷ pos 32767 ∷ neg 32768 ∷ neg 27529 ∷ neg 32768 ∷ neg 32768 ∷ neg 4389 ∷ neg 32768 ∷ pos 32767 ∷ neg 32768 ∷ pos 12601 ∷ pos 27010 ∷ pos 32767 ∷ neg 32768 ∷ pos 6445 ∷ pos 32767 ∷ pos 32767 ∷ neg 13458 ∷ neg 32768 ∷ pos 32767 ∷ neg 9222 ∷ neg 28317 ∷ neg 31345 ∷ neg 32768 ∷ pos 32767 ∷ pos 27279 ∷ neg 32768 ∷ pos 32767 ∷ pos 32767 ∷ pos 32767 ∷ pos 32767 ∷ pos 32767 ∷ neg 32768 ∷ neg 32768 ∷ []) (replicate 76 (pos 0)) ≡ record { number = 0; state = record { z1 = neg 16384; L_z2 = neg 329421067; mp = neg 10053; LARpp = pos 9012 ∷ pos 5734 ∷ pos 2458 ∷ pos 1638 ∷ pos 2182 ∷ pos 1638 ∷ pos 1310 ∷ pos 2292 ∷ []; u = neg 1392 ∷ neg 30366 ∷ neg 19298 ∷ neg 8178 ∷ pos 411 ∷ pos 2086 ∷ pos 27317 ∷ neg 1289 ∷ []; dp = pos 2046 ∷ pos 18227 ∷ pos 3277 ∷ neg 3277 ∷ pos 2624 ∷ pos 1651 ∷ pos 3277 ∷ pos 9011 ∷ neg 3277 ∷ pos 3277 ∷ pos 25394 ∷ pos 3277 ∷ pos 3277 ∷ pos 19910 ∷ pos 3277 ∷ neg 3277 ∷ neg 31948 ∷ pos 3277 ∷ neg 137 ∷ neg 819 ∷ neg 3277 ∷ pos 3277 ∷ pos 9011 ∷ pos 3277 ∷ neg 3277 ∷ pos 31948 ∷ pos 532 ∷ pos 610 ∷ pos 1909 ∷ pos 3277 ∷ pos 1344 ∷ pos 7373 ∷ pos 3277 ∷ pos 3277 ∷ neg 11270 ∷ neg 1424 ∷ neg 1662 ∷ pos 28909 ∷ neg 2766 ∷ pos 3277 ∷ pos 11469 ∷ neg 479 ∷ pos 11469 ∷ neg 32768 ∷ pos 11469 ∷ neg 11469 ∷ pos 23757 ∷ neg 11469 ∷ pos 11469 ∷ neg 18616 ∷ pos 2133 ∷ neg 7653 ∷ pos 15565 ∷ pos 4703 ∷ pos 11469 ∷ pos 31948 ∷ pos 11469 ∷ pos 3564 ∷ pos 23688 ∷ neg 5816 ∷ pos 832 ∷ neg 30159 ∷ pos 11469 ∷ neg 11469 ∷ pos 31948 ∷ neg 11469 ∷ pos 11469 ∷ neg 22600 ∷ neg 11469 ∷ pos 11469 ∷ neg 4308 ∷ neg 11469 ∷ pos 11469 ∷ pos 20861 ∷ pos 3154 ∷ pos 4014 ∷ neg 22550 ∷ pos 5164 ∷ pos 4014 ∷ neg 16302 ∷ pos 29818 ∷ pos 1147 ∷ pos 6969 ∷ neg 11141 ∷ neg 1147 ∷ neg 11182 ∷ pos 21626 ∷ neg 48 ∷ neg 287 ∷ neg 29818 ∷ pos 1147 ∷ pos 3154 ∷ neg 2949 ∷ neg 1147 ∷ pos 11182 ∷ pos 12474 ∷ pos 214 ∷ pos 668 ∷ pos 29818 ∷ pos 470 ∷ pos 2581 ∷ pos 29818 ∷ pos 1147 ∷ neg 3945 ∷ neg 4594 ∷ neg 582 ∷ pos 10118 ∷ neg 29639 ∷ pos 1147 ∷ pos 4014 ∷ pos 20311 ∷ pos 4014 ∷ neg 11469 ∷ pos 32685 ∷ neg 4014 ∷ pos 8315 ∷ pos 24657 ∷ pos 4014 ∷ neg 6516 ∷ pos 747 ∷ [] }; ending = some complete; marks = some found ∷ some found ∷ some found ∷ some found ∷ []; codewords = pos 43 ∷ pos 39 ∷ pos 23 ∷ pos 13 ∷ pos 10 ∷ pos 6 ∷ pos 4 ∷ pos 3 ∷ pos 108 ∷ pos 1 ∷ pos 1 ∷ pos 63 ∷ pos 6 ∷ pos 6 ∷ pos 7 ∷ pos 6 ∷ pos 7 ∷ pos 3 ∷ pos 7 ∷ pos 1 ∷ pos 4 ∷ pos 4 ∷ pos 6 ∷ pos 5 ∷ pos 4 ∷ pos 90 ∷ pos 0 ∷ pos 1 ∷ pos 63 ∷ pos 6 ∷ pos 4 ∷ pos 5 ∷ pos 7 ∷ pos 6 ∷ pos 0 ∷ pos 3 ∷ pos 5 ∷ pos 7 ∷ pos 4 ∷ pos 4 ∷ pos 2 ∷ pos 7 ∷ pos 113 ∷ pos 1 ∷ pos 3 ∷ pos 63 ∷ pos 0 ∷ pos 5 ∷ pos 1 ∷ pos 4 ∷ pos 6 ∷ pos 7 ∷ pos 1 ∷ pos 6 ∷ pos 2 ∷ pos 3 ∷ pos 6 ∷ pos 1 ∷ pos 2 ∷ pos 69 ∷ pos 1 ∷ pos 0 ∷ pos 63 ∷ pos 7 ∷ pos 2 ∷ pos 6 ∷ pos 0 ∷ pos 3 ∷ pos 5 ∷ pos 7 ∷ pos 7 ∷ pos 3 ∷ pos 0 ∷ pos 6 ∷ pos 7 ∷ pos 7 ∷ [] }
unfolding opened
any_state_20 = refl

-- clips in 4.2.3, in 4.2.12 and in the first doubling of 4.2.13
pub any_state_44 : encode (record { z1 = neg 2998; L_z2 = neg 76611053; mp = neg 32768; LARpp = neg 32768 ∷ neg 32768 ∷ neg 32768 ∷ neg 32768 ∷ neg 12231 ∷ pos 6944 ∷ pos 16833 ∷ pos 20322 ∷ []; u = pos 32767 ∷ pos 32767 ∷ pos 4289 ∷ neg 32768 ∷ neg 23585 ∷ pos 32767 ∷ neg 32768 ∷ neg 32768 ∷ []; dp = pos 32767 ∷ pos 32767 ∷ neg 32768 ∷ neg 32768 ∷ pos 1094 ∷ neg 32768 ∷ neg 27074 ∷ pos 24427 ∷ neg 27810 ∷ pos 32767 ∷ pos 28950 ∷ pos 26690 ∷ neg 32768 ∷ pos 32767 ∷ pos 12570 ∷ pos 32767 ∷ neg 32768 ∷ neg 32768 ∷ pos 32767 ∷ pos 32767 ∷ pos 32767 ∷ neg 32768 ∷ neg 3435 ∷ pos 32767 ∷ neg 26479 ∷ neg 32768 ∷ neg 32768 ∷ neg 32061 ∷ pos 5727 ∷ pos 32767 ∷ neg 32768 ∷ pos 32767 ∷ neg 9386 ∷ neg 32768 ∷ pos 32767 ∷ neg 32768 ∷ pos 10473 ∷ neg 32768 ∷ pos 32767 ∷ pos 32767 ∷ pos 32767 ∷ neg 32768 ∷ pos 32767 ∷ neg 32768 ∷ neg 32768 ∷ pos 32767 ∷ pos 32767 ∷ pos 32767 ∷ pos 32767 ∷ neg 32768 ∷ neg 28225 ∷ neg 2068 ∷ neg 32768 ∷ pos 32767 ∷ pos 32767 ∷ neg 32768 ∷ neg 2393 ∷ pos 15173 ∷ pos 32767 ∷ pos 32767 ∷ neg 32768 ∷ pos 32767 ∷ pos 32767 ∷ neg 32768 ∷ neg 32768 ∷ neg 13423 ∷ pos 32767 ∷ neg 32768 ∷ neg 4998 ∷ neg 32768 ∷ neg 8133 ∷ neg 32768 ∷ neg 32768 ∷ pos 18530 ∷ neg 26063 ∷ pos 32767 ∷ pos 32767 ∷ neg 11576 ∷ pos 32767 ∷ pos 9015 ∷ neg 32768 ∷ neg 32768 ∷ neg 32768 ∷ neg 32768 ∷ neg 32768 ∷ neg 32768 ∷ pos 23460 ∷ pos 32767 ∷ neg 32768 ∷ neg 32768 ∷ pos 32767 ∷ neg 32768 ∷ pos 32767 ∷ pos 32767 ∷ pos 32767 ∷ pos 32767 ∷ pos 6150 ∷ pos 32767 ∷ pos 32767 ∷ neg 32768 ∷ pos 3750 ∷ pos 32767 ∷ pos 32767 ∷ pos 32767 ∷ pos 32767 ∷ pos 32767 ∷ pos 32767 ∷ pos 32767 ∷ neg 32768 ∷ neg 32768 ∷ neg 32768 ∷ neg 10119 ∷ neg 5121 ∷ pos 9731 ∷ pos 32767 ∷ neg 32768 ∷ pos 32767 ∷ neg 10734 ∷ neg 3613 ∷ pos 11865 ∷ [] }) (pos 32767 ∷ neg 32768 ∷ neg 32768 ∷ pos 32767 ∷ neg 32768 ∷ pos 32767 ∷ neg 32768 ∷ neg 2512 ∷ pos 32767 ∷ neg 32768 ∷ neg 32768 ∷ pos 11738 ∷ neg 32768 ∷ pos 32767 ∷ neg 2762 ∷ neg 32768 ∷ neg 32768 ∷ neg 32768 ∷ neg 32768 ∷ neg 4001 ∷ pos 24127 ∷ pos 32767 ∷ pos 30538 ∷ neg 32768 ∷ neg 32768 ∷ neg 32768 ∷ pos 32767 ∷ pos 32767 ∷ neg 2315 ∷ neg 32768 ∷ pos 17255 ∷ pos 32767 ∷ pos 32767 ∷ neg 30941 ∷ pos 32767 ∷ neg 32768 ∷ neg 32768 ∷ neg 32768 ∷ pos 32767 ∷ pos 32767 ∷ neg 32768 ∷ pos 32767 ∷ pos 28617 ∷ pos 1353 ∷ neg 32768 ∷ pos 32767 ∷ pos 31241 ∷ pos 32767 ∷ neg 32768 ∷ pos 5029 ∷ pos 32767 ∷ neg 31152 ∷ neg 32768 ∷ pos 32767 ∷ neg 1431 ∷ pos 32767 ∷ pos 32767 ∷ neg 32768 ∷ pos 32767 ∷ pos 29059 ∷ neg 1257 ∷ neg 2185 ∷ pos 32767 ∷ pos 6662 ∷ neg 32768 ∷ pos 32767 ∷ pos 32767 ∷ pos 32767 ∷ neg 32768 ∷ neg 32768 ∷ pos 12907 ∷ pos 32767 ∷ pos 32767 ∷ neg 32768 ∷ pos 32767 ∷ pos 31519 ∷ neg 32768 ∷ pos 1867 ∷ neg 32768 ∷ pos 32767 ∷ neg 32768 ∷ neg 32768 ∷ pos 27533 ∷ neg 32768 ∷ neg 32768 ∷ neg 32768 ∷ pos 32767 ∷ pos 32767 ∷ pos 23886 ∷ pos 32767 ∷ pos 32767 ∷ neg 32768 ∷ pos 32767 ∷ pos 25970 ∷ neg 32768 ∷ pos 8808 ∷ pos 32767 ∷ neg 32768 ∷ pos 8278 ∷ pos 32767 ∷ neg 32768 ∷ neg 1510 ∷ pos 32767 ∷ neg 30547 ∷ neg 32768 ∷ neg 32768 ∷ pos 26648 ∷ neg 17282 ∷ neg 32768 ∷ neg 32768 ∷ neg 32768 ∷ neg 32768 ∷ neg 32768 ∷ pos 32767 ∷ pos 32767 ∷ neg 32768 ∷ neg 6789 ∷ neg 28692 ∷ pos 32767 ∷ neg 32768 ∷ neg 32768 ∷ pos 32767 ∷ pos 28410 ∷ pos 32767 ∷ neg 32768 ∷ pos 32767 ∷ neg 32768 ∷ neg 32768 ∷ pos 2572 ∷ pos 32767 ∷ pos 13497 ∷ pos 25447 ∷ neg 32768 ∷ neg 32768 ∷ pos 15139 ∷ pos 32767 ∷ pos 32767 ∷ pos 2200 ∷ neg 32768 ∷ neg 20387 ∷ neg 29341 ∷ pos 32767 ∷ pos 32767 ∷ pos 32767 ∷ neg 16019 ∷ pos 32767 ∷ neg 32768 ∷ neg 21413 ∷ neg 32768 ∷ neg 32768 ∷ pos 32767 ∷ neg 26677 ∷ pos 22626 ∷ neg 16636 ∷ pos 12336 ∷ neg 32768 ∷ neg 32768 ∷ pos 4984 ∷ pos 21652 ∷ neg 32768 ∷ []) (replicate 76 (pos 0)) ≡ record { number = 0; state = record { z1 = neg 16384; L_z2 = neg 517462709; mp = neg 15792; LARpp = pos 6554 ∷ pos 6554 ∷ pos 4096 ∷ pos 3276 ∷ pos 2182 ∷ pos 4916 ∷ pos 3276 ∷ pos 436 ∷ []; u = neg 25616 ∷ neg 1479 ∷ pos 11351 ∷ pos 7154 ∷ neg 14130 ∷ pos 2938 ∷ neg 22088 ∷ pos 10038 ∷ []; dp = neg 14029 ∷ neg 3277 ∷ pos 1853 ∷ neg 13358 ∷ pos 3277 ∷ pos 3277 ∷ pos 16761 ∷ pos 3277 ∷ pos 902 ∷ pos 307 ∷ neg 3277 ∷ neg 3277 ∷ neg 6861 ∷ neg 3277 ∷ neg 3277 ∷ pos 27433 ∷ pos 3277 ∷ neg 3277 ∷ pos 21810 ∷ pos 3277 ∷ neg 3277 ∷ pos 14029 ∷ pos 3277 ∷ pos 3277 ∷ neg 307 ∷ pos 615 ∷ pos 3277 ∷ pos 14029 ∷ neg 3277 ∷ pos 375 ∷ neg 307 ∷ pos 3277 ∷ pos 3277 ∷ pos 6861 ∷ pos 3277 ∷ pos 3277 ∷ neg 307 ∷ neg 3277 ∷ neg 3277 ∷ neg 3277 ∷ neg 11469 ∷ neg 20460 ∷ pos 11469 ∷ neg 11469 ∷ neg 31948 ∷ pos 11469 ∷ neg 11469 ∷ pos 31948 ∷ pos 11469 ∷ pos 11469 ∷ pos 23757 ∷ pos 2153 ∷ pos 11469 ∷ pos 15565 ∷ neg 11469 ∷ pos 1313 ∷ neg 17202 ∷ pos 11469 ∷ pos 11469 ∷ neg 17202 ∷ pos 11469 ∷ pos 11469 ∷ neg 819 ∷ neg 11469 ∷ neg 11469 ∷ neg 7373 ∷ neg 3542 ∷ neg 1792 ∷ neg 25265 ∷ pos 11469 ∷ neg 11469 ∷ neg 17202 ∷ neg 3757 ∷ neg 1265 ∷ pos 24632 ∷ neg 4014 ∷ neg 3458 ∷ pos 3843 ∷ pos 3154 ∷ pos 4014 ∷ neg 7765 ∷ pos 17286 ∷ pos 4014 ∷ pos 11469 ∷ pos 2678 ∷ pos 4014 ∷ neg 8931 ∷ neg 8110 ∷ neg 4014 ∷ pos 3154 ∷ pos 16465 ∷ neg 4014 ∷ neg 2581 ∷ neg 9414 ∷ pos 4014 ∷ pos 6021 ∷ pos 23761 ∷ neg 1147 ∷ pos 649 ∷ neg 25154 ∷ pos 1147 ∷ pos 1147 ∷ pos 26345 ∷ pos 1147 ∷ pos 316 ∷ pos 12395 ∷ neg 1147 ∷ neg 1147 ∷ neg 31072 ∷ neg 1147 ∷ neg 1147 ∷ neg 10877 ∷ pos 1147 ∷ neg 1147 ∷ neg 4654 ∷ pos 1147 ∷ neg 1147 ∷ neg 7378 ∷ pos 1147 ∷ pos 1147 ∷ [] }; ending = some complete; marks = some found ∷ some found ∷ some found ∷ some found ∷ []; codewords = pos 40 ∷ pos 40 ∷ pos 25 ∷ pos 15 ∷ pos 10 ∷ pos 9 ∷ pos 5 ∷ pos 2 ∷ pos 71 ∷ pos 1 ∷ pos 3 ∷ pos 63 ∷ pos 6 ∷ pos 6 ∷ pos 1 ∷ pos 1 ∷ pos 0 ∷ pos 7 ∷ pos 7 ∷ pos 0 ∷ pos 7 ∷ pos 0 ∷ pos 6 ∷ pos 4 ∷ pos 7 ∷ pos 89 ∷ pos 0 ∷ pos 0 ∷ pos 61 ∷ pos 2 ∷ pos 2 ∷ pos 6 ∷ pos 4 ∷ pos 3 ∷ pos 7 ∷ pos 7 ∷ pos 5 ∷ pos 3 ∷ pos 5 ∷ pos 3 ∷ pos 4 ∷ pos 3 ∷ pos 115 ∷ pos 1 ∷ pos 1 ∷ pos 63 ∷ pos 0 ∷ pos 1 ∷ pos 6 ∷ pos 5 ∷ pos 4 ∷ pos 0 ∷ pos 0 ∷ pos 2 ∷ pos 4 ∷ pos 0 ∷ pos 0 ∷ pos 6 ∷ pos 4 ∷ pos 96 ∷ pos 1 ∷ pos 1 ∷ pos 63 ∷ pos 6 ∷ pos 4 ∷ pos 3 ∷ pos 6 ∷ pos 2 ∷ pos 7 ∷ pos 1 ∷ pos 6 ∷ pos 5 ∷ pos 0 ∷ pos 1 ∷ pos 2 ∷ pos 2 ∷ [] }
unfolding opened
any_state_44 = refl

-- any words from any sound state
pub any_decoder_1 : decode (record { drp = neg 15157 ∷ pos 32767 ∷ pos 32767 ∷ pos 32767 ∷ neg 32768 ∷ pos 32767 ∷ pos 32767 ∷ pos 23955 ∷ neg 32492 ∷ pos 32767 ∷ neg 2784 ∷ pos 32767 ∷ neg 32768 ∷ neg 29433 ∷ pos 32767 ∷ pos 32767 ∷ neg 28962 ∷ pos 32767 ∷ pos 32219 ∷ pos 32767 ∷ neg 2508 ∷ pos 32767 ∷ neg 32768 ∷ pos 21781 ∷ neg 32768 ∷ neg 32768 ∷ pos 10839 ∷ pos 22558 ∷ pos 32767 ∷ pos 4477 ∷ pos 32684 ∷ pos 18789 ∷ pos 32767 ∷ neg 952 ∷ pos 32767 ∷ pos 32767 ∷ neg 32768 ∷ pos 24767 ∷ neg 32768 ∷ pos 32767 ∷ pos 31417 ∷ pos 32767 ∷ pos 32767 ∷ pos 18821 ∷ neg 32768 ∷ neg 32768 ∷ neg 6617 ∷ pos 32767 ∷ pos 12297 ∷ pos 32767 ∷ pos 2526 ∷ pos 32767 ∷ neg 15828 ∷ pos 32767 ∷ pos 32767 ∷ pos 15038 ∷ neg 6575 ∷ pos 32767 ∷ pos 32767 ∷ neg 32768 ∷ pos 32767 ∷ neg 32768 ∷ neg 9541 ∷ neg 32768 ∷ neg 32768 ∷ neg 32768 ∷ pos 32767 ∷ pos 32767 ∷ pos 32767 ∷ neg 18418 ∷ pos 32767 ∷ neg 32768 ∷ neg 32768 ∷ pos 683 ∷ neg 10729 ∷ pos 3003 ∷ pos 32767 ∷ pos 32767 ∷ neg 32768 ∷ pos 32767 ∷ pos 32767 ∷ neg 32768 ∷ neg 32768 ∷ pos 453 ∷ neg 5363 ∷ neg 32768 ∷ neg 32768 ∷ neg 32768 ∷ neg 28138 ∷ pos 32767 ∷ pos 23155 ∷ neg 3854 ∷ neg 32768 ∷ pos 32767 ∷ pos 9338 ∷ neg 32768 ∷ neg 32768 ∷ neg 32768 ∷ neg 32768 ∷ pos 32767 ∷ pos 6275 ∷ pos 32767 ∷ neg 32768 ∷ neg 31657 ∷ neg 27799 ∷ neg 4248 ∷ neg 32768 ∷ pos 32767 ∷ pos 32767 ∷ neg 32768 ∷ pos 23979 ∷ pos 32767 ∷ neg 19081 ∷ pos 32767 ∷ neg 32768 ∷ pos 9875 ∷ pos 32767 ∷ neg 32768 ∷ pos 32767 ∷ pos 32767 ∷ []; nrp = pos 94; LARpp = pos 32767 ∷ pos 32767 ∷ pos 12301 ∷ pos 30736 ∷ neg 32768 ∷ neg 32768 ∷ neg 32768 ∷ neg 10938 ∷ []; v = pos 32767 ∷ pos 10778 ∷ pos 32767 ∷ pos 32767 ∷ pos 32767 ∷ neg 1942 ∷ neg 32768 ∷ pos 32767 ∷ []; msr = pos 32767 }) (pos 32767 ∷ neg 32768 ∷ neg 32768 ∷ neg 32768 ∷ neg 3446 ∷ pos 32767 ∷ pos 32767 ∷ pos 32767 ∷ neg 32768 ∷ pos 32767 ∷ neg 31146 ∷ neg 32768 ∷ neg 32768 ∷ neg 32768 ∷ neg 1359 ∷ neg 32768 ∷ pos 32767 ∷ neg 10829 ∷ neg 32768 ∷ pos 32767 ∷ pos 16813 ∷ pos 5770 ∷ pos 446 ∷ pos 32767 ∷ neg 32768 ∷ neg 32768 ∷ neg 32768 ∷ pos 5970 ∷ pos 32767 ∷ pos 32767 ∷ neg 32768 ∷ pos 32767 ∷ neg 32768 ∷ neg 32768 ∷ pos 28694 ∷ pos 32767 ∷ neg 8753 ∷ pos 32767 ∷ neg 32768 ∷ neg 32768 ∷ neg 32768 ∷ neg 32768 ∷ neg 32768 ∷ pos 32767 ∷ pos 32767 ∷ pos 32767 ∷ neg 32768 ∷ neg 32768 ∷ neg 32768 ∷ neg 32768 ∷ pos 32767 ∷ pos 32767 ∷ neg 23473 ∷ neg 32768 ∷ pos 32767 ∷ pos 32767 ∷ neg 32768 ∷ neg 19539 ∷ neg 32768 ∷ neg 32768 ∷ neg 32768 ∷ pos 32767 ∷ neg 18760 ∷ neg 32768 ∷ neg 32768 ∷ pos 32767 ∷ neg 32768 ∷ pos 32767 ∷ neg 32768 ∷ pos 32767 ∷ neg 24326 ∷ pos 32767 ∷ pos 28 ∷ pos 24824 ∷ neg 32768 ∷ pos 32767 ∷ []) (replicate 160 (pos 0)) ≡ record { number = 0; state = record { drp = pos 3277 ∷ pos 3277 ∷ pos 31948 ∷ neg 1842 ∷ pos 3277 ∷ neg 31948 ∷ neg 3277 ∷ pos 68 ∷ pos 27598 ∷ pos 300 ∷ pos 3277 ∷ neg 25394 ∷ neg 3277 ∷ pos 3277 ∷ neg 25394 ∷ neg 3277 ∷ neg 3277 ∷ pos 20524 ∷ neg 536 ∷ neg 3277 ∷ pos 25394 ∷ neg 3277 ∷ neg 2814 ∷ pos 31948 ∷ pos 2316 ∷ neg 385 ∷ pos 25394 ∷ pos 3277 ∷ pos 934 ∷ neg 31948 ∷ neg 3277 ∷ neg 3277 ∷ neg 31948 ∷ pos 3277 ∷ pos 628 ∷ neg 25394 ∷ neg 3277 ∷ neg 3166 ∷ neg 31451 ∷ neg 425 ∷ neg 32767 ∷ pos 32766 ∷ pos 32766 ∷ neg 32768 ∷ pos 23978 ∷ pos 32766 ∷ neg 32768 ∷ pos 32766 ∷ neg 32767 ∷ neg 18796 ∷ pos 32766 ∷ neg 32767 ∷ pos 4095 ∷ pos 32766 ∷ pos 10839 ∷ pos 32767 ∷ pos 32737 ∷ pos 4477 ∷ pos 32767 ∷ pos 18759 ∷ pos 32765 ∷ pos 27719 ∷ pos 32745 ∷ pos 32765 ∷ neg 32768 ∷ pos 24737 ∷ neg 32766 ∷ pos 32767 ∷ pos 31443 ∷ pos 32765 ∷ pos 32767 ∷ pos 18815 ∷ neg 32766 ∷ neg 32768 ∷ neg 6645 ∷ pos 32765 ∷ pos 24585 ∷ pos 32766 ∷ pos 2526 ∷ pos 4094 ∷ neg 1582 ∷ pos 3277 ∷ pos 3277 ∷ neg 14624 ∷ neg 658 ∷ pos 3277 ∷ neg 12850 ∷ neg 3277 ∷ pos 3277 ∷ pos 12853 ∷ neg 954 ∷ neg 3277 ∷ neg 19404 ∷ neg 3277 ∷ pos 328 ∷ pos 16455 ∷ pos 3195 ∷ neg 184 ∷ neg 15799 ∷ neg 3195 ∷ neg 328 ∷ pos 16134 ∷ pos 2760 ∷ pos 30 ∷ neg 6584 ∷ neg 2540 ∷ neg 328 ∷ pos 16455 ∷ neg 2540 ∷ neg 328 ∷ pos 1976 ∷ pos 2053 ∷ neg 54 ∷ neg 16455 ∷ pos 2540 ∷ neg 328 ∷ neg 16408 ∷ pos 3195 ∷ pos 232 ∷ pos 16088 ∷ []; nrp = pos 94; LARpp = pos 25394 ∷ neg 26214 ∷ neg 16384 ∷ neg 9012 ∷ pos 2182 ∷ pos 11468 ∷ pos 7206 ∷ pos 9718 ∷ []; v = pos 32767 ∷ neg 309 ∷ neg 30437 ∷ pos 6783 ∷ neg 7191 ∷ neg 4700 ∷ pos 5782 ∷ pos 15958 ∷ []; msr = pos 12908 }; samples = neg 9184 ∷ pos 32760 ∷ pos 32760 ∷ neg 21920 ∷ pos 32760 ∷ neg 25392 ∷ pos 32760 ∷ neg 27960 ∷ pos 32760 ∷ pos 27184 ∷ neg 32768 ∷ pos 32760 ∷ neg 32768 ∷ pos 32760 ∷ pos 31160 ∷ pos 32760 ∷ pos 32760 ∷ neg 9184 ∷ pos 32760 ∷ neg 27864 ∷ pos 32760 ∷ pos 32760 ∷ pos 24888 ∷ pos 32760 ∷ neg 9184 ∷ pos 32760 ∷ neg 15968 ∷ pos 32760 ∷ pos 21360 ∷ pos 32760 ∷ pos 3400 ∷ pos 32760 ∷ pos 32760 ∷ pos 19792 ∷ pos 32760 ∷ neg 9184 ∷ pos 32760 ∷ neg 15968 ∷ pos 32760 ∷ neg 32768 ∷ pos 6768 ∷ neg 32768 ∷ pos 14176 ∷ neg 32768 ∷ pos 19656 ∷ neg 32768 ∷ pos 23712 ∷ neg 32768 ∷ pos 26712 ∷ neg 32768 ∷ pos 28928 ∷ neg 32768 ∷ pos 30568 ∷ neg 32768 ∷ pos 30480 ∷ pos 4880 ∷ pos 7032 ∷ pos 32528 ∷ neg 16424 ∷ pos 32760 ∷ pos 29592 ∷ pos 11016 ∷ pos 32760 ∷ pos 32760 ∷ pos 32760 ∷ pos 32760 ∷ pos 32760 ∷ pos 32760 ∷ pos 32760 ∷ neg 8880 ∷ pos 32760 ∷ neg 15744 ∷ pos 32760 ∷ pos 32760 ∷ pos 32760 ∷ pos 18424 ∷ pos 32760 ∷ neg 9184 ∷ pos 32760 ∷ pos 32760 ∷ pos 19232 ∷ pos 32760 ∷ pos 32440 ∷ pos 32760 ∷ pos 32760 ∷ pos 32760 ∷ pos 32312 ∷ pos 32760 ∷ neg 9184 ∷ pos 32760 ∷ pos 6848 ∷ pos 5816 ∷ pos 27944 ∷ pos 32760 ∷ neg 9760 ∷ pos 32760 ∷ pos 17208 ∷ pos 14688 ∷ pos 32760 ∷ pos 22792 ∷ pos 32760 ∷ pos 32760 ∷ pos 32760 ∷ pos 32760 ∷ pos 32760 ∷ pos 32760 ∷ pos 1016 ∷ pos 32760 ∷ neg 9184 ∷ pos 32760 ∷ pos 20736 ∷ pos 32760 ∷ neg 9184 ∷ pos 32760 ∷ neg 15968 ∷ pos 32760 ∷ neg 18840 ∷ pos 32760 ∷ neg 23112 ∷ pos 32760 ∷ neg 26272 ∷ pos 32760 ∷ neg 28608 ∷ pos 32760 ∷ pos 17816 ∷ pos 32760 ∷ pos 7752 ∷ pos 32760 ∷ neg 9184 ∷ pos 32760 ∷ neg 15968 ∷ pos 32760 ∷ neg 20984 ∷ pos 32760 ∷ neg 24704 ∷ pos 32760 ∷ neg 27448 ∷ pos 32760 ∷ neg 29480 ∷ pos 32760 ∷ neg 30976 ∷ pos 32760 ∷ neg 32088 ∷ pos 32760 ∷ neg 32768 ∷ pos 32760 ∷ neg 32768 ∷ pos 32760 ∷ neg 32768 ∷ pos 32760 ∷ neg 32768 ∷ pos 32760 ∷ neg 32768 ∷ pos 32760 ∷ neg 25240 ∷ pos 18016 ∷ neg 32768 ∷ pos 22496 ∷ neg 32768 ∷ pos 25816 ∷ [] }
unfolding opened
any_decoder_1 = refl

-- and once more
pub any_decoder_2 : decode (record { drp = neg 32768 ∷ pos 32767 ∷ neg 10606 ∷ pos 32767 ∷ neg 4953 ∷ neg 28085 ∷ pos 32767 ∷ pos 18813 ∷ pos 15998 ∷ pos 25539 ∷ neg 32768 ∷ pos 32767 ∷ pos 32767 ∷ pos 32767 ∷ neg 11209 ∷ neg 32768 ∷ neg 32768 ∷ pos 32767 ∷ neg 32768 ∷ pos 14377 ∷ pos 32767 ∷ pos 21583 ∷ pos 14975 ∷ pos 32767 ∷ neg 32768 ∷ pos 19642 ∷ pos 27709 ∷ pos 32767 ∷ pos 32767 ∷ pos 13621 ∷ pos 32767 ∷ pos 13208 ∷ pos 32767 ∷ pos 32767 ∷ neg 11001 ∷ pos 32767 ∷ pos 32767 ∷ pos 32767 ∷ pos 32767 ∷ pos 15282 ∷ pos 32767 ∷ neg 32768 ∷ neg 32768 ∷ pos 32767 ∷ neg 3065 ∷ neg 18840 ∷ pos 32767 ∷ neg 32768 ∷ pos 32767 ∷ neg 32768 ∷ pos 32767 ∷ neg 32768 ∷ neg 32768 ∷ neg 32768 ∷ neg 32768 ∷ pos 32767 ∷ neg 32768 ∷ neg 12175 ∷ neg 8685 ∷ pos 32767 ∷ neg 32768 ∷ neg 32768 ∷ pos 32767 ∷ pos 32767 ∷ pos 32767 ∷ pos 32767 ∷ pos 26037 ∷ pos 32767 ∷ pos 19903 ∷ pos 32767 ∷ neg 32768 ∷ neg 32768 ∷ pos 32767 ∷ neg 16052 ∷ pos 32767 ∷ neg 32768 ∷ pos 32767 ∷ pos 1551 ∷ pos 22250 ∷ neg 30405 ∷ neg 14344 ∷ pos 32767 ∷ neg 32768 ∷ neg 32768 ∷ pos 32767 ∷ neg 2405 ∷ neg 32768 ∷ neg 2298 ∷ neg 32768 ∷ neg 32768 ∷ neg 2857 ∷ pos 32767 ∷ pos 32767 ∷ neg 32768 ∷ pos 32767 ∷ neg 32768 ∷ neg 18197 ∷ neg 32768 ∷ neg 32768 ∷ neg 32768 ∷ neg 32768 ∷ neg 32768 ∷ pos 32767 ∷ pos 7828 ∷ neg 32768 ∷ neg 5225 ∷ pos 32767 ∷ neg 29974 ∷ pos 32767 ∷ neg 32768 ∷ pos 32767 ∷ neg 30215 ∷ neg 17225 ∷ pos 32767 ∷ pos 32767 ∷ neg 30271 ∷ neg 32768 ∷ pos 32767 ∷ neg 6765 ∷ pos 32767 ∷ []; nrp = pos 47; LARpp = pos 21059 ∷ pos 32767 ∷ neg 5473 ∷ neg 32768 ∷ neg 32768 ∷ pos 32767 ∷ neg 32768 ∷ neg 32768 ∷ []; v = neg 17595 ∷ pos 32767 ∷ neg 32768 ∷ pos 32767 ∷ pos 32767 ∷ neg 32768 ∷ neg 22216 ∷ pos 11073 ∷ []; msr = neg 32768 }) (neg 32768 ∷ neg 32768 ∷ pos 32767 ∷ pos 32767 ∷ pos 32767 ∷ pos 32767 ∷ pos 29826 ∷ pos 32767 ∷ pos 32767 ∷ neg 32768 ∷ pos 31298 ∷ pos 1232 ∷ pos 23285 ∷ neg 21718 ∷ neg 32768 ∷ neg 32768 ∷ pos 32767 ∷ neg 32768 ∷ neg 32768 ∷ pos 32767 ∷ neg 2399 ∷ pos 32767 ∷ neg 10155 ∷ neg 32768 ∷ neg 12319 ∷ neg 32768 ∷ pos 10334 ∷ neg 184 ∷ neg 32768 ∷ pos 32767 ∷ pos 32767 ∷ pos 14228 ∷ pos 32767 ∷ pos 25058 ∷ neg 28917 ∷ pos 17465 ∷ pos 32767 ∷ pos 32767 ∷ pos 32767 ∷ pos 487 ∷ pos 21252 ∷ pos 32767 ∷ pos 10581 ∷ neg 22097 ∷ neg 3277 ∷ pos 32767 ∷ pos 17374 ∷ pos 32767 ∷ pos 28121 ∷ pos 28351 ∷ neg 32768 ∷ pos 32767 ∷ neg 4388 ∷ neg 32768 ∷ pos 32767 ∷ pos 32767 ∷ pos 32767 ∷ neg 32768 ∷ pos 32767 ∷ pos 483 ∷ pos 32767 ∷ neg 32768 ∷ neg 32768 ∷ pos 30857 ∷ neg 24191 ∷ pos 30801 ∷ pos 32767 ∷ pos 2221 ∷ neg 32768 ∷ neg 22308 ∷ neg 32768 ∷ pos 32767 ∷ neg 32768 ∷ pos 32767 ∷ pos 32767 ∷ neg 32768 ∷ []) (replicate 160 (pos 0)) ≡ record { number = 0; state = record { drp = pos 21326 ∷ pos 21298 ∷ neg 19676 ∷ neg 21271 ∷ pos 21298 ∷ neg 4397 ∷ pos 21302 ∷ neg 1043 ∷ pos 2130 ∷ neg 1962 ∷ pos 2130 ∷ pos 101 ∷ pos 1294 ∷ neg 1977 ∷ neg 932 ∷ pos 1798 ∷ neg 2130 ∷ neg 2130 ∷ pos 1782 ∷ neg 157 ∷ neg 2130 ∷ pos 206 ∷ neg 2130 ∷ neg 2130 ∷ neg 485 ∷ pos 2130 ∷ pos 2130 ∷ neg 2430 ∷ pos 2130 ∷ neg 2130 ∷ neg 827 ∷ neg 2130 ∷ neg 2130 ∷ neg 2360 ∷ neg 2130 ∷ neg 2130 ∷ pos 2486 ∷ pos 509 ∷ neg 2130 ∷ neg 200 ∷ neg 30270 ∷ neg 32767 ∷ pos 32766 ∷ pos 13714 ∷ pos 32766 ∷ neg 1605 ∷ pos 31948 ∷ neg 3061 ∷ pos 3277 ∷ neg 20324 ∷ pos 2009 ∷ neg 3041 ∷ pos 27237 ∷ pos 2773 ∷ neg 3277 ∷ neg 31948 ∷ pos 2773 ∷ neg 241 ∷ pos 25394 ∷ pos 274 ∷ neg 3277 ∷ pos 819 ∷ neg 790 ∷ pos 3277 ∷ neg 25394 ∷ neg 3781 ∷ pos 3277 ∷ pos 25394 ∷ neg 1316 ∷ neg 3277 ∷ pos 25394 ∷ neg 3637 ∷ neg 3277 ∷ pos 25394 ∷ pos 3781 ∷ pos 783 ∷ neg 31948 ∷ neg 307 ∷ pos 3277 ∷ pos 25673 ∷ pos 3257 ∷ neg 3277 ∷ neg 1316 ∷ neg 3297 ∷ neg 3277 ∷ neg 3637 ∷ neg 3297 ∷ neg 3277 ∷ pos 3781 ∷ pos 811 ∷ neg 3277 ∷ neg 307 ∷ pos 3289 ∷ neg 2998 ∷ pos 2773 ∷ neg 3305 ∷ pos 3277 ∷ neg 3382 ∷ neg 1719 ∷ pos 21325 ∷ pos 21297 ∷ neg 19703 ∷ neg 21270 ∷ pos 21297 ∷ neg 4369 ∷ pos 21301 ∷ neg 1043 ∷ pos 2102 ∷ neg 1962 ∷ pos 2130 ∷ pos 129 ∷ pos 1294 ∷ neg 1977 ∷ neg 904 ∷ pos 1798 ∷ neg 2130 ∷ neg 2158 ∷ pos 1782 ∷ neg 157 ∷ neg 2130 ∷ []; nrp = pos 99; LARpp = neg 26214 ∷ neg 26214 ∷ pos 9012 ∷ pos 16384 ∷ pos 8190 ∷ pos 11468 ∷ neg 2622 ∷ pos 9718 ∷ []; v = pos 27193 ∷ neg 28519 ∷ pos 4257 ∷ neg 2242 ∷ neg 9796 ∷ neg 2029 ∷ pos 1433 ∷ neg 4325 ∷ []; msr = pos 32767 }; samples = neg 32768 ∷ neg 32768 ∷ neg 32360 ∷ neg 32768 ∷ neg 32768 ∷ neg 27024 ∷ neg 32768 ∷ neg 32768 ∷ neg 32768 ∷ neg 32768 ∷ neg 32768 ∷ neg 32768 ∷ neg 32768 ∷ neg 32768 ∷ neg 32768 ∷ neg 32768 ∷ neg 32768 ∷ neg 32768 ∷ neg 32768 ∷ neg 32768 ∷ neg 32768 ∷ neg 32768 ∷ neg 32768 ∷ neg 25976 ∷ neg 32768 ∷ neg 27728 ∷ neg 32768 ∷ neg 32768 ∷ neg 32768 ∷ neg 32768 ∷ neg 32768 ∷ neg 32768 ∷ neg 32768 ∷ neg 32768 ∷ neg 32768 ∷ neg 32768 ∷ neg 32768 ∷ neg 32768 ∷ neg 32768 ∷ neg 32768 ∷ neg 13496 ∷ pos 32760 ∷ pos 32760 ∷ pos 32760 ∷ pos 32760 ∷ pos 32760 ∷ pos 32760 ∷ pos 32760 ∷ pos 32760 ∷ pos 32760 ∷ pos 32760 ∷ pos 32760 ∷ pos 32760 ∷ pos 32760 ∷ pos 32760 ∷ pos 32760 ∷ pos 32760 ∷ pos 32760 ∷ pos 32760 ∷ pos 32760 ∷ pos 32760 ∷ pos 32760 ∷ pos 32760 ∷ pos 32760 ∷ pos 32760 ∷ pos 32760 ∷ pos 32760 ∷ pos 32760 ∷ pos 32760 ∷ pos 32760 ∷ pos 32760 ∷ pos 32760 ∷ pos 32760 ∷ pos 32760 ∷ pos 32760 ∷ pos 32760 ∷ pos 32760 ∷ pos 32760 ∷ pos 32760 ∷ pos 32760 ∷ pos 32760 ∷ pos 32760 ∷ pos 32760 ∷ pos 32760 ∷ pos 32760 ∷ pos 32760 ∷ pos 32760 ∷ pos 32760 ∷ pos 32760 ∷ pos 32760 ∷ pos 32760 ∷ pos 32760 ∷ pos 32760 ∷ pos 32760 ∷ pos 32760 ∷ pos 32760 ∷ pos 32760 ∷ pos 32760 ∷ pos 32760 ∷ pos 32760 ∷ pos 32760 ∷ pos 32760 ∷ pos 32760 ∷ pos 32760 ∷ pos 32760 ∷ pos 32760 ∷ pos 32760 ∷ pos 32760 ∷ pos 32760 ∷ pos 32760 ∷ pos 32760 ∷ pos 32760 ∷ pos 32760 ∷ pos 32760 ∷ pos 32760 ∷ pos 32760 ∷ pos 32760 ∷ pos 32760 ∷ pos 32760 ∷ pos 32760 ∷ pos 32760 ∷ pos 32760 ∷ pos 32760 ∷ pos 32760 ∷ pos 32760 ∷ pos 32760 ∷ pos 32760 ∷ pos 32760 ∷ pos 32760 ∷ pos 32760 ∷ pos 32760 ∷ pos 32760 ∷ pos 32760 ∷ pos 32760 ∷ pos 32760 ∷ pos 32760 ∷ pos 32760 ∷ pos 32760 ∷ pos 32760 ∷ pos 32760 ∷ pos 32760 ∷ pos 32760 ∷ pos 32760 ∷ pos 32760 ∷ pos 32760 ∷ pos 32760 ∷ pos 32760 ∷ pos 32760 ∷ pos 32760 ∷ pos 32760 ∷ pos 32760 ∷ pos 32760 ∷ pos 32760 ∷ pos 32760 ∷ pos 32760 ∷ pos 32760 ∷ pos 32760 ∷ pos 32760 ∷ pos 32760 ∷ pos 32760 ∷ [] }
unfolding opened
any_decoder_2 = refl
