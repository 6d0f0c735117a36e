-- Frames of the vectors, encoded. Written by outside/write_trials.py.
use Rattle.std.specs.Prelude.{◌≡◌, refl, [], ◌∷◌, pos, replicate}
use Rattle.std.proofs.Math.Option.{some}
use Rattle.standard.specs.Tables.{neg}
use Rattle.standard.specs.Lpc.{silent, stopped, complete}
use Rattle.standard.specs.House.{rule, found}
use Rattle.standard.specs.Answers.{encode}
use Rattle.standard.specs.Opened.{opened}

-- samples of -1, 0 and 1, from home
pub e10_levels_0 : encode (record { z1 = pos 0; L_z2 = pos 0; mp = pos 0; LARpp = pos 0 ∷ pos 0 ∷ pos 0 ∷ pos 0 ∷ pos 0 ∷ pos 0 ∷ pos 0 ∷ pos 0 ∷ []; u = pos 0 ∷ pos 0 ∷ pos 0 ∷ pos 0 ∷ pos 0 ∷ pos 0 ∷ pos 0 ∷ pos 0 ∷ []; dp = pos 0 ∷ pos 0 ∷ pos 0 ∷ pos 0 ∷ pos 0 ∷ pos 0 ∷ pos 0 ∷ pos 0 ∷ pos 0 ∷ pos 0 ∷ pos 0 ∷ pos 0 ∷ pos 0 ∷ pos 0 ∷ pos 0 ∷ pos 0 ∷ pos 0 ∷ pos 0 ∷ pos 0 ∷ pos 0 ∷ pos 0 ∷ pos 0 ∷ pos 0 ∷ pos 0 ∷ pos 0 ∷ pos 0 ∷ pos 0 ∷ pos 0 ∷ pos 0 ∷ pos 0 ∷ pos 0 ∷ pos 0 ∷ pos 0 ∷ pos 0 ∷ pos 0 ∷ pos 0 ∷ pos 0 ∷ pos 0 ∷ pos 0 ∷ pos 0 ∷ pos 0 ∷ pos 0 ∷ pos 0 ∷ pos 0 ∷ pos 0 ∷ pos 0 ∷ pos 0 ∷ pos 0 ∷ pos 0 ∷ pos 0 ∷ pos 0 ∷ pos 0 ∷ pos 0 ∷ pos 0 ∷ pos 0 ∷ pos 0 ∷ pos 0 ∷ pos 0 ∷ pos 0 ∷ pos 0 ∷ pos 0 ∷ pos 0 ∷ pos 0 ∷ pos 0 ∷ pos 0 ∷ pos 0 ∷ pos 0 ∷ pos 0 ∷ pos 0 ∷ pos 0 ∷ pos 0 ∷ pos 0 ∷ pos 0 ∷ pos 0 ∷ pos 0 ∷ pos 0 ∷ pos 0 ∷ pos 0 ∷ pos 0 ∷ pos 0 ∷ pos 0 ∷ pos 0 ∷ pos 0 ∷ pos 0 ∷ pos 0 ∷ pos 0 ∷ pos 0 ∷ pos 0 ∷ pos 0 ∷ pos 0 ∷ pos 0 ∷ pos 0 ∷ pos 0 ∷ pos 0 ∷ pos 0 ∷ pos 0 ∷ pos 0 ∷ pos 0 ∷ pos 0 ∷ pos 0 ∷ pos 0 ∷ pos 0 ∷ pos 0 ∷ pos 0 ∷ pos 0 ∷ pos 0 ∷ pos 0 ∷ pos 0 ∷ pos 0 ∷ pos 0 ∷ pos 0 ∷ pos 0 ∷ pos 0 ∷ pos 0 ∷ pos 0 ∷ pos 0 ∷ pos 0 ∷ pos 0 ∷ pos 0 ∷ pos 0 ∷ [] }) (neg 1 ∷ pos 0 ∷ pos 0 ∷ pos 0 ∷ neg 1 ∷ pos 0 ∷ pos 0 ∷ neg 1 ∷ neg 1 ∷ pos 0 ∷ pos 0 ∷ neg 1 ∷ neg 1 ∷ neg 1 ∷ pos 0 ∷ pos 0 ∷ pos 0 ∷ neg 1 ∷ neg 1 ∷ pos 0 ∷ neg 1 ∷ pos 0 ∷ pos 0 ∷ pos 0 ∷ pos 0 ∷ neg 1 ∷ pos 0 ∷ neg 1 ∷ neg 1 ∷ neg 1 ∷ pos 0 ∷ pos 0 ∷ neg 1 ∷ neg 1 ∷ pos 0 ∷ neg 1 ∷ pos 0 ∷ neg 1 ∷ neg 1 ∷ neg 1 ∷ neg 1 ∷ neg 1 ∷ neg 1 ∷ neg 1 ∷ neg 1 ∷ neg 1 ∷ pos 0 ∷ pos 0 ∷ pos 0 ∷ neg 1 ∷ neg 1 ∷ neg 1 ∷ pos 0 ∷ pos 0 ∷ neg 1 ∷ neg 1 ∷ neg 1 ∷ neg 1 ∷ neg 1 ∷ pos 0 ∷ neg 1 ∷ neg 1 ∷ neg 1 ∷ pos 0 ∷ pos 0 ∷ neg 1 ∷ pos 0 ∷ pos 0 ∷ pos 0 ∷ pos 0 ∷ pos 0 ∷ neg 1 ∷ neg 1 ∷ neg 1 ∷ neg 1 ∷ neg 1 ∷ pos 0 ∷ pos 0 ∷ pos 0 ∷ pos 0 ∷ neg 1 ∷ pos 0 ∷ pos 0 ∷ pos 0 ∷ neg 1 ∷ neg 1 ∷ pos 0 ∷ pos 0 ∷ pos 0 ∷ neg 1 ∷ pos 0 ∷ pos 0 ∷ neg 1 ∷ pos 0 ∷ pos 0 ∷ neg 1 ∷ neg 1 ∷ pos 0 ∷ neg 1 ∷ neg 1 ∷ pos 0 ∷ neg 1 ∷ pos 0 ∷ neg 1 ∷ pos 0 ∷ pos 0 ∷ pos 0 ∷ pos 0 ∷ neg 1 ∷ pos 0 ∷ pos 0 ∷ neg 1 ∷ neg 1 ∷ pos 0 ∷ pos 0 ∷ neg 1 ∷ neg 1 ∷ pos 0 ∷ pos 0 ∷ pos 0 ∷ neg 1 ∷ neg 1 ∷ pos 0 ∷ pos 0 ∷ pos 0 ∷ pos 0 ∷ neg 1 ∷ pos 0 ∷ neg 1 ∷ neg 1 ∷ neg 1 ∷ neg 1 ∷ pos 0 ∷ pos 0 ∷ neg 1 ∷ pos 0 ∷ pos 0 ∷ neg 1 ∷ neg 1 ∷ pos 0 ∷ pos 0 ∷ pos 0 ∷ neg 1 ∷ neg 1 ∷ neg 1 ∷ neg 1 ∷ pos 0 ∷ pos 0 ∷ pos 0 ∷ pos 0 ∷ pos 0 ∷ pos 0 ∷ pos 0 ∷ pos 0 ∷ pos 0 ∷ neg 1 ∷ neg 1 ∷ pos 0 ∷ pos 0 ∷ neg 1 ∷ []) (replicate 76 (pos 0)) ≡ record { number = 0; state = record { z1 = neg 4; L_z2 = neg 121977; mp = neg 4; LARpp = pos 4096 ∷ pos 4096 ∷ pos 1638 ∷ neg 820 ∷ neg 2624 ∷ neg 546 ∷ neg 2622 ∷ neg 1422 ∷ []; u = neg 4 ∷ neg 1 ∷ pos 2 ∷ pos 0 ∷ neg 3 ∷ neg 1 ∷ neg 1 ∷ pos 0 ∷ []; dp = pos 4 ∷ pos 0 ∷ pos 0 ∷ neg 4 ∷ pos 0 ∷ pos 0 ∷ pos 4 ∷ pos 0 ∷ pos 0 ∷ neg 4 ∷ pos 0 ∷ pos 0 ∷ pos 4 ∷ pos 0 ∷ pos 0 ∷ neg 4 ∷ pos 0 ∷ pos 0 ∷ pos 4 ∷ pos 0 ∷ pos 0 ∷ neg 4 ∷ pos 0 ∷ pos 0 ∷ pos 4 ∷ pos 0 ∷ pos 0 ∷ pos 4 ∷ pos 0 ∷ pos 0 ∷ neg 4 ∷ pos 0 ∷ pos 0 ∷ neg 4 ∷ pos 0 ∷ pos 0 ∷ pos 4 ∷ pos 0 ∷ pos 0 ∷ pos 0 ∷ neg 4 ∷ pos 0 ∷ pos 0 ∷ neg 4 ∷ pos 0 ∷ pos 0 ∷ pos 4 ∷ pos 0 ∷ pos 0 ∷ neg 4 ∷ pos 0 ∷ pos 0 ∷ neg 4 ∷ pos 0 ∷ pos 0 ∷ neg 4 ∷ pos 0 ∷ pos 0 ∷ neg 4 ∷ pos 0 ∷ pos 0 ∷ neg 4 ∷ pos 0 ∷ pos 0 ∷ pos 4 ∷ pos 0 ∷ pos 0 ∷ pos 4 ∷ pos 0 ∷ pos 0 ∷ neg 4 ∷ pos 0 ∷ pos 0 ∷ pos 4 ∷ pos 0 ∷ pos 0 ∷ neg 4 ∷ pos 0 ∷ pos 0 ∷ pos 0 ∷ neg 4 ∷ pos 0 ∷ pos 0 ∷ pos 4 ∷ pos 0 ∷ pos 0 ∷ neg 4 ∷ pos 0 ∷ pos 0 ∷ neg 4 ∷ pos 0 ∷ pos 0 ∷ pos 4 ∷ pos 0 ∷ pos 0 ∷ pos 4 ∷ pos 0 ∷ pos 0 ∷ neg 4 ∷ pos 0 ∷ pos 0 ∷ neg 4 ∷ pos 0 ∷ pos 0 ∷ neg 4 ∷ pos 0 ∷ pos 0 ∷ pos 4 ∷ pos 0 ∷ pos 0 ∷ pos 4 ∷ pos 0 ∷ pos 0 ∷ neg 4 ∷ pos 0 ∷ pos 0 ∷ neg 4 ∷ pos 0 ∷ pos 0 ∷ pos 0 ∷ [] }; ending = some complete; marks = some rule ∷ some found ∷ some found ∷ some found ∷ []; codewords = pos 37 ∷ pos 37 ∷ pos 22 ∷ pos 10 ∷ pos 6 ∷ pos 4 ∷ pos 2 ∷ pos 1 ∷ pos 40 ∷ pos 0 ∷ pos 1 ∷ pos 0 ∷ pos 4 ∷ pos 3 ∷ pos 3 ∷ pos 3 ∷ pos 3 ∷ pos 3 ∷ pos 3 ∷ pos 4 ∷ pos 3 ∷ pos 3 ∷ pos 4 ∷ pos 3 ∷ pos 3 ∷ pos 45 ∷ pos 0 ∷ pos 0 ∷ pos 0 ∷ pos 4 ∷ pos 3 ∷ pos 4 ∷ pos 3 ∷ pos 4 ∷ pos 3 ∷ pos 4 ∷ pos 3 ∷ pos 4 ∷ pos 4 ∷ pos 3 ∷ pos 3 ∷ pos 4 ∷ pos 82 ∷ pos 0 ∷ pos 0 ∷ pos 0 ∷ pos 3 ∷ pos 3 ∷ pos 4 ∷ pos 3 ∷ pos 3 ∷ pos 3 ∷ pos 3 ∷ pos 3 ∷ pos 4 ∷ pos 4 ∷ pos 3 ∷ pos 4 ∷ pos 3 ∷ pos 100 ∷ pos 0 ∷ pos 0 ∷ pos 0 ∷ pos 3 ∷ pos 4 ∷ pos 3 ∷ pos 3 ∷ pos 4 ∷ pos 4 ∷ pos 3 ∷ pos 3 ∷ pos 3 ∷ pos 4 ∷ pos 4 ∷ pos 3 ∷ pos 3 ∷ [] }
unfolding opened
e10_levels_0 = refl

-- a voice that sets in, quietly; low bits that do not count
pub e32_speechlike_10 : encode (record { z1 = neg 24; L_z2 = neg 760940; mp = neg 23; LARpp = neg 10650 ∷ pos 8192 ∷ neg 8192 ∷ pos 820 ∷ neg 1422 ∷ pos 4916 ∷ pos 5242 ∷ pos 2292 ∷ []; u = neg 7 ∷ neg 5 ∷ neg 19 ∷ neg 9 ∷ neg 3 ∷ pos 41 ∷ neg 7 ∷ neg 11 ∷ []; dp = pos 2 ∷ pos 0 ∷ neg 40 ∷ pos 8 ∷ pos 5 ∷ neg 24 ∷ pos 16 ∷ neg 4 ∷ pos 8 ∷ pos 16 ∷ pos 3 ∷ neg 8 ∷ pos 4 ∷ neg 6 ∷ neg 8 ∷ pos 6 ∷ pos 5 ∷ pos 8 ∷ neg 5 ∷ pos 4 ∷ pos 24 ∷ neg 16 ∷ neg 6 ∷ pos 8 ∷ neg 5 ∷ pos 1 ∷ pos 8 ∷ neg 5 ∷ neg 3 ∷ neg 24 ∷ pos 0 ∷ pos 0 ∷ pos 32 ∷ pos 3 ∷ pos 0 ∷ pos 0 ∷ pos 3 ∷ pos 0 ∷ pos 21 ∷ pos 0 ∷ neg 1 ∷ pos 0 ∷ pos 1 ∷ pos 1 ∷ neg 3 ∷ pos 0 ∷ neg 14 ∷ neg 9 ∷ pos 2 ∷ neg 8 ∷ neg 14 ∷ neg 1 ∷ pos 3 ∷ pos 10 ∷ pos 1 ∷ neg 3 ∷ pos 13 ∷ neg 2 ∷ neg 3 ∷ pos 30 ∷ pos 2 ∷ pos 3 ∷ neg 6 ∷ pos 1 ∷ pos 8 ∷ neg 2 ∷ neg 2 ∷ pos 3 ∷ pos 2 ∷ pos 0 ∷ pos 3 ∷ neg 14 ∷ neg 1 ∷ neg 8 ∷ neg 12 ∷ pos 0 ∷ pos 11 ∷ pos 5 ∷ pos 0 ∷ pos 0 ∷ pos 1 ∷ neg 1 ∷ pos 31 ∷ neg 1 ∷ pos 1 ∷ pos 7 ∷ pos 0 ∷ neg 1 ∷ pos 13 ∷ neg 1 ∷ neg 4 ∷ pos 13 ∷ pos 1 ∷ pos 1 ∷ neg 20 ∷ neg 14 ∷ pos 3 ∷ pos 6 ∷ neg 8 ∷ pos 6 ∷ neg 13 ∷ pos 3 ∷ pos 6 ∷ pos 13 ∷ neg 3 ∷ pos 1 ∷ pos 10 ∷ neg 3 ∷ pos 2 ∷ pos 14 ∷ pos 3 ∷ neg 2 ∷ pos 5 ∷ pos 8 ∷ neg 6 ∷ pos 2 ∷ pos 3 ∷ neg 2 ∷ neg 20 ∷ pos 3 ∷ [] }) (pos 398 ∷ pos 810 ∷ pos 544 ∷ pos 162 ∷ pos 238 ∷ pos 420 ∷ pos 432 ∷ pos 320 ∷ pos 30 ∷ neg 242 ∷ neg 180 ∷ neg 12 ∷ neg 112 ∷ neg 348 ∷ neg 442 ∷ neg 376 ∷ neg 228 ∷ neg 106 ∷ neg 136 ∷ neg 214 ∷ neg 130 ∷ pos 72 ∷ pos 196 ∷ pos 191 ∷ pos 142 ∷ pos 139 ∷ pos 216 ∷ pos 291 ∷ pos 255 ∷ pos 133 ∷ pos 51 ∷ pos 51 ∷ pos 60 ∷ pos 12 ∷ neg 80 ∷ neg 160 ∷ neg 176 ∷ neg 137 ∷ neg 110 ∷ neg 130 ∷ neg 150 ∷ neg 122 ∷ neg 58 ∷ pos 4 ∷ pos 35 ∷ pos 34 ∷ pos 45 ∷ pos 92 ∷ pos 137 ∷ pos 140 ∷ pos 113 ∷ pos 87 ∷ pos 78 ∷ pos 74 ∷ pos 55 ∷ pos 11 ∷ neg 37 ∷ neg 56 ∷ neg 52 ∷ neg 58 ∷ neg 79 ∷ neg 90 ∷ neg 84 ∷ neg 65 ∷ neg 40 ∷ neg 20 ∷ neg 14 ∷ neg 6 ∷ pos 20 ∷ pos 44 ∷ pos 50 ∷ pos 47 ∷ pos 43 ∷ pos 46 ∷ pos 53 ∷ pos 53 ∷ pos 36 ∷ pos 18 ∷ pos 10 ∷ pos 2 ∷ neg 13 ∷ neg 29 ∷ pos 438 ∷ pos 913 ∷ pos 682 ∷ pos 276 ∷ pos 302 ∷ pos 460 ∷ pos 479 ∷ pos 372 ∷ pos 58 ∷ neg 270 ∷ neg 259 ∷ neg 99 ∷ neg 177 ∷ neg 398 ∷ neg 504 ∷ neg 456 ∷ neg 297 ∷ neg 139 ∷ neg 135 ∷ neg 205 ∷ neg 125 ∷ pos 85 ∷ pos 234 ∷ pos 255 ∷ pos 212 ∷ pos 190 ∷ pos 242 ∷ pos 312 ∷ pos 280 ∷ pos 148 ∷ pos 38 ∷ pos 4 ∷ pos 2 ∷ neg 31 ∷ neg 117 ∷ neg 205 ∷ neg 224 ∷ neg 181 ∷ neg 147 ∷ neg 152 ∷ neg 165 ∷ neg 142 ∷ neg 70 ∷ pos 14 ∷ pos 53 ∷ pos 51 ∷ pos 62 ∷ pos 104 ∷ pos 146 ∷ pos 154 ∷ pos 126 ∷ pos 83 ∷ pos 60 ∷ pos 62 ∷ pos 54 ∷ pos 14 ∷ neg 40 ∷ neg 75 ∷ neg 80 ∷ neg 70 ∷ neg 68 ∷ neg 81 ∷ neg 89 ∷ neg 74 ∷ neg 44 ∷ neg 17 ∷ pos 0 ∷ pos 10 ∷ pos 24 ∷ pos 40 ∷ pos 53 ∷ pos 58 ∷ pos 56 ∷ pos 54 ∷ pos 50 ∷ pos 45 ∷ pos 35 ∷ pos 16 ∷ []) (replicate 76 (pos 0)) ≡ record { number = 0; state = record { z1 = pos 8; L_z2 = pos 227173; mp = pos 7; LARpp = neg 6554 ∷ pos 10650 ∷ neg 7372 ∷ pos 3276 ∷ neg 8630 ∷ pos 4916 ∷ pos 3276 ∷ pos 4148 ∷ []; u = neg 6 ∷ pos 1 ∷ neg 5 ∷ pos 5 ∷ neg 4 ∷ pos 11 ∷ neg 6 ∷ pos 7 ∷ []; dp = neg 2 ∷ pos 0 ∷ pos 8 ∷ pos 0 ∷ pos 0 ∷ pos 13 ∷ pos 0 ∷ pos 0 ∷ pos 12 ∷ pos 0 ∷ pos 0 ∷ pos 2 ∷ pos 0 ∷ pos 0 ∷ neg 7 ∷ pos 0 ∷ neg 1 ∷ neg 2 ∷ pos 0 ∷ neg 1 ∷ neg 3 ∷ pos 0 ∷ pos 0 ∷ neg 1 ∷ pos 0 ∷ pos 0 ∷ pos 8 ∷ pos 0 ∷ pos 0 ∷ pos 5 ∷ pos 0 ∷ pos 0 ∷ pos 1 ∷ pos 0 ∷ pos 1 ∷ pos 1 ∷ pos 0 ∷ pos 0 ∷ neg 6 ∷ pos 0 ∷ pos 8 ∷ pos 3 ∷ pos 200 ∷ pos 7 ∷ pos 0 ∷ neg 72 ∷ pos 7 ∷ pos 0 ∷ neg 3 ∷ neg 4 ∷ neg 1 ∷ neg 24 ∷ neg 27 ∷ pos 1 ∷ neg 27 ∷ neg 4 ∷ neg 14 ∷ pos 15 ∷ neg 18 ∷ neg 8 ∷ pos 10 ∷ pos 3 ∷ pos 3 ∷ pos 34 ∷ neg 3 ∷ neg 3 ∷ pos 37 ∷ neg 6 ∷ neg 3 ∷ pos 6 ∷ pos 6 ∷ pos 3 ∷ neg 30 ∷ pos 5 ∷ pos 8 ∷ neg 26 ∷ pos 2 ∷ pos 3 ∷ neg 22 ∷ pos 0 ∷ neg 4 ∷ pos 0 ∷ pos 0 ∷ pos 4 ∷ pos 0 ∷ neg 1 ∷ pos 12 ∷ pos 1 ∷ pos 0 ∷ pos 16 ∷ pos 1 ∷ pos 0 ∷ pos 5 ∷ pos 1 ∷ pos 0 ∷ neg 4 ∷ pos 0 ∷ pos 0 ∷ neg 6 ∷ neg 3 ∷ pos 0 ∷ neg 7 ∷ pos 0 ∷ neg 1 ∷ neg 2 ∷ neg 2 ∷ neg 1 ∷ pos 5 ∷ pos 0 ∷ pos 0 ∷ pos 7 ∷ pos 0 ∷ pos 0 ∷ pos 8 ∷ neg 1 ∷ pos 0 ∷ pos 5 ∷ pos 1 ∷ pos 0 ∷ neg 3 ∷ [] }; ending = some complete; marks = some found ∷ some found ∷ some found ∷ some found ∷ []; codewords = pos 24 ∷ pos 45 ∷ pos 11 ∷ pos 15 ∷ pos 1 ∷ pos 9 ∷ pos 5 ∷ pos 4 ∷ pos 88 ∷ pos 3 ∷ pos 0 ∷ pos 5 ∷ pos 7 ∷ pos 2 ∷ pos 3 ∷ pos 3 ∷ pos 3 ∷ pos 4 ∷ pos 4 ∷ pos 4 ∷ pos 4 ∷ pos 3 ∷ pos 3 ∷ pos 3 ∷ pos 3 ∷ pos 42 ∷ pos 0 ∷ pos 2 ∷ pos 0 ∷ pos 2 ∷ pos 6 ∷ pos 5 ∷ pos 4 ∷ pos 3 ∷ pos 3 ∷ pos 3 ∷ pos 3 ∷ pos 4 ∷ pos 4 ∷ pos 4 ∷ pos 4 ∷ pos 3 ∷ pos 82 ∷ pos 3 ∷ pos 0 ∷ pos 0 ∷ pos 7 ∷ pos 4 ∷ pos 4 ∷ pos 3 ∷ pos 0 ∷ pos 3 ∷ pos 1 ∷ pos 4 ∷ pos 3 ∷ pos 3 ∷ pos 4 ∷ pos 4 ∷ pos 4 ∷ pos 47 ∷ pos 0 ∷ pos 0 ∷ pos 0 ∷ pos 3 ∷ pos 4 ∷ pos 5 ∷ pos 3 ∷ pos 5 ∷ pos 3 ∷ pos 3 ∷ pos 3 ∷ pos 3 ∷ pos 4 ∷ pos 4 ∷ pos 4 ∷ pos 4 ∷ [] }
unfolding opened
e32_speechlike_10 = refl

-- loud; two lags of 40 are found with gain code 0
pub e13_lowbits_34 : encode (record { z1 = pos 8696; L_z2 = pos 171361098; mp = pos 5230; LARpp = neg 25394 ∷ pos 0 ∷ pos 0 ∷ pos 0 ∷ neg 220 ∷ pos 546 ∷ neg 656 ∷ pos 436 ∷ []; u = pos 728 ∷ pos 8 ∷ pos 7 ∷ pos 7 ∷ pos 9 ∷ pos 8 ∷ pos 6 ∷ pos 9 ∷ []; dp = pos 7 ∷ pos 12 ∷ pos 0 ∷ pos 7 ∷ pos 12 ∷ pos 0 ∷ pos 7 ∷ pos 12 ∷ pos 0 ∷ pos 7 ∷ pos 12 ∷ pos 0 ∷ pos 7 ∷ pos 12 ∷ pos 0 ∷ pos 7 ∷ pos 12 ∷ pos 0 ∷ pos 7 ∷ pos 12 ∷ pos 0 ∷ pos 7 ∷ pos 12 ∷ pos 0 ∷ pos 7 ∷ pos 12 ∷ pos 0 ∷ pos 7 ∷ pos 16 ∷ neg 1 ∷ pos 2 ∷ pos 16 ∷ pos 0 ∷ pos 4 ∷ pos 12 ∷ pos 0 ∷ pos 9 ∷ pos 12 ∷ pos 0 ∷ pos 8 ∷ pos 11 ∷ pos 4 ∷ pos 0 ∷ pos 11 ∷ pos 4 ∷ pos 0 ∷ pos 14 ∷ pos 4 ∷ pos 0 ∷ pos 14 ∷ pos 4 ∷ pos 0 ∷ pos 14 ∷ pos 4 ∷ pos 0 ∷ pos 14 ∷ pos 4 ∷ pos 0 ∷ pos 4 ∷ pos 15 ∷ pos 0 ∷ neg 4 ∷ pos 20 ∷ pos 7 ∷ neg 4 ∷ pos 12 ∷ pos 7 ∷ pos 4 ∷ pos 12 ∷ pos 7 ∷ pos 4 ∷ pos 12 ∷ pos 7 ∷ pos 4 ∷ pos 12 ∷ pos 7 ∷ pos 4 ∷ pos 12 ∷ pos 7 ∷ pos 0 ∷ pos 0 ∷ pos 16 ∷ pos 7 ∷ pos 0 ∷ pos 8 ∷ pos 7 ∷ pos 0 ∷ pos 8 ∷ pos 7 ∷ pos 0 ∷ pos 8 ∷ pos 7 ∷ pos 0 ∷ pos 8 ∷ pos 7 ∷ pos 0 ∷ pos 8 ∷ pos 7 ∷ pos 0 ∷ pos 8 ∷ pos 7 ∷ pos 0 ∷ pos 8 ∷ pos 7 ∷ pos 0 ∷ pos 8 ∷ pos 7 ∷ pos 0 ∷ pos 8 ∷ pos 7 ∷ pos 0 ∷ pos 8 ∷ pos 7 ∷ pos 0 ∷ pos 8 ∷ pos 7 ∷ pos 4 ∷ pos 7 ∷ pos 7 ∷ pos 12 ∷ [] }) (pos 17392 ∷ pos 17392 ∷ pos 30608 ∷ pos 30608 ∷ pos 30608 ∷ pos 30608 ∷ pos 30608 ∷ pos 30608 ∷ pos 30608 ∷ pos 30608 ∷ pos 30608 ∷ pos 30608 ∷ pos 30608 ∷ pos 30608 ∷ pos 30608 ∷ pos 30608 ∷ pos 30608 ∷ pos 30608 ∷ pos 30608 ∷ pos 30608 ∷ pos 30608 ∷ pos 30608 ∷ pos 30608 ∷ pos 30608 ∷ pos 30608 ∷ pos 30608 ∷ pos 30608 ∷ pos 30608 ∷ pos 30608 ∷ pos 30608 ∷ pos 30608 ∷ pos 30608 ∷ pos 30608 ∷ pos 30608 ∷ pos 30608 ∷ pos 30608 ∷ pos 30608 ∷ pos 30608 ∷ pos 30608 ∷ pos 30608 ∷ pos 30608 ∷ pos 30608 ∷ pos 30608 ∷ pos 30608 ∷ pos 30608 ∷ pos 30608 ∷ pos 30608 ∷ pos 30608 ∷ pos 30608 ∷ pos 30608 ∷ pos 30608 ∷ pos 30608 ∷ pos 30608 ∷ pos 30608 ∷ pos 30608 ∷ pos 30608 ∷ pos 30608 ∷ pos 30608 ∷ pos 30608 ∷ pos 30608 ∷ pos 30608 ∷ pos 30608 ∷ pos 30608 ∷ pos 30608 ∷ pos 30608 ∷ pos 30608 ∷ pos 30608 ∷ pos 30608 ∷ pos 30608 ∷ pos 30608 ∷ pos 30608 ∷ pos 30608 ∷ pos 30608 ∷ pos 30608 ∷ pos 30608 ∷ pos 30608 ∷ pos 30608 ∷ pos 30608 ∷ pos 30608 ∷ pos 30608 ∷ pos 30608 ∷ pos 30608 ∷ pos 30608 ∷ pos 30608 ∷ pos 30608 ∷ pos 30608 ∷ pos 30608 ∷ pos 30608 ∷ pos 30608 ∷ pos 30608 ∷ pos 30608 ∷ pos 30608 ∷ pos 30608 ∷ pos 30608 ∷ pos 30608 ∷ pos 30608 ∷ pos 30608 ∷ pos 30608 ∷ pos 30608 ∷ pos 30608 ∷ pos 30608 ∷ neg 30472 ∷ neg 30472 ∷ neg 30472 ∷ neg 30472 ∷ neg 30472 ∷ neg 30472 ∷ neg 30472 ∷ neg 30472 ∷ neg 30472 ∷ neg 30472 ∷ neg 30472 ∷ neg 30472 ∷ neg 30472 ∷ neg 30472 ∷ neg 30472 ∷ neg 30472 ∷ neg 30472 ∷ neg 30472 ∷ neg 30472 ∷ neg 30472 ∷ neg 30472 ∷ neg 30472 ∷ neg 30472 ∷ neg 30472 ∷ neg 30472 ∷ neg 30472 ∷ neg 30472 ∷ neg 30472 ∷ neg 30472 ∷ neg 30472 ∷ neg 30472 ∷ neg 30472 ∷ neg 30472 ∷ neg 30472 ∷ neg 30472 ∷ neg 30472 ∷ neg 30472 ∷ neg 30472 ∷ neg 30472 ∷ neg 30472 ∷ neg 30472 ∷ neg 30472 ∷ neg 30472 ∷ neg 30472 ∷ neg 30472 ∷ neg 30472 ∷ neg 30472 ∷ neg 30472 ∷ neg 30472 ∷ neg 30472 ∷ neg 30472 ∷ neg 30472 ∷ neg 30472 ∷ neg 30472 ∷ neg 30472 ∷ neg 30472 ∷ neg 30472 ∷ neg 30472 ∷ neg 30472 ∷ []) (replicate 76 (pos 0)) ≡ record { number = 0; state = record { z1 = neg 15236; L_z2 = neg 613231102; mp = neg 18714; LARpp = neg 7372 ∷ neg 4916 ∷ neg 3276 ∷ neg 2458 ∷ neg 2624 ∷ neg 1638 ∷ neg 656 ∷ neg 1422 ∷ []; u = neg 2608 ∷ neg 1435 ∷ neg 1004 ∷ neg 803 ∷ neg 683 ∷ neg 590 ∷ neg 529 ∷ neg 504 ∷ []; dp = pos 0 ∷ pos 1322 ∷ pos 2 ∷ pos 0 ∷ pos 874 ∷ pos 2 ∷ pos 0 ∷ pos 765 ∷ pos 1 ∷ pos 0 ∷ pos 766 ∷ pos 1 ∷ pos 0 ∷ pos 766 ∷ pos 1 ∷ pos 0 ∷ pos 765 ∷ pos 1 ∷ pos 0 ∷ pos 765 ∷ pos 1 ∷ pos 0 ∷ pos 765 ∷ pos 1 ∷ pos 0 ∷ pos 765 ∷ pos 1 ∷ pos 0 ∷ pos 765 ∷ pos 1 ∷ pos 0 ∷ pos 765 ∷ pos 0 ∷ pos 2 ∷ pos 765 ∷ pos 0 ∷ pos 2 ∷ pos 766 ∷ pos 0 ∷ pos 1 ∷ pos 7 ∷ pos 0 ∷ pos 8 ∷ pos 3591 ∷ pos 0 ∷ pos 8 ∷ pos 3591 ∷ pos 0 ∷ pos 8 ∷ pos 3591 ∷ pos 0 ∷ pos 8 ∷ pos 3591 ∷ pos 4 ∷ pos 7 ∷ pos 3591 ∷ pos 12 ∷ pos 0 ∷ neg 441 ∷ pos 16 ∷ neg 1 ∷ neg 26429 ∷ pos 16 ∷ pos 0 ∷ pos 4036 ∷ pos 12 ∷ pos 0 ∷ pos 4041 ∷ pos 12 ∷ pos 0 ∷ neg 3128 ∷ pos 11 ∷ pos 4 ∷ neg 3136 ∷ pos 11 ∷ pos 4 ∷ neg 3136 ∷ pos 14 ∷ pos 4 ∷ neg 3136 ∷ neg 671 ∷ pos 0 ∷ pos 1 ∷ neg 1209 ∷ pos 0 ∷ pos 1 ∷ neg 1209 ∷ pos 0 ∷ pos 1 ∷ neg 1209 ∷ pos 0 ∷ pos 1 ∷ neg 1209 ∷ pos 0 ∷ pos 1 ∷ neg 1209 ∷ pos 1 ∷ pos 0 ∷ neg 1164 ∷ pos 2 ∷ pos 0 ∷ neg 1075 ∷ pos 2 ∷ pos 0 ∷ neg 1164 ∷ pos 1 ∷ pos 0 ∷ neg 1164 ∷ pos 1 ∷ pos 0 ∷ neg 1433 ∷ pos 1 ∷ pos 0 ∷ neg 1434 ∷ pos 1 ∷ pos 0 ∷ neg 1434 ∷ pos 1 ∷ pos 0 ∷ neg 314 ∷ [] }; ending = some complete; marks = some found ∷ some found ∷ some found ∷ some found ∷ []; codewords = pos 23 ∷ pos 26 ∷ pos 16 ∷ pos 8 ∷ pos 6 ∷ pos 3 ∷ pos 3 ∷ pos 1 ∷ pos 94 ∷ pos 3 ∷ pos 1 ∷ pos 37 ∷ pos 7 ∷ pos 2 ∷ pos 4 ∷ pos 4 ∷ pos 4 ∷ pos 4 ∷ pos 4 ∷ pos 4 ∷ pos 4 ∷ pos 4 ∷ pos 4 ∷ pos 4 ∷ pos 4 ∷ pos 40 ∷ pos 0 ∷ pos 1 ∷ pos 24 ∷ pos 7 ∷ pos 7 ∷ pos 6 ∷ pos 6 ∷ pos 6 ∷ pos 6 ∷ pos 6 ∷ pos 6 ∷ pos 6 ∷ pos 6 ∷ pos 6 ∷ pos 6 ∷ pos 6 ∷ pos 97 ∷ pos 3 ∷ pos 3 ∷ pos 61 ∷ pos 4 ∷ pos 4 ∷ pos 4 ∷ pos 4 ∷ pos 4 ∷ pos 3 ∷ pos 0 ∷ pos 4 ∷ pos 4 ∷ pos 3 ∷ pos 3 ∷ pos 3 ∷ pos 3 ∷ pos 40 ∷ pos 0 ∷ pos 0 ∷ pos 29 ∷ pos 2 ∷ pos 0 ∷ pos 0 ∷ pos 0 ∷ pos 0 ∷ pos 0 ∷ pos 1 ∷ pos 7 ∷ pos 0 ∷ pos 0 ∷ pos 1 ∷ pos 1 ∷ pos 1 ∷ [] }
unfolding opened
e13_lowbits_34 = refl

-- a buzz of period 40 from home: lag 40 by rule, then found
pub e27_buzz40_0 : encode (record { z1 = pos 0; L_z2 = pos 0; mp = pos 0; LARpp = pos 0 ∷ pos 0 ∷ pos 0 ∷ pos 0 ∷ pos 0 ∷ pos 0 ∷ pos 0 ∷ pos 0 ∷ []; u = pos 0 ∷ pos 0 ∷ pos 0 ∷ pos 0 ∷ pos 0 ∷ pos 0 ∷ pos 0 ∷ pos 0 ∷ []; dp = pos 0 ∷ pos 0 ∷ pos 0 ∷ pos 0 ∷ pos 0 ∷ pos 0 ∷ pos 0 ∷ pos 0 ∷ pos 0 ∷ pos 0 ∷ pos 0 ∷ pos 0 ∷ pos 0 ∷ pos 0 ∷ pos 0 ∷ pos 0 ∷ pos 0 ∷ pos 0 ∷ pos 0 ∷ pos 0 ∷ pos 0 ∷ pos 0 ∷ pos 0 ∷ pos 0 ∷ pos 0 ∷ pos 0 ∷ pos 0 ∷ pos 0 ∷ pos 0 ∷ pos 0 ∷ pos 0 ∷ pos 0 ∷ pos 0 ∷ pos 0 ∷ pos 0 ∷ pos 0 ∷ pos 0 ∷ pos 0 ∷ pos 0 ∷ pos 0 ∷ pos 0 ∷ pos 0 ∷ pos 0 ∷ pos 0 ∷ pos 0 ∷ pos 0 ∷ pos 0 ∷ pos 0 ∷ pos 0 ∷ pos 0 ∷ pos 0 ∷ pos 0 ∷ pos 0 ∷ pos 0 ∷ pos 0 ∷ pos 0 ∷ pos 0 ∷ pos 0 ∷ pos 0 ∷ pos 0 ∷ pos 0 ∷ pos 0 ∷ pos 0 ∷ pos 0 ∷ pos 0 ∷ pos 0 ∷ pos 0 ∷ pos 0 ∷ pos 0 ∷ pos 0 ∷ pos 0 ∷ pos 0 ∷ pos 0 ∷ pos 0 ∷ pos 0 ∷ pos 0 ∷ pos 0 ∷ pos 0 ∷ pos 0 ∷ pos 0 ∷ pos 0 ∷ pos 0 ∷ pos 0 ∷ pos 0 ∷ pos 0 ∷ pos 0 ∷ pos 0 ∷ pos 0 ∷ pos 0 ∷ pos 0 ∷ pos 0 ∷ pos 0 ∷ pos 0 ∷ pos 0 ∷ pos 0 ∷ pos 0 ∷ pos 0 ∷ pos 0 ∷ pos 0 ∷ pos 0 ∷ pos 0 ∷ pos 0 ∷ pos 0 ∷ pos 0 ∷ pos 0 ∷ pos 0 ∷ pos 0 ∷ pos 0 ∷ pos 0 ∷ pos 0 ∷ pos 0 ∷ pos 0 ∷ pos 0 ∷ pos 0 ∷ pos 0 ∷ pos 0 ∷ pos 0 ∷ pos 0 ∷ pos 0 ∷ pos 0 ∷ [] }) (pos 7902 ∷ pos 8032 ∷ neg 128 ∷ neg 118 ∷ neg 92 ∷ neg 167 ∷ neg 131 ∷ neg 115 ∷ pos 123 ∷ neg 83 ∷ neg 200 ∷ pos 25 ∷ pos 120 ∷ pos 147 ∷ neg 154 ∷ pos 7 ∷ pos 40 ∷ neg 146 ∷ pos 43 ∷ pos 82 ∷ neg 64 ∷ pos 120 ∷ pos 112 ∷ pos 193 ∷ neg 104 ∷ neg 133 ∷ neg 119 ∷ pos 56 ∷ neg 132 ∷ neg 159 ∷ pos 11 ∷ pos 42 ∷ neg 22 ∷ pos 164 ∷ pos 15 ∷ neg 56 ∷ pos 33 ∷ pos 84 ∷ neg 129 ∷ neg 159 ∷ pos 7927 ∷ pos 7930 ∷ neg 117 ∷ neg 157 ∷ neg 168 ∷ pos 134 ∷ pos 55 ∷ pos 117 ∷ pos 34 ∷ pos 155 ∷ neg 197 ∷ pos 33 ∷ neg 193 ∷ pos 160 ∷ pos 28 ∷ neg 70 ∷ neg 149 ∷ neg 182 ∷ neg 106 ∷ neg 15 ∷ pos 194 ∷ pos 30 ∷ neg 126 ∷ neg 94 ∷ neg 20 ∷ neg 164 ∷ neg 19 ∷ pos 49 ∷ pos 146 ∷ neg 97 ∷ pos 179 ∷ neg 135 ∷ pos 16 ∷ pos 187 ∷ pos 77 ∷ pos 137 ∷ pos 65 ∷ pos 6 ∷ pos 117 ∷ neg 82 ∷ pos 8154 ∷ pos 8083 ∷ neg 56 ∷ neg 132 ∷ neg 81 ∷ pos 174 ∷ neg 128 ∷ pos 94 ∷ neg 193 ∷ neg 19 ∷ neg 46 ∷ neg 127 ∷ neg 184 ∷ neg 55 ∷ pos 85 ∷ neg 62 ∷ neg 2 ∷ neg 41 ∷ neg 192 ∷ neg 95 ∷ pos 162 ∷ neg 113 ∷ neg 127 ∷ pos 13 ∷ neg 147 ∷ neg 152 ∷ neg 148 ∷ pos 18 ∷ neg 157 ∷ neg 5 ∷ neg 158 ∷ pos 83 ∷ neg 78 ∷ pos 183 ∷ pos 27 ∷ neg 93 ∷ pos 124 ∷ neg 57 ∷ pos 24 ∷ pos 141 ∷ pos 8031 ∷ pos 8166 ∷ neg 90 ∷ neg 102 ∷ pos 54 ∷ pos 30 ∷ neg 55 ∷ pos 52 ∷ pos 11 ∷ neg 90 ∷ pos 124 ∷ neg 56 ∷ neg 28 ∷ pos 81 ∷ neg 115 ∷ neg 152 ∷ pos 183 ∷ pos 140 ∷ neg 126 ∷ neg 180 ∷ pos 185 ∷ pos 67 ∷ pos 68 ∷ neg 15 ∷ pos 22 ∷ pos 92 ∷ pos 55 ∷ pos 131 ∷ pos 182 ∷ pos 32 ∷ pos 175 ∷ pos 140 ∷ pos 79 ∷ pos 3 ∷ neg 28 ∷ pos 59 ∷ neg 46 ∷ neg 73 ∷ pos 19 ∷ pos 69 ∷ []) (replicate 76 (pos 0)) ≡ record { number = 0; state = record { z1 = pos 32; L_z2 = pos 121163; mp = pos 4; LARpp = pos 0 ∷ pos 8192 ∷ pos 0 ∷ pos 4916 ∷ neg 220 ∷ pos 3822 ∷ neg 656 ∷ pos 2292 ∷ []; u = pos 20 ∷ pos 40 ∷ neg 14 ∷ neg 32 ∷ pos 30 ∷ neg 42 ∷ neg 13 ∷ neg 58 ∷ []; dp = pos 3976 ∷ pos 0 ∷ pos 0 ∷ neg 280 ∷ pos 0 ∷ pos 0 ∷ neg 456 ∷ pos 0 ∷ pos 0 ∷ neg 568 ∷ pos 0 ∷ pos 0 ∷ pos 56 ∷ pos 0 ∷ pos 0 ∷ neg 56 ∷ pos 0 ∷ pos 0 ∷ pos 56 ∷ pos 0 ∷ pos 0 ∷ pos 56 ∷ pos 0 ∷ pos 0 ∷ neg 56 ∷ pos 0 ∷ pos 0 ∷ neg 56 ∷ pos 0 ∷ pos 0 ∷ pos 56 ∷ pos 0 ∷ pos 0 ∷ pos 56 ∷ pos 0 ∷ pos 0 ∷ pos 56 ∷ pos 0 ∷ pos 0 ∷ pos 0 ∷ pos 4284 ∷ pos 0 ∷ pos 0 ∷ neg 236 ∷ pos 0 ∷ pos 0 ∷ neg 500 ∷ pos 0 ∷ pos 0 ∷ neg 524 ∷ pos 0 ∷ pos 0 ∷ neg 164 ∷ pos 0 ∷ pos 0 ∷ neg 12 ∷ pos 0 ∷ pos 0 ∷ neg 76 ∷ pos 0 ∷ pos 0 ∷ neg 76 ∷ pos 0 ∷ pos 0 ∷ neg 100 ∷ pos 0 ∷ pos 0 ∷ neg 12 ∷ pos 0 ∷ pos 0 ∷ neg 76 ∷ pos 0 ∷ pos 0 ∷ pos 100 ∷ pos 0 ∷ pos 0 ∷ pos 12 ∷ pos 0 ∷ pos 0 ∷ pos 0 ∷ pos 4284 ∷ pos 100 ∷ pos 0 ∷ neg 236 ∷ neg 100 ∷ pos 0 ∷ neg 500 ∷ neg 20 ∷ pos 0 ∷ neg 524 ∷ neg 100 ∷ pos 0 ∷ neg 164 ∷ pos 20 ∷ pos 0 ∷ neg 12 ∷ pos 60 ∷ pos 0 ∷ neg 76 ∷ pos 20 ∷ pos 0 ∷ neg 76 ∷ pos 100 ∷ pos 0 ∷ neg 100 ∷ pos 100 ∷ pos 0 ∷ neg 12 ∷ pos 100 ∷ pos 0 ∷ neg 76 ∷ pos 60 ∷ pos 0 ∷ pos 100 ∷ neg 140 ∷ pos 0 ∷ pos 12 ∷ neg 60 ∷ pos 0 ∷ pos 0 ∷ [] }; ending = some complete; marks = some rule ∷ some found ∷ some found ∷ some found ∷ []; codewords = pos 32 ∷ pos 42 ∷ pos 20 ∷ pos 17 ∷ pos 8 ∷ pos 8 ∷ pos 3 ∷ pos 3 ∷ pos 40 ∷ pos 0 ∷ pos 0 ∷ pos 38 ∷ pos 7 ∷ pos 1 ∷ pos 4 ∷ pos 3 ∷ pos 4 ∷ pos 3 ∷ pos 4 ∷ pos 4 ∷ pos 3 ∷ pos 3 ∷ pos 4 ∷ pos 4 ∷ pos 4 ∷ pos 40 ∷ pos 2 ∷ pos 0 ∷ pos 31 ∷ pos 7 ∷ pos 6 ∷ pos 2 ∷ pos 3 ∷ pos 3 ∷ pos 4 ∷ pos 3 ∷ pos 3 ∷ pos 4 ∷ pos 4 ∷ pos 3 ∷ pos 3 ∷ pos 3 ∷ pos 40 ∷ pos 3 ∷ pos 0 ∷ pos 10 ∷ pos 7 ∷ pos 4 ∷ pos 3 ∷ pos 4 ∷ pos 1 ∷ pos 4 ∷ pos 2 ∷ pos 2 ∷ pos 3 ∷ pos 4 ∷ pos 2 ∷ pos 4 ∷ pos 3 ∷ pos 40 ∷ pos 3 ∷ pos 1 ∷ pos 4 ∷ pos 6 ∷ pos 1 ∷ pos 3 ∷ pos 1 ∷ pos 4 ∷ pos 5 ∷ pos 4 ∷ pos 6 ∷ pos 6 ∷ pos 6 ∷ pos 5 ∷ pos 0 ∷ pos 2 ∷ [] }
unfolding opened
e27_buzz40_0 = refl

-- an impulse of -32768; the analysis lattice clips
pub e15_impulse_3 : encode (record { z1 = pos 16380; L_z2 = pos 331251888; mp = pos 10109; LARpp = neg 25394 ∷ pos 0 ∷ pos 0 ∷ pos 0 ∷ neg 220 ∷ pos 546 ∷ neg 656 ∷ pos 436 ∷ []; u = pos 1407 ∷ pos 14 ∷ pos 14 ∷ pos 15 ∷ pos 15 ∷ pos 14 ∷ pos 13 ∷ pos 16 ∷ []; dp = pos 20 ∷ pos 12 ∷ pos 8 ∷ pos 24 ∷ pos 12 ∷ pos 8 ∷ pos 24 ∷ pos 12 ∷ pos 8 ∷ pos 24 ∷ pos 12 ∷ pos 8 ∷ pos 24 ∷ pos 12 ∷ pos 8 ∷ pos 24 ∷ pos 12 ∷ pos 8 ∷ pos 24 ∷ pos 12 ∷ pos 8 ∷ pos 24 ∷ pos 12 ∷ pos 8 ∷ pos 24 ∷ pos 12 ∷ pos 3 ∷ pos 24 ∷ pos 12 ∷ pos 3 ∷ pos 24 ∷ pos 12 ∷ pos 3 ∷ pos 24 ∷ pos 12 ∷ pos 3 ∷ pos 24 ∷ pos 4 ∷ pos 18 ∷ pos 0 ∷ pos 16 ∷ pos 9 ∷ pos 8 ∷ pos 16 ∷ pos 9 ∷ pos 8 ∷ pos 16 ∷ pos 9 ∷ pos 8 ∷ pos 16 ∷ pos 9 ∷ pos 8 ∷ pos 16 ∷ pos 9 ∷ pos 8 ∷ pos 16 ∷ pos 9 ∷ pos 8 ∷ pos 16 ∷ pos 9 ∷ pos 8 ∷ pos 16 ∷ pos 17 ∷ pos 8 ∷ pos 16 ∷ pos 4 ∷ pos 21 ∷ pos 0 ∷ pos 17 ∷ pos 13 ∷ pos 13 ∷ pos 12 ∷ pos 5 ∷ pos 16 ∷ pos 12 ∷ pos 5 ∷ pos 16 ∷ pos 12 ∷ pos 5 ∷ pos 16 ∷ pos 16 ∷ pos 9 ∷ pos 8 ∷ pos 16 ∷ pos 9 ∷ pos 8 ∷ pos 16 ∷ pos 9 ∷ pos 8 ∷ pos 16 ∷ pos 9 ∷ pos 8 ∷ pos 16 ∷ pos 4 ∷ pos 21 ∷ pos 0 ∷ pos 17 ∷ pos 13 ∷ pos 13 ∷ pos 12 ∷ pos 5 ∷ pos 16 ∷ pos 12 ∷ pos 5 ∷ pos 16 ∷ pos 12 ∷ pos 5 ∷ pos 16 ∷ pos 12 ∷ pos 5 ∷ pos 16 ∷ pos 12 ∷ pos 5 ∷ pos 16 ∷ pos 12 ∷ pos 5 ∷ pos 16 ∷ pos 12 ∷ pos 5 ∷ pos 16 ∷ [] }) (neg 32768 ∷ pos 0 ∷ pos 0 ∷ pos 0 ∷ pos 0 ∷ pos 0 ∷ pos 0 ∷ pos 0 ∷ pos 0 ∷ pos 0 ∷ neg 32768 ∷ pos 0 ∷ pos 0 ∷ pos 0 ∷ pos 0 ∷ pos 0 ∷ pos 0 ∷ pos 0 ∷ pos 0 ∷ pos 0 ∷ neg 32768 ∷ pos 0 ∷ pos 0 ∷ pos 0 ∷ pos 0 ∷ pos 0 ∷ pos 0 ∷ pos 0 ∷ pos 0 ∷ pos 0 ∷ neg 32768 ∷ pos 0 ∷ pos 0 ∷ pos 0 ∷ pos 0 ∷ pos 0 ∷ pos 0 ∷ pos 0 ∷ pos 0 ∷ pos 0 ∷ neg 32768 ∷ pos 0 ∷ pos 0 ∷ pos 0 ∷ pos 0 ∷ pos 0 ∷ pos 0 ∷ pos 0 ∷ pos 0 ∷ pos 0 ∷ neg 32768 ∷ pos 0 ∷ pos 0 ∷ pos 0 ∷ pos 0 ∷ pos 0 ∷ pos 0 ∷ pos 0 ∷ pos 0 ∷ pos 0 ∷ neg 32768 ∷ pos 0 ∷ pos 0 ∷ pos 0 ∷ pos 0 ∷ pos 0 ∷ pos 0 ∷ pos 0 ∷ pos 0 ∷ pos 0 ∷ neg 32768 ∷ pos 0 ∷ pos 0 ∷ pos 0 ∷ pos 0 ∷ pos 0 ∷ pos 0 ∷ pos 0 ∷ pos 0 ∷ pos 0 ∷ neg 32768 ∷ pos 0 ∷ pos 0 ∷ pos 0 ∷ pos 0 ∷ pos 0 ∷ pos 0 ∷ pos 0 ∷ pos 0 ∷ pos 0 ∷ neg 32768 ∷ pos 0 ∷ pos 0 ∷ pos 0 ∷ pos 0 ∷ pos 0 ∷ pos 0 ∷ pos 0 ∷ pos 0 ∷ pos 0 ∷ neg 32768 ∷ pos 0 ∷ pos 0 ∷ pos 0 ∷ pos 0 ∷ pos 0 ∷ pos 0 ∷ pos 0 ∷ pos 0 ∷ pos 0 ∷ neg 32768 ∷ pos 0 ∷ pos 0 ∷ pos 0 ∷ pos 0 ∷ pos 0 ∷ pos 0 ∷ pos 0 ∷ pos 0 ∷ pos 0 ∷ neg 32768 ∷ pos 0 ∷ pos 0 ∷ pos 0 ∷ pos 0 ∷ pos 0 ∷ pos 0 ∷ pos 0 ∷ pos 0 ∷ pos 0 ∷ neg 32768 ∷ pos 0 ∷ pos 0 ∷ pos 0 ∷ pos 0 ∷ pos 0 ∷ pos 0 ∷ pos 0 ∷ pos 0 ∷ pos 0 ∷ neg 32768 ∷ pos 0 ∷ pos 0 ∷ pos 0 ∷ pos 0 ∷ pos 0 ∷ pos 0 ∷ pos 0 ∷ pos 0 ∷ pos 0 ∷ neg 32768 ∷ pos 0 ∷ pos 0 ∷ pos 0 ∷ pos 0 ∷ pos 0 ∷ pos 0 ∷ pos 0 ∷ pos 0 ∷ pos 0 ∷ []) (replicate 76 (pos 0)) ≡ record { number = 0; state = record { z1 = pos 0; L_z2 = neg 167388047; mp = neg 5108; LARpp = pos 7372 ∷ pos 4096 ∷ pos 1638 ∷ pos 0 ∷ neg 220 ∷ neg 1638 ∷ neg 656 ∷ neg 1422 ∷ []; u = neg 704 ∷ neg 1021 ∷ neg 1276 ∷ neg 1420 ∷ neg 1429 ∷ neg 1415 ∷ neg 1277 ∷ neg 1227 ∷ []; dp = neg 11643 ∷ pos 21 ∷ pos 2560 ∷ neg 1647 ∷ pos 13 ∷ pos 2573 ∷ neg 1652 ∷ pos 5 ∷ neg 2544 ∷ neg 4980 ∷ pos 5 ∷ neg 7664 ∷ pos 1676 ∷ pos 5 ∷ pos 2576 ∷ neg 1648 ∷ pos 9 ∷ pos 2568 ∷ neg 4976 ∷ pos 9 ∷ neg 17911 ∷ pos 5008 ∷ pos 9 ∷ pos 2568 ∷ neg 1648 ∷ pos 9 ∷ pos 2568 ∷ neg 1648 ∷ pos 4 ∷ neg 7659 ∷ neg 11647 ∷ pos 17 ∷ pos 2573 ∷ pos 1677 ∷ pos 12 ∷ pos 2565 ∷ neg 1648 ∷ pos 12 ∷ neg 2555 ∷ pos 16 ∷ neg 15803 ∷ pos 21 ∷ pos 2560 ∷ pos 2513 ∷ pos 13 ∷ pos 2573 ∷ neg 2484 ∷ pos 5 ∷ neg 2544 ∷ neg 10804 ∷ pos 5 ∷ neg 7664 ∷ pos 5836 ∷ pos 5 ∷ pos 2576 ∷ neg 2480 ∷ pos 9 ∷ pos 2568 ∷ neg 5808 ∷ pos 9 ∷ neg 17910 ∷ pos 4176 ∷ pos 9 ∷ pos 2568 ∷ neg 816 ∷ pos 9 ∷ pos 2568 ∷ neg 2480 ∷ pos 4 ∷ neg 7659 ∷ neg 12479 ∷ pos 17 ∷ pos 2573 ∷ pos 2509 ∷ pos 12 ∷ pos 2565 ∷ neg 2480 ∷ pos 12 ∷ neg 2555 ∷ pos 16 ∷ neg 10272 ∷ neg 1138 ∷ pos 1664 ∷ pos 1633 ∷ pos 1160 ∷ pos 1672 ∷ neg 1615 ∷ pos 1155 ∷ neg 1654 ∷ neg 7023 ∷ neg 8060 ∷ neg 4982 ∷ pos 3793 ∷ pos 1155 ∷ pos 1674 ∷ neg 1612 ∷ neg 1146 ∷ pos 1669 ∷ neg 3775 ∷ neg 5753 ∷ neg 11641 ∷ pos 2714 ∷ pos 1158 ∷ pos 1669 ∷ neg 530 ∷ neg 1146 ∷ pos 1669 ∷ neg 1612 ∷ neg 1149 ∷ neg 4978 ∷ neg 8111 ∷ neg 1141 ∷ pos 1672 ∷ pos 1631 ∷ pos 1160 ∷ pos 1667 ∷ neg 1612 ∷ neg 1144 ∷ neg 1661 ∷ pos 10 ∷ [] }; ending = some complete; marks = some found ∷ some found ∷ some found ∷ some found ∷ []; codewords = pos 41 ∷ pos 37 ∷ pos 22 ∷ pos 11 ∷ pos 8 ∷ pos 3 ∷ pos 3 ∷ pos 1 ∷ pos 55 ∷ pos 3 ∷ pos 0 ∷ pos 52 ∷ pos 0 ∷ pos 3 ∷ pos 3 ∷ pos 2 ∷ pos 4 ∷ pos 3 ∷ pos 2 ∷ pos 5 ∷ pos 3 ∷ pos 3 ∷ pos 0 ∷ pos 4 ∷ pos 3 ∷ pos 40 ∷ pos 3 ∷ pos 2 ∷ pos 57 ∷ pos 4 ∷ pos 4 ∷ pos 3 ∷ pos 2 ∷ pos 4 ∷ pos 4 ∷ pos 0 ∷ pos 4 ∷ pos 4 ∷ pos 2 ∷ pos 4 ∷ pos 4 ∷ pos 3 ∷ pos 40 ∷ pos 3 ∷ pos 0 ∷ pos 44 ∷ pos 1 ∷ pos 6 ∷ pos 3 ∷ pos 0 ∷ pos 6 ∷ pos 3 ∷ pos 3 ∷ pos 3 ∷ pos 4 ∷ pos 3 ∷ pos 3 ∷ pos 4 ∷ pos 3 ∷ pos 40 ∷ pos 2 ∷ pos 1 ∷ pos 48 ∷ pos 3 ∷ pos 4 ∷ pos 4 ∷ pos 0 ∷ pos 4 ∷ pos 3 ∷ pos 1 ∷ pos 4 ∷ pos 3 ∷ pos 3 ∷ pos 3 ∷ pos 4 ∷ pos 3 ∷ [] }
unfolding opened
e15_impulse_3 = refl

-- silence after loud noise
pub e20_loudsilence_7 : encode (record { z1 = pos 0; L_z2 = neg 101124; mp = neg 3; LARpp = neg 22938 ∷ pos 0 ∷ pos 0 ∷ pos 0 ∷ neg 220 ∷ pos 546 ∷ neg 656 ∷ pos 436 ∷ []; u = pos 0 ∷ pos 0 ∷ pos 0 ∷ pos 0 ∷ pos 0 ∷ pos 0 ∷ pos 0 ∷ pos 0 ∷ []; dp = pos 4 ∷ pos 0 ∷ pos 1 ∷ pos 3 ∷ pos 0 ∷ pos 0 ∷ pos 4 ∷ pos 0 ∷ pos 0 ∷ pos 4 ∷ pos 0 ∷ pos 0 ∷ pos 3 ∷ pos 1 ∷ pos 0 ∷ pos 4 ∷ pos 0 ∷ pos 0 ∷ neg 3 ∷ pos 0 ∷ pos 0 ∷ pos 4 ∷ pos 0 ∷ pos 0 ∷ pos 4 ∷ pos 0 ∷ pos 0 ∷ pos 3 ∷ pos 0 ∷ pos 0 ∷ pos 4 ∷ pos 0 ∷ pos 0 ∷ pos 4 ∷ neg 1 ∷ pos 0 ∷ pos 5 ∷ neg 1 ∷ pos 0 ∷ pos 0 ∷ pos 4 ∷ pos 0 ∷ pos 0 ∷ pos 4 ∷ pos 0 ∷ pos 0 ∷ pos 4 ∷ pos 0 ∷ pos 0 ∷ pos 4 ∷ pos 0 ∷ pos 0 ∷ pos 4 ∷ pos 0 ∷ pos 0 ∷ pos 4 ∷ pos 0 ∷ pos 0 ∷ pos 4 ∷ pos 0 ∷ pos 0 ∷ pos 4 ∷ pos 0 ∷ pos 0 ∷ pos 4 ∷ pos 0 ∷ pos 0 ∷ pos 4 ∷ pos 0 ∷ pos 0 ∷ pos 4 ∷ pos 0 ∷ pos 0 ∷ pos 4 ∷ pos 0 ∷ pos 0 ∷ neg 3 ∷ pos 0 ∷ pos 0 ∷ pos 0 ∷ pos 4 ∷ pos 0 ∷ pos 0 ∷ pos 4 ∷ pos 0 ∷ pos 0 ∷ pos 4 ∷ pos 0 ∷ pos 0 ∷ pos 4 ∷ pos 0 ∷ pos 0 ∷ pos 4 ∷ pos 0 ∷ pos 0 ∷ pos 4 ∷ pos 0 ∷ pos 0 ∷ pos 4 ∷ pos 0 ∷ pos 0 ∷ pos 4 ∷ pos 0 ∷ pos 0 ∷ pos 4 ∷ pos 0 ∷ pos 0 ∷ pos 4 ∷ pos 0 ∷ pos 0 ∷ pos 4 ∷ pos 0 ∷ pos 0 ∷ pos 4 ∷ pos 0 ∷ pos 0 ∷ pos 4 ∷ pos 0 ∷ pos 0 ∷ pos 0 ∷ [] }) (pos 0 ∷ pos 0 ∷ pos 0 ∷ pos 0 ∷ pos 0 ∷ pos 0 ∷ pos 0 ∷ pos 0 ∷ pos 0 ∷ pos 0 ∷ pos 0 ∷ pos 0 ∷ pos 0 ∷ pos 0 ∷ pos 0 ∷ pos 0 ∷ pos 0 ∷ pos 0 ∷ pos 0 ∷ pos 0 ∷ pos 0 ∷ pos 0 ∷ pos 0 ∷ pos 0 ∷ pos 0 ∷ pos 0 ∷ pos 0 ∷ pos 0 ∷ pos 0 ∷ pos 0 ∷ pos 0 ∷ pos 0 ∷ pos 0 ∷ pos 0 ∷ pos 0 ∷ pos 0 ∷ pos 0 ∷ pos 0 ∷ pos 0 ∷ pos 0 ∷ pos 0 ∷ pos 0 ∷ pos 0 ∷ pos 0 ∷ pos 0 ∷ pos 0 ∷ pos 0 ∷ pos 0 ∷ pos 0 ∷ pos 0 ∷ pos 0 ∷ pos 0 ∷ pos 0 ∷ pos 0 ∷ pos 0 ∷ pos 0 ∷ pos 0 ∷ pos 0 ∷ pos 0 ∷ pos 0 ∷ pos 0 ∷ pos 0 ∷ pos 0 ∷ pos 0 ∷ pos 0 ∷ pos 0 ∷ pos 0 ∷ pos 0 ∷ pos 0 ∷ pos 0 ∷ pos 0 ∷ pos 0 ∷ pos 0 ∷ pos 0 ∷ pos 0 ∷ pos 0 ∷ pos 0 ∷ pos 0 ∷ pos 0 ∷ pos 0 ∷ pos 0 ∷ pos 0 ∷ pos 0 ∷ pos 0 ∷ pos 0 ∷ pos 0 ∷ pos 0 ∷ pos 0 ∷ pos 0 ∷ pos 0 ∷ pos 0 ∷ pos 0 ∷ pos 0 ∷ pos 0 ∷ pos 0 ∷ pos 0 ∷ pos 0 ∷ pos 0 ∷ pos 0 ∷ pos 0 ∷ pos 0 ∷ pos 0 ∷ pos 0 ∷ pos 0 ∷ pos 0 ∷ pos 0 ∷ pos 0 ∷ pos 0 ∷ pos 0 ∷ pos 0 ∷ pos 0 ∷ pos 0 ∷ pos 0 ∷ pos 0 ∷ pos 0 ∷ pos 0 ∷ pos 0 ∷ pos 0 ∷ pos 0 ∷ pos 0 ∷ pos 0 ∷ pos 0 ∷ pos 0 ∷ pos 0 ∷ pos 0 ∷ pos 0 ∷ pos 0 ∷ pos 0 ∷ pos 0 ∷ pos 0 ∷ pos 0 ∷ pos 0 ∷ pos 0 ∷ pos 0 ∷ pos 0 ∷ pos 0 ∷ pos 0 ∷ pos 0 ∷ pos 0 ∷ pos 0 ∷ pos 0 ∷ pos 0 ∷ pos 0 ∷ pos 0 ∷ pos 0 ∷ pos 0 ∷ pos 0 ∷ pos 0 ∷ pos 0 ∷ pos 0 ∷ pos 0 ∷ pos 0 ∷ pos 0 ∷ pos 0 ∷ pos 0 ∷ pos 0 ∷ pos 0 ∷ pos 0 ∷ pos 0 ∷ pos 0 ∷ []) (replicate 76 (pos 0)) ≡ record { number = 0; state = record { z1 = pos 0; L_z2 = neg 86065; mp = neg 3; LARpp = pos 0 ∷ pos 0 ∷ pos 0 ∷ pos 0 ∷ neg 220 ∷ pos 546 ∷ neg 656 ∷ pos 436 ∷ []; u = pos 0 ∷ pos 0 ∷ pos 0 ∷ pos 0 ∷ pos 0 ∷ pos 0 ∷ pos 0 ∷ pos 0 ∷ []; dp = pos 4 ∷ pos 0 ∷ pos 0 ∷ pos 4 ∷ pos 0 ∷ pos 0 ∷ pos 4 ∷ pos 0 ∷ pos 0 ∷ pos 4 ∷ pos 0 ∷ pos 0 ∷ pos 4 ∷ pos 0 ∷ pos 0 ∷ pos 4 ∷ pos 0 ∷ pos 0 ∷ pos 4 ∷ pos 0 ∷ pos 0 ∷ pos 4 ∷ pos 0 ∷ pos 0 ∷ pos 4 ∷ pos 0 ∷ pos 0 ∷ pos 4 ∷ pos 0 ∷ pos 0 ∷ pos 4 ∷ pos 0 ∷ pos 0 ∷ pos 4 ∷ pos 0 ∷ pos 0 ∷ pos 4 ∷ pos 0 ∷ pos 0 ∷ pos 0 ∷ pos 4 ∷ pos 0 ∷ pos 0 ∷ pos 4 ∷ pos 0 ∷ pos 0 ∷ pos 4 ∷ pos 0 ∷ pos 0 ∷ pos 4 ∷ pos 0 ∷ pos 0 ∷ pos 4 ∷ pos 0 ∷ pos 0 ∷ pos 4 ∷ pos 0 ∷ pos 0 ∷ pos 4 ∷ pos 0 ∷ pos 0 ∷ pos 4 ∷ pos 0 ∷ pos 0 ∷ pos 4 ∷ pos 0 ∷ pos 0 ∷ pos 4 ∷ pos 0 ∷ pos 0 ∷ pos 4 ∷ pos 0 ∷ pos 0 ∷ pos 4 ∷ pos 0 ∷ pos 0 ∷ pos 4 ∷ pos 0 ∷ pos 0 ∷ pos 0 ∷ pos 4 ∷ pos 0 ∷ pos 0 ∷ pos 4 ∷ pos 0 ∷ pos 0 ∷ pos 4 ∷ pos 0 ∷ pos 0 ∷ pos 4 ∷ pos 0 ∷ pos 0 ∷ pos 4 ∷ pos 0 ∷ pos 0 ∷ pos 4 ∷ pos 0 ∷ pos 0 ∷ pos 4 ∷ pos 0 ∷ pos 0 ∷ pos 4 ∷ pos 0 ∷ pos 0 ∷ pos 4 ∷ pos 0 ∷ pos 0 ∷ pos 4 ∷ pos 0 ∷ pos 0 ∷ pos 4 ∷ pos 0 ∷ pos 0 ∷ pos 4 ∷ pos 0 ∷ pos 0 ∷ pos 4 ∷ pos 0 ∷ pos 0 ∷ pos 0 ∷ [] }; ending = some silent; marks = some rule ∷ some rule ∷ some rule ∷ some rule ∷ []; codewords = pos 32 ∷ pos 32 ∷ pos 20 ∷ pos 11 ∷ pos 8 ∷ pos 5 ∷ pos 3 ∷ pos 2 ∷ pos 40 ∷ pos 0 ∷ pos 0 ∷ pos 0 ∷ pos 4 ∷ pos 4 ∷ pos 4 ∷ pos 4 ∷ pos 4 ∷ pos 4 ∷ pos 4 ∷ pos 4 ∷ pos 4 ∷ pos 4 ∷ pos 4 ∷ pos 4 ∷ pos 4 ∷ pos 40 ∷ pos 0 ∷ pos 0 ∷ pos 0 ∷ pos 4 ∷ pos 4 ∷ pos 4 ∷ pos 4 ∷ pos 4 ∷ pos 4 ∷ pos 4 ∷ pos 4 ∷ pos 4 ∷ pos 4 ∷ pos 4 ∷ pos 4 ∷ pos 4 ∷ pos 40 ∷ pos 0 ∷ pos 0 ∷ pos 0 ∷ pos 4 ∷ pos 4 ∷ pos 4 ∷ pos 4 ∷ pos 4 ∷ pos 4 ∷ pos 4 ∷ pos 4 ∷ pos 4 ∷ pos 4 ∷ pos 4 ∷ pos 4 ∷ pos 4 ∷ pos 40 ∷ pos 0 ∷ pos 0 ∷ pos 0 ∷ pos 4 ∷ pos 4 ∷ pos 4 ∷ pos 4 ∷ pos 4 ∷ pos 4 ∷ pos 4 ∷ pos 4 ∷ pos 4 ∷ pos 4 ∷ pos 4 ∷ pos 4 ∷ pos 4 ∷ [] }
unfolding opened
e20_loudsilence_7 = refl

-- as loud as can be; the analysis lattice clips, and abs(-32768) in 4.2.11
pub e20_loudsilence_34 : encode (record { z1 = pos 0; L_z2 = neg 1238440; mp = neg 38; LARpp = neg 25394 ∷ neg 820 ∷ pos 0 ∷ pos 0 ∷ neg 220 ∷ pos 546 ∷ neg 656 ∷ pos 436 ∷ []; u = neg 5 ∷ pos 0 ∷ pos 0 ∷ pos 0 ∷ pos 0 ∷ pos 0 ∷ pos 0 ∷ pos 0 ∷ []; dp = pos 4 ∷ pos 0 ∷ pos 0 ∷ pos 4 ∷ pos 0 ∷ pos 0 ∷ pos 4 ∷ pos 0 ∷ pos 0 ∷ pos 4 ∷ pos 0 ∷ pos 0 ∷ pos 4 ∷ pos 0 ∷ pos 0 ∷ pos 4 ∷ pos 0 ∷ pos 0 ∷ pos 4 ∷ pos 0 ∷ pos 0 ∷ pos 4 ∷ pos 0 ∷ pos 0 ∷ pos 4 ∷ pos 0 ∷ pos 0 ∷ pos 4 ∷ pos 0 ∷ pos 0 ∷ pos 4 ∷ pos 0 ∷ pos 0 ∷ pos 4 ∷ pos 0 ∷ pos 0 ∷ pos 4 ∷ pos 0 ∷ pos 0 ∷ pos 0 ∷ pos 4 ∷ pos 0 ∷ pos 0 ∷ pos 4 ∷ pos 0 ∷ pos 0 ∷ pos 4 ∷ pos 0 ∷ pos 0 ∷ pos 4 ∷ pos 0 ∷ pos 0 ∷ pos 4 ∷ pos 0 ∷ pos 0 ∷ pos 4 ∷ pos 0 ∷ pos 0 ∷ pos 4 ∷ pos 0 ∷ pos 0 ∷ pos 4 ∷ pos 0 ∷ pos 0 ∷ pos 4 ∷ pos 0 ∷ pos 0 ∷ pos 4 ∷ pos 0 ∷ pos 0 ∷ pos 4 ∷ pos 0 ∷ pos 0 ∷ pos 4 ∷ pos 0 ∷ pos 0 ∷ pos 4 ∷ pos 0 ∷ pos 0 ∷ pos 0 ∷ pos 4 ∷ pos 0 ∷ pos 0 ∷ pos 4 ∷ pos 0 ∷ pos 0 ∷ pos 4 ∷ pos 0 ∷ pos 0 ∷ pos 4 ∷ pos 0 ∷ pos 0 ∷ pos 4 ∷ pos 0 ∷ pos 0 ∷ pos 4 ∷ pos 0 ∷ pos 0 ∷ pos 4 ∷ pos 0 ∷ pos 0 ∷ pos 4 ∷ pos 0 ∷ pos 0 ∷ pos 4 ∷ pos 0 ∷ pos 0 ∷ pos 4 ∷ pos 0 ∷ pos 0 ∷ pos 4 ∷ pos 0 ∷ pos 0 ∷ pos 4 ∷ pos 0 ∷ pos 0 ∷ pos 4 ∷ pos 0 ∷ pos 0 ∷ pos 0 ∷ [] }) (pos 30886 ∷ neg 13046 ∷ pos 23263 ∷ pos 16743 ∷ pos 3494 ∷ neg 20560 ∷ neg 16810 ∷ neg 6727 ∷ pos 28362 ∷ neg 10087 ∷ pos 29490 ∷ neg 12301 ∷ pos 30456 ∷ pos 30832 ∷ pos 21588 ∷ pos 25874 ∷ pos 13060 ∷ pos 26648 ∷ neg 14497 ∷ neg 5888 ∷ pos 31271 ∷ neg 23876 ∷ neg 28215 ∷ pos 14523 ∷ neg 166 ∷ pos 26562 ∷ neg 8858 ∷ pos 5861 ∷ neg 11499 ∷ pos 28006 ∷ neg 19428 ∷ neg 12592 ∷ neg 26464 ∷ neg 18128 ∷ pos 32139 ∷ pos 14753 ∷ neg 16256 ∷ neg 712 ∷ pos 25812 ∷ pos 16439 ∷ neg 3836 ∷ pos 26695 ∷ neg 22143 ∷ pos 27522 ∷ neg 32513 ∷ pos 10228 ∷ neg 26956 ∷ neg 6787 ∷ pos 8937 ∷ pos 2008 ∷ pos 26994 ∷ pos 2911 ∷ pos 14839 ∷ neg 9665 ∷ neg 22298 ∷ neg 18073 ∷ pos 17673 ∷ pos 20247 ∷ neg 29943 ∷ neg 20514 ∷ neg 11776 ∷ neg 32611 ∷ neg 22640 ∷ neg 21256 ∷ pos 13283 ∷ pos 351 ∷ pos 23698 ∷ pos 7562 ∷ neg 26999 ∷ pos 10536 ∷ pos 4632 ∷ neg 22560 ∷ pos 32349 ∷ pos 25626 ∷ neg 16303 ∷ neg 3821 ∷ neg 6424 ∷ neg 30700 ∷ pos 14580 ∷ neg 17854 ∷ pos 19928 ∷ pos 6749 ∷ pos 17380 ∷ neg 1366 ∷ pos 13954 ∷ pos 13545 ∷ pos 32685 ∷ neg 9051 ∷ neg 23248 ∷ neg 1395 ∷ pos 12482 ∷ pos 16311 ∷ neg 12568 ∷ neg 7903 ∷ neg 26575 ∷ neg 25663 ∷ neg 7358 ∷ neg 8519 ∷ pos 187 ∷ pos 21343 ∷ pos 22730 ∷ pos 27506 ∷ pos 21378 ∷ neg 18201 ∷ pos 9759 ∷ pos 2403 ∷ pos 3204 ∷ pos 23325 ∷ neg 18106 ∷ neg 11067 ∷ pos 1971 ∷ neg 5844 ∷ pos 12778 ∷ pos 6260 ∷ neg 26048 ∷ neg 27452 ∷ neg 13214 ∷ pos 19510 ∷ neg 13926 ∷ pos 7690 ∷ pos 4523 ∷ neg 25551 ∷ neg 23423 ∷ neg 28510 ∷ pos 22068 ∷ pos 13150 ∷ pos 18991 ∷ pos 29943 ∷ neg 3825 ∷ neg 14227 ∷ neg 5414 ∷ neg 25031 ∷ neg 4836 ∷ pos 7722 ∷ neg 16947 ∷ pos 21307 ∷ neg 28257 ∷ neg 9779 ∷ pos 31497 ∷ pos 920 ∷ neg 19679 ∷ neg 15583 ∷ neg 2137 ∷ pos 14714 ∷ pos 22850 ∷ pos 8120 ∷ pos 14183 ∷ pos 26715 ∷ neg 30938 ∷ pos 16965 ∷ neg 4679 ∷ pos 27040 ∷ neg 9819 ∷ neg 25109 ∷ neg 19835 ∷ neg 22082 ∷ pos 7399 ∷ neg 28397 ∷ pos 2004 ∷ neg 12888 ∷ []) (replicate 76 (pos 0)) ≡ record { number = 0; state = record { z1 = neg 6444; L_z2 = neg 213112822; mp = neg 6504; LARpp = pos 8192 ∷ pos 4096 ∷ pos 2458 ∷ pos 4096 ∷ pos 2182 ∷ pos 1638 ∷ pos 1310 ∷ pos 2292 ∷ []; u = neg 7312 ∷ pos 9560 ∷ neg 10960 ∷ pos 5124 ∷ pos 1598 ∷ pos 2342 ∷ neg 8327 ∷ neg 20683 ∷ []; dp = pos 0 ∷ pos 4 ∷ neg 2304 ∷ pos 0 ∷ pos 4 ∷ neg 16127 ∷ pos 0 ∷ pos 4 ∷ pos 2304 ∷ pos 0 ∷ pos 4 ∷ pos 11519 ∷ pos 0 ∷ pos 4 ∷ neg 16127 ∷ pos 0 ∷ pos 0 ∷ pos 2308 ∷ neg 4992 ∷ pos 0 ∷ neg 16127 ∷ neg 11643 ∷ pos 0 ∷ neg 16127 ∷ pos 11652 ∷ pos 0 ∷ pos 11519 ∷ neg 1660 ∷ pos 0 ∷ pos 2304 ∷ pos 1668 ∷ pos 0 ∷ pos 16127 ∷ neg 1660 ∷ pos 0 ∷ neg 11519 ∷ pos 1668 ∷ pos 0 ∷ neg 11519 ∷ pos 4996 ∷ pos 0 ∷ pos 0 ∷ pos 12288 ∷ pos 4 ∷ neg 4992 ∷ pos 28671 ∷ pos 0 ∷ neg 11643 ∷ neg 4096 ∷ pos 0 ∷ pos 11652 ∷ neg 4096 ∷ pos 0 ∷ neg 1660 ∷ neg 28671 ∷ pos 0 ∷ pos 1668 ∷ neg 4096 ∷ pos 0 ∷ neg 1660 ∷ pos 28671 ∷ pos 0 ∷ pos 1668 ∷ pos 4096 ∷ pos 0 ∷ pos 4996 ∷ pos 4096 ∷ pos 0 ∷ neg 4988 ∷ neg 12288 ∷ pos 0 ∷ pos 1668 ∷ pos 4096 ∷ pos 0 ∷ neg 11643 ∷ neg 20479 ∷ pos 0 ∷ pos 11652 ∷ neg 4096 ∷ pos 0 ∷ pos 0 ∷ neg 5645 ∷ neg 4075 ∷ neg 3072 ∷ neg 5645 ∷ pos 4078 ∷ pos 21503 ∷ pos 4032 ∷ neg 581 ∷ neg 9216 ∷ pos 806 ∷ pos 584 ∷ neg 15359 ∷ pos 5645 ∷ neg 581 ∷ neg 3072 ∷ neg 4032 ∷ pos 584 ∷ pos 15359 ∷ neg 4032 ∷ pos 1749 ∷ neg 9216 ∷ pos 0 ∷ pos 4301 ∷ pos 15360 ∷ neg 1747 ∷ pos 10035 ∷ pos 3072 ∷ neg 4075 ∷ neg 1434 ∷ pos 9216 ∷ pos 4078 ∷ neg 1434 ∷ neg 21503 ∷ neg 581 ∷ neg 10035 ∷ neg 9216 ∷ pos 584 ∷ neg 1434 ∷ neg 3072 ∷ [] }; ending = some complete; marks = some found ∷ some found ∷ some found ∷ some found ∷ []; codewords = pos 42 ∷ pos 37 ∷ pos 23 ∷ pos 16 ∷ pos 10 ∷ pos 6 ∷ pos 4 ∷ pos 3 ∷ pos 44 ∷ pos 3 ∷ pos 1 ∷ pos 52 ∷ pos 2 ∷ pos 0 ∷ pos 7 ∷ pos 3 ∷ pos 4 ∷ pos 3 ∷ pos 4 ∷ pos 5 ∷ pos 2 ∷ pos 4 ∷ pos 0 ∷ pos 7 ∷ pos 5 ∷ pos 57 ∷ pos 3 ∷ pos 2 ∷ pos 56 ∷ pos 3 ∷ pos 0 ∷ pos 4 ∷ pos 6 ∷ pos 0 ∷ pos 4 ∷ pos 0 ∷ pos 0 ∷ pos 6 ∷ pos 4 ∷ pos 7 ∷ pos 1 ∷ pos 1 ∷ pos 83 ∷ pos 3 ∷ pos 2 ∷ pos 63 ∷ pos 5 ∷ pos 7 ∷ pos 3 ∷ pos 3 ∷ pos 0 ∷ pos 3 ∷ pos 7 ∷ pos 4 ∷ pos 4 ∷ pos 2 ∷ pos 4 ∷ pos 1 ∷ pos 3 ∷ pos 61 ∷ pos 1 ∷ pos 3 ∷ pos 59 ∷ pos 3 ∷ pos 7 ∷ pos 2 ∷ pos 1 ∷ pos 3 ∷ pos 6 ∷ pos 2 ∷ pos 6 ∷ pos 4 ∷ pos 5 ∷ pos 0 ∷ pos 2 ∷ pos 3 ∷ [] }
unfolding opened
e20_loudsilence_34 = refl

-- noise of the full range; the history and the weighting filter clip
pub e29_rand16_30 : encode (record { z1 = pos 9368; L_z2 = pos 295408078; mp = pos 9015; LARpp = pos 9012 ∷ pos 4096 ∷ pos 1638 ∷ pos 3276 ∷ pos 3384 ∷ pos 1638 ∷ pos 1310 ∷ pos 436 ∷ []; u = pos 6432 ∷ pos 6178 ∷ neg 3937 ∷ pos 2545 ∷ pos 5234 ∷ pos 14996 ∷ neg 6548 ∷ pos 10755 ∷ []; dp = neg 15344 ∷ neg 3855 ∷ neg 734 ∷ pos 3074 ∷ pos 1380 ∷ pos 86 ∷ pos 21502 ∷ neg 1072 ∷ pos 2582 ∷ pos 9207 ∷ pos 1407 ∷ pos 2497 ∷ pos 9229 ∷ pos 9428 ∷ neg 2343 ∷ neg 15356 ∷ neg 7012 ∷ pos 3787 ∷ pos 9214 ∷ neg 4035 ∷ neg 452 ∷ neg 3074 ∷ pos 1519 ∷ neg 2323 ∷ neg 3073 ∷ pos 4029 ∷ neg 1366 ∷ pos 22123 ∷ pos 505 ∷ neg 3441 ∷ neg 955 ∷ pos 103 ∷ pos 1591 ∷ neg 11331 ∷ pos 776 ∷ neg 2031 ∷ neg 25561 ∷ pos 180 ∷ pos 414 ∷ pos 1382 ∷ pos 1382 ∷ pos 6203 ∷ pos 25 ∷ pos 9416 ∷ pos 1212 ∷ pos 1413 ∷ neg 4038 ∷ pos 14327 ∷ neg 2636 ∷ neg 4038 ∷ neg 13834 ∷ neg 2604 ∷ pos 1342 ∷ pos 14328 ∷ pos 130 ∷ pos 1349 ∷ neg 10208 ∷ pos 240 ∷ neg 916 ∷ pos 14327 ∷ pos 1826 ∷ neg 6382 ∷ pos 10239 ∷ neg 2511 ∷ pos 6718 ∷ pos 14076 ∷ pos 1123 ∷ neg 1317 ∷ neg 3322 ∷ neg 1349 ∷ neg 257 ∷ neg 5068 ∷ pos 483 ∷ pos 30 ∷ pos 9574 ∷ neg 375 ∷ pos 904 ∷ pos 9367 ∷ pos 492 ∷ pos 874 ∷ neg 1076 ∷ pos 1410 ∷ pos 1826 ∷ pos 7743 ∷ pos 177 ∷ pos 1100 ∷ neg 334 ∷ pos 36 ∷ neg 6355 ∷ neg 3966 ∷ pos 272 ∷ pos 1593 ∷ neg 8947 ∷ pos 63 ∷ neg 11374 ∷ pos 484 ∷ pos 484 ∷ neg 13956 ∷ pos 9 ∷ pos 3296 ∷ pos 16551 ∷ pos 495 ∷ neg 1413 ∷ pos 2711 ∷ neg 923 ∷ neg 1413 ∷ neg 2538 ∷ neg 911 ∷ pos 470 ∷ pos 11927 ∷ pos 46 ∷ pos 472 ∷ neg 5877 ∷ pos 84 ∷ neg 321 ∷ pos 7319 ∷ pos 639 ∷ neg 2234 ∷ pos 10496 ∷ neg 879 ∷ [] }) (pos 11153 ∷ pos 24397 ∷ pos 14815 ∷ pos 16534 ∷ pos 5031 ∷ pos 11012 ∷ pos 24551 ∷ pos 3977 ∷ pos 19140 ∷ neg 25686 ∷ pos 28841 ∷ pos 7116 ∷ neg 18839 ∷ neg 6582 ∷ neg 13130 ∷ neg 11907 ∷ neg 18412 ∷ neg 32662 ∷ neg 26855 ∷ neg 6223 ∷ neg 32584 ∷ pos 3014 ∷ neg 6675 ∷ pos 22911 ∷ pos 18813 ∷ pos 20156 ∷ neg 13029 ∷ neg 27783 ∷ pos 5812 ∷ neg 32765 ∷ pos 17124 ∷ neg 8184 ∷ neg 10413 ∷ neg 4599 ∷ neg 13086 ∷ pos 26617 ∷ neg 21483 ∷ neg 15249 ∷ neg 31802 ∷ neg 25380 ∷ neg 18691 ∷ neg 19391 ∷ neg 6208 ∷ neg 5865 ∷ neg 5134 ∷ neg 26589 ∷ neg 5254 ∷ neg 25058 ∷ pos 14647 ∷ neg 13314 ∷ neg 18986 ∷ neg 23116 ∷ neg 4604 ∷ pos 1531 ∷ neg 12297 ∷ neg 4652 ∷ neg 5114 ∷ neg 346 ∷ pos 1037 ∷ pos 17362 ∷ neg 27415 ∷ pos 13053 ∷ neg 10635 ∷ pos 32084 ∷ neg 20377 ∷ neg 10830 ∷ pos 26359 ∷ pos 11857 ∷ pos 5393 ∷ neg 2671 ∷ pos 2088 ∷ pos 29932 ∷ neg 23620 ∷ pos 3150 ∷ pos 3954 ∷ pos 30287 ∷ pos 2603 ∷ pos 15711 ∷ neg 5662 ∷ pos 23737 ∷ neg 7422 ∷ pos 7645 ∷ pos 18995 ∷ neg 8774 ∷ neg 18381 ∷ pos 20257 ∷ neg 32642 ∷ neg 21893 ∷ neg 30196 ∷ pos 26232 ∷ neg 22713 ∷ neg 6978 ∷ neg 16248 ∷ neg 28966 ∷ pos 5464 ∷ pos 24357 ∷ neg 27092 ∷ neg 14078 ∷ neg 1185 ∷ pos 26986 ∷ neg 4251 ∷ pos 25199 ∷ pos 20398 ∷ pos 1426 ∷ neg 30269 ∷ pos 20717 ∷ neg 24098 ∷ neg 10771 ∷ pos 17261 ∷ neg 29271 ∷ pos 22357 ∷ pos 1876 ∷ pos 19588 ∷ neg 32613 ∷ pos 23265 ∷ pos 22586 ∷ pos 2916 ∷ pos 22345 ∷ neg 32737 ∷ pos 29555 ∷ pos 6566 ∷ pos 1170 ∷ pos 12643 ∷ neg 661 ∷ neg 15476 ∷ pos 19679 ∷ pos 31458 ∷ pos 2126 ∷ neg 24191 ∷ pos 30574 ∷ neg 14537 ∷ neg 15059 ∷ neg 26173 ∷ neg 29603 ∷ pos 13494 ∷ neg 10892 ∷ pos 22084 ∷ pos 10880 ∷ neg 30239 ∷ neg 6576 ∷ pos 29189 ∷ neg 28570 ∷ pos 2659 ∷ pos 5909 ∷ neg 4625 ∷ neg 9837 ∷ neg 25464 ∷ pos 4482 ∷ neg 9027 ∷ pos 18061 ∷ neg 16118 ∷ pos 15266 ∷ neg 7797 ∷ neg 24183 ∷ pos 14166 ∷ neg 17245 ∷ pos 22404 ∷ pos 19409 ∷ neg 23185 ∷ pos 27084 ∷ []) (replicate 76 (pos 0)) ≡ record { number = 0; state = record { z1 = pos 13540; L_z2 = pos 437790281; mp = pos 13360; LARpp = pos 9830 ∷ pos 5734 ∷ pos 4096 ∷ pos 3276 ∷ neg 220 ∷ pos 546 ∷ neg 656 ∷ pos 436 ∷ []; u = pos 23504 ∷ neg 5882 ∷ neg 7928 ∷ pos 13472 ∷ neg 968 ∷ pos 11736 ∷ pos 6471 ∷ neg 10750 ∷ []; dp = neg 377 ∷ pos 494 ∷ pos 1830 ∷ pos 2710 ∷ pos 62 ∷ neg 10507 ∷ neg 117 ∷ pos 13 ∷ neg 675 ∷ neg 1388 ∷ pos 95 ∷ neg 10334 ∷ neg 3132 ∷ pos 22 ∷ pos 4402 ∷ pos 169 ∷ pos 169 ∷ pos 6852 ∷ pos 3 ∷ pos 1154 ∷ neg 1848 ∷ pos 173 ∷ neg 495 ∷ pos 4557 ∷ neg 323 ∷ neg 495 ∷ pos 12999 ∷ neg 319 ∷ pos 165 ∷ pos 1500 ∷ pos 16 ∷ pos 165 ∷ neg 6729 ∷ pos 29 ∷ neg 112 ∷ pos 16449 ∷ pos 224 ∷ neg 782 ∷ pos 7346 ∷ neg 308 ∷ neg 3789 ∷ pos 169 ∷ pos 169 ∷ neg 5947 ∷ pos 3 ∷ pos 1154 ∷ neg 27447 ∷ pos 173 ∷ neg 495 ∷ pos 1485 ∷ neg 323 ∷ neg 495 ∷ neg 13112 ∷ neg 319 ∷ pos 165 ∷ pos 11227 ∷ pos 16 ∷ pos 165 ∷ pos 3511 ∷ pos 29 ∷ neg 112 ∷ pos 23617 ∷ pos 224 ∷ neg 782 ∷ neg 18765 ∷ neg 308 ∷ neg 132 ∷ neg 9811 ∷ pos 641 ∷ pos 949 ∷ pos 10006 ∷ neg 3678 ∷ neg 41 ∷ pos 3333 ∷ neg 236 ∷ neg 486 ∷ pos 16672 ∷ neg 3617 ∷ neg 1096 ∷ pos 8 ∷ neg 108 ∷ neg 1326 ∷ pos 59 ∷ neg 3525 ∷ neg 2081 ∷ pos 1 ∷ pos 25491 ∷ neg 9607 ∷ pos 61 ∷ neg 3757 ∷ pos 520 ∷ neg 113 ∷ neg 25260 ∷ neg 4589 ∷ neg 112 ∷ pos 17977 ∷ pos 3930 ∷ pos 6 ∷ neg 3526 ∷ pos 1229 ∷ pos 10 ∷ neg 10791 ∷ pos 8266 ∷ pos 78 ∷ neg 3858 ∷ neg 6568 ∷ neg 108 ∷ neg 3630 ∷ neg 3434 ∷ pos 224 ∷ pos 3916 ∷ pos 3502 ∷ neg 1287 ∷ neg 10766 ∷ pos 1167 ∷ neg 83 ∷ pos 10582 ∷ pos 5835 ∷ neg 1266 ∷ pos 3200 ∷ [] }; ending = some complete; marks = some found ∷ some found ∷ some found ∷ some found ∷ []; codewords = pos 44 ∷ pos 39 ∷ pos 25 ∷ pos 15 ∷ pos 8 ∷ pos 5 ∷ pos 3 ∷ pos 2 ∷ pos 96 ∷ pos 1 ∷ pos 2 ∷ pos 63 ∷ pos 5 ∷ pos 4 ∷ pos 4 ∷ pos 4 ∷ pos 1 ∷ pos 0 ∷ pos 2 ∷ pos 7 ∷ pos 3 ∷ pos 1 ∷ pos 4 ∷ pos 3 ∷ pos 0 ∷ pos 40 ∷ pos 1 ∷ pos 2 ∷ pos 56 ∷ pos 3 ∷ pos 1 ∷ pos 3 ∷ pos 1 ∷ pos 6 ∷ pos 7 ∷ pos 4 ∷ pos 2 ∷ pos 7 ∷ pos 5 ∷ pos 2 ∷ pos 7 ∷ pos 7 ∷ pos 66 ∷ pos 1 ∷ pos 0 ∷ pos 60 ∷ pos 4 ∷ pos 4 ∷ pos 0 ∷ pos 2 ∷ pos 2 ∷ pos 6 ∷ pos 4 ∷ pos 7 ∷ pos 2 ∷ pos 2 ∷ pos 5 ∷ pos 4 ∷ pos 6 ∷ pos 41 ∷ pos 1 ∷ pos 3 ∷ pos 61 ∷ pos 3 ∷ pos 7 ∷ pos 3 ∷ pos 0 ∷ pos 6 ∷ pos 3 ∷ pos 2 ∷ pos 3 ∷ pos 3 ∷ pos 4 ∷ pos 2 ∷ pos 5 ∷ pos 4 ∷ [] }
unfolding opened
e29_rand16_30 = refl

-- stopped at 8
pub e17_sines_112 : encode (record { z1 = neg 4; L_z2 = neg 495048; mp = neg 15; LARpp = pos 12288 ∷ pos 23756 ∷ neg 4096 ∷ pos 820 ∷ neg 220 ∷ pos 546 ∷ neg 656 ∷ pos 436 ∷ []; u = pos 9952 ∷ neg 18557 ∷ neg 110 ∷ pos 534 ∷ neg 583 ∷ pos 244 ∷ pos 206 ∷ neg 542 ∷ []; dp = neg 1 ∷ neg 22 ∷ pos 37 ∷ pos 100 ∷ neg 24 ∷ pos 2 ∷ neg 64 ∷ neg 4 ∷ pos 22 ∷ neg 5 ∷ neg 1 ∷ pos 21 ∷ neg 35 ∷ pos 2 ∷ pos 13 ∷ neg 3 ∷ pos 4 ∷ pos 7 ∷ neg 2 ∷ pos 10 ∷ neg 8 ∷ pos 4 ∷ pos 23 ∷ neg 31 ∷ pos 31 ∷ pos 3 ∷ neg 28 ∷ pos 13 ∷ pos 0 ∷ neg 17 ∷ pos 5 ∷ pos 0 ∷ neg 11 ∷ pos 9 ∷ neg 26 ∷ pos 23 ∷ neg 9 ∷ neg 24 ∷ pos 23 ∷ neg 428 ∷ pos 315 ∷ neg 24 ∷ pos 21 ∷ pos 103 ∷ neg 22 ∷ pos 37 ∷ pos 100 ∷ neg 24 ∷ pos 2 ∷ neg 64 ∷ neg 4 ∷ pos 22 ∷ neg 5 ∷ neg 1 ∷ pos 21 ∷ neg 35 ∷ pos 2 ∷ pos 13 ∷ neg 3 ∷ pos 4 ∷ pos 7 ∷ neg 2 ∷ pos 10 ∷ neg 8 ∷ pos 4 ∷ pos 23 ∷ neg 31 ∷ pos 31 ∷ pos 3 ∷ neg 28 ∷ pos 13 ∷ pos 0 ∷ neg 17 ∷ pos 5 ∷ pos 0 ∷ neg 11 ∷ pos 9 ∷ neg 26 ∷ pos 23 ∷ neg 113 ∷ pos 730 ∷ neg 584 ∷ neg 4 ∷ pos 126 ∷ pos 99 ∷ neg 1 ∷ pos 125 ∷ neg 139 ∷ pos 2 ∷ neg 91 ∷ pos 101 ∷ pos 4 ∷ neg 97 ∷ pos 102 ∷ pos 10 ∷ neg 112 ∷ pos 108 ∷ pos 23 ∷ neg 135 ∷ pos 135 ∷ pos 3 ∷ pos 76 ∷ neg 91 ∷ pos 0 ∷ pos 87 ∷ neg 99 ∷ pos 0 ∷ pos 93 ∷ neg 95 ∷ neg 26 ∷ pos 127 ∷ neg 113 ∷ neg 24 ∷ pos 127 ∷ neg 116 ∷ neg 22 ∷ neg 79 ∷ neg 6 ∷ pos 0 ∷ neg 2 ∷ [] }) (pos 23122 ∷ neg 32700 ∷ pos 23122 ∷ pos 0 ∷ neg 23123 ∷ pos 32699 ∷ neg 23123 ∷ neg 1 ∷ pos 23122 ∷ neg 32700 ∷ pos 23122 ∷ pos 0 ∷ neg 23123 ∷ pos 32699 ∷ neg 23123 ∷ neg 1 ∷ pos 23122 ∷ neg 32700 ∷ pos 23122 ∷ pos 0 ∷ neg 23123 ∷ pos 32699 ∷ neg 23123 ∷ neg 1 ∷ pos 23122 ∷ neg 32700 ∷ pos 23122 ∷ pos 0 ∷ neg 23123 ∷ pos 32699 ∷ neg 23123 ∷ neg 1 ∷ pos 23122 ∷ neg 32700 ∷ pos 23122 ∷ pos 0 ∷ neg 23123 ∷ pos 32699 ∷ neg 23123 ∷ neg 1 ∷ pos 23122 ∷ neg 32700 ∷ pos 23122 ∷ pos 0 ∷ neg 23123 ∷ pos 32699 ∷ neg 23123 ∷ neg 1 ∷ pos 23122 ∷ neg 32700 ∷ pos 23122 ∷ pos 0 ∷ neg 23123 ∷ pos 32699 ∷ neg 23123 ∷ neg 1 ∷ pos 23122 ∷ neg 32700 ∷ pos 23122 ∷ pos 0 ∷ neg 23123 ∷ pos 32699 ∷ neg 23123 ∷ neg 1 ∷ pos 23122 ∷ neg 32700 ∷ pos 23122 ∷ pos 0 ∷ neg 23123 ∷ pos 32699 ∷ neg 23123 ∷ neg 1 ∷ pos 23122 ∷ neg 32700 ∷ pos 23122 ∷ pos 0 ∷ neg 23123 ∷ pos 32699 ∷ neg 23123 ∷ neg 1 ∷ pos 23122 ∷ neg 32700 ∷ pos 23122 ∷ pos 0 ∷ neg 23123 ∷ pos 32699 ∷ neg 23123 ∷ neg 1 ∷ pos 23122 ∷ neg 32700 ∷ pos 23122 ∷ pos 0 ∷ neg 23123 ∷ pos 32699 ∷ neg 23123 ∷ neg 1 ∷ pos 23122 ∷ neg 32700 ∷ pos 23122 ∷ pos 0 ∷ neg 23123 ∷ pos 32699 ∷ neg 23123 ∷ neg 1 ∷ pos 23122 ∷ neg 32700 ∷ pos 23122 ∷ pos 0 ∷ neg 23123 ∷ pos 32699 ∷ neg 23123 ∷ neg 1 ∷ pos 23122 ∷ neg 32700 ∷ pos 23122 ∷ pos 0 ∷ neg 23123 ∷ pos 32699 ∷ neg 23123 ∷ neg 1 ∷ pos 23122 ∷ neg 32700 ∷ pos 23122 ∷ pos 0 ∷ neg 23123 ∷ pos 32699 ∷ neg 23123 ∷ neg 1 ∷ pos 23122 ∷ neg 32700 ∷ pos 23122 ∷ pos 0 ∷ neg 23123 ∷ pos 32699 ∷ neg 23123 ∷ neg 1 ∷ pos 23122 ∷ neg 32700 ∷ pos 23122 ∷ pos 0 ∷ neg 23123 ∷ pos 32699 ∷ neg 23123 ∷ neg 1 ∷ pos 23122 ∷ neg 32700 ∷ pos 23122 ∷ pos 0 ∷ neg 23123 ∷ pos 32699 ∷ neg 23123 ∷ neg 1 ∷ pos 23122 ∷ neg 32700 ∷ pos 23122 ∷ pos 0 ∷ neg 23123 ∷ pos 32699 ∷ neg 23123 ∷ neg 1 ∷ []) (replicate 76 (pos 0)) ≡ record { number = 0; state = record { z1 = neg 4; L_z2 = neg 414443; mp = neg 13; LARpp = pos 12288 ∷ pos 25394 ∷ pos 8192 ∷ pos 6554 ∷ pos 5786 ∷ pos 7100 ∷ pos 7206 ∷ pos 436 ∷ []; u = pos 9952 ∷ neg 18541 ∷ neg 192 ∷ pos 174 ∷ neg 263 ∷ pos 15 ∷ pos 14 ∷ neg 244 ∷ []; dp = pos 194 ∷ pos 0 ∷ neg 1 ∷ pos 284 ∷ neg 204 ∷ pos 57 ∷ neg 40 ∷ pos 35 ∷ neg 59 ∷ pos 72 ∷ neg 49 ∷ pos 43 ∷ neg 60 ∷ pos 35 ∷ neg 7 ∷ neg 174 ∷ pos 36 ∷ neg 5 ∷ neg 123 ∷ pos 38 ∷ pos 0 ∷ neg 131 ∷ pos 47 ∷ neg 58 ∷ neg 113 ∷ neg 32 ∷ neg 8 ∷ pos 2 ∷ neg 35 ∷ neg 8 ∷ neg 51 ∷ neg 33 ∷ neg 1 ∷ neg 96 ∷ neg 40 ∷ pos 0 ∷ neg 40 ∷ neg 41 ∷ pos 51 ∷ neg 28 ∷ neg 2 ∷ pos 0 ∷ neg 1 ∷ pos 172 ∷ neg 204 ∷ pos 57 ∷ neg 40 ∷ pos 35 ∷ neg 59 ∷ pos 72 ∷ neg 49 ∷ pos 43 ∷ neg 60 ∷ pos 35 ∷ neg 7 ∷ neg 62 ∷ pos 36 ∷ neg 5 ∷ pos 45 ∷ pos 38 ∷ pos 0 ∷ neg 75 ∷ pos 47 ∷ neg 58 ∷ pos 55 ∷ neg 32 ∷ neg 8 ∷ pos 114 ∷ neg 35 ∷ neg 8 ∷ pos 5 ∷ neg 33 ∷ neg 1 ∷ pos 72 ∷ neg 40 ∷ pos 0 ∷ pos 16 ∷ neg 41 ∷ pos 51 ∷ neg 224 ∷ pos 256 ∷ neg 204 ∷ pos 57 ∷ neg 56 ∷ pos 35 ∷ neg 59 ∷ neg 56 ∷ neg 49 ∷ pos 43 ∷ neg 172 ∷ pos 35 ∷ neg 7 ∷ neg 94 ∷ pos 36 ∷ neg 5 ∷ neg 179 ∷ pos 38 ∷ pos 0 ∷ neg 147 ∷ pos 47 ∷ neg 58 ∷ neg 33 ∷ neg 32 ∷ neg 8 ∷ neg 110 ∷ neg 35 ∷ neg 8 ∷ neg 27 ∷ neg 33 ∷ neg 1 ∷ neg 16 ∷ neg 40 ∷ pos 0 ∷ pos 64 ∷ neg 41 ∷ pos 51 ∷ neg 8 ∷ neg 2 ∷ neg 25 ∷ neg 141 ∷ [] }; ending = some (stopped 8); marks = some found ∷ some found ∷ some found ∷ some found ∷ []; codewords = pos 47 ∷ pos 63 ∷ pos 30 ∷ pos 19 ∷ pos 13 ∷ pos 11 ∷ pos 7 ∷ pos 2 ∷ pos 40 ∷ pos 3 ∷ pos 2 ∷ pos 5 ∷ pos 7 ∷ pos 0 ∷ pos 6 ∷ pos 3 ∷ pos 3 ∷ pos 3 ∷ pos 0 ∷ pos 3 ∷ pos 3 ∷ pos 4 ∷ pos 4 ∷ pos 7 ∷ pos 2 ∷ pos 43 ∷ pos 1 ∷ pos 0 ∷ pos 6 ∷ pos 7 ∷ pos 4 ∷ pos 2 ∷ pos 4 ∷ pos 3 ∷ pos 1 ∷ pos 2 ∷ pos 2 ∷ pos 1 ∷ pos 3 ∷ pos 2 ∷ pos 1 ∷ pos 2 ∷ pos 83 ∷ pos 1 ∷ pos 3 ∷ pos 6 ∷ pos 2 ∷ pos 2 ∷ pos 4 ∷ pos 3 ∷ pos 3 ∷ pos 5 ∷ pos 3 ∷ pos 4 ∷ pos 5 ∷ pos 3 ∷ pos 4 ∷ pos 3 ∷ pos 0 ∷ pos 120 ∷ pos 1 ∷ pos 3 ∷ pos 4 ∷ pos 1 ∷ pos 1 ∷ pos 0 ∷ pos 2 ∷ pos 0 ∷ pos 1 ∷ pos 2 ∷ pos 0 ∷ pos 2 ∷ pos 2 ∷ pos 4 ∷ pos 4 ∷ pos 0 ∷ [] }
unfolding opened
e17_sines_112 = refl

-- stopped at 6
pub e17_sines_113 : encode (record { z1 = neg 4; L_z2 = neg 414443; mp = neg 13; LARpp = pos 12288 ∷ pos 25394 ∷ pos 8192 ∷ pos 6554 ∷ pos 5786 ∷ pos 7100 ∷ pos 7206 ∷ pos 436 ∷ []; u = pos 9952 ∷ neg 18541 ∷ neg 192 ∷ pos 174 ∷ neg 263 ∷ pos 15 ∷ pos 14 ∷ neg 244 ∷ []; dp = pos 194 ∷ pos 0 ∷ neg 1 ∷ pos 284 ∷ neg 204 ∷ pos 57 ∷ neg 40 ∷ pos 35 ∷ neg 59 ∷ pos 72 ∷ neg 49 ∷ pos 43 ∷ neg 60 ∷ pos 35 ∷ neg 7 ∷ neg 174 ∷ pos 36 ∷ neg 5 ∷ neg 123 ∷ pos 38 ∷ pos 0 ∷ neg 131 ∷ pos 47 ∷ neg 58 ∷ neg 113 ∷ neg 32 ∷ neg 8 ∷ pos 2 ∷ neg 35 ∷ neg 8 ∷ neg 51 ∷ neg 33 ∷ neg 1 ∷ neg 96 ∷ neg 40 ∷ pos 0 ∷ neg 40 ∷ neg 41 ∷ pos 51 ∷ neg 28 ∷ neg 2 ∷ pos 0 ∷ neg 1 ∷ pos 172 ∷ neg 204 ∷ pos 57 ∷ neg 40 ∷ pos 35 ∷ neg 59 ∷ pos 72 ∷ neg 49 ∷ pos 43 ∷ neg 60 ∷ pos 35 ∷ neg 7 ∷ neg 62 ∷ pos 36 ∷ neg 5 ∷ pos 45 ∷ pos 38 ∷ pos 0 ∷ neg 75 ∷ pos 47 ∷ neg 58 ∷ pos 55 ∷ neg 32 ∷ neg 8 ∷ pos 114 ∷ neg 35 ∷ neg 8 ∷ pos 5 ∷ neg 33 ∷ neg 1 ∷ pos 72 ∷ neg 40 ∷ pos 0 ∷ pos 16 ∷ neg 41 ∷ pos 51 ∷ neg 224 ∷ pos 256 ∷ neg 204 ∷ pos 57 ∷ neg 56 ∷ pos 35 ∷ neg 59 ∷ neg 56 ∷ neg 49 ∷ pos 43 ∷ neg 172 ∷ pos 35 ∷ neg 7 ∷ neg 94 ∷ pos 36 ∷ neg 5 ∷ neg 179 ∷ pos 38 ∷ pos 0 ∷ neg 147 ∷ pos 47 ∷ neg 58 ∷ neg 33 ∷ neg 32 ∷ neg 8 ∷ neg 110 ∷ neg 35 ∷ neg 8 ∷ neg 27 ∷ neg 33 ∷ neg 1 ∷ neg 16 ∷ neg 40 ∷ pos 0 ∷ pos 64 ∷ neg 41 ∷ pos 51 ∷ neg 8 ∷ neg 2 ∷ neg 25 ∷ neg 141 ∷ [] }) (pos 23122 ∷ neg 32700 ∷ pos 23122 ∷ pos 0 ∷ neg 23123 ∷ pos 32699 ∷ neg 23123 ∷ neg 1 ∷ pos 23122 ∷ neg 32700 ∷ pos 23122 ∷ pos 0 ∷ neg 23123 ∷ pos 32699 ∷ neg 23123 ∷ neg 1 ∷ pos 23122 ∷ neg 32700 ∷ pos 23122 ∷ pos 0 ∷ neg 23123 ∷ pos 32699 ∷ neg 23123 ∷ neg 1 ∷ pos 23122 ∷ neg 32700 ∷ pos 23122 ∷ pos 0 ∷ neg 23123 ∷ pos 32699 ∷ neg 23123 ∷ neg 1 ∷ pos 23122 ∷ neg 32700 ∷ pos 23122 ∷ pos 0 ∷ neg 23123 ∷ pos 32699 ∷ neg 23123 ∷ neg 1 ∷ pos 23122 ∷ neg 32700 ∷ pos 23122 ∷ pos 0 ∷ neg 23123 ∷ pos 32699 ∷ neg 23123 ∷ neg 1 ∷ pos 23122 ∷ neg 32700 ∷ pos 23122 ∷ pos 0 ∷ neg 23123 ∷ pos 32699 ∷ neg 23123 ∷ neg 1 ∷ pos 23122 ∷ neg 32700 ∷ pos 23122 ∷ pos 0 ∷ neg 23123 ∷ pos 32699 ∷ neg 23123 ∷ neg 1 ∷ pos 23122 ∷ neg 32700 ∷ pos 23122 ∷ pos 0 ∷ neg 23123 ∷ pos 32699 ∷ neg 23123 ∷ neg 1 ∷ pos 23122 ∷ neg 32700 ∷ pos 23122 ∷ pos 0 ∷ neg 23123 ∷ pos 32699 ∷ neg 23123 ∷ neg 1 ∷ pos 23122 ∷ neg 32700 ∷ pos 23122 ∷ pos 0 ∷ neg 23123 ∷ pos 32699 ∷ neg 23123 ∷ neg 1 ∷ pos 23122 ∷ neg 32700 ∷ pos 23122 ∷ pos 0 ∷ neg 23123 ∷ pos 32699 ∷ neg 23123 ∷ neg 1 ∷ pos 23122 ∷ neg 32700 ∷ pos 23122 ∷ pos 0 ∷ neg 23123 ∷ pos 32699 ∷ neg 23123 ∷ neg 1 ∷ pos 23122 ∷ neg 32700 ∷ pos 23122 ∷ pos 0 ∷ neg 23123 ∷ pos 32699 ∷ neg 23123 ∷ neg 1 ∷ pos 23122 ∷ neg 32700 ∷ pos 23122 ∷ pos 0 ∷ neg 23123 ∷ pos 32699 ∷ neg 23123 ∷ neg 1 ∷ pos 23122 ∷ neg 32700 ∷ pos 23122 ∷ pos 0 ∷ neg 23123 ∷ pos 32699 ∷ neg 23123 ∷ neg 1 ∷ pos 23122 ∷ neg 32700 ∷ pos 23122 ∷ pos 0 ∷ neg 23123 ∷ pos 32699 ∷ neg 23123 ∷ neg 1 ∷ pos 23122 ∷ neg 32700 ∷ pos 23122 ∷ pos 0 ∷ neg 23123 ∷ pos 32699 ∷ neg 23123 ∷ neg 1 ∷ pos 23122 ∷ neg 32700 ∷ pos 23122 ∷ pos 0 ∷ neg 23123 ∷ pos 32699 ∷ neg 23123 ∷ neg 1 ∷ pos 23122 ∷ neg 32700 ∷ pos 23122 ∷ pos 0 ∷ neg 23123 ∷ pos 32699 ∷ neg 23123 ∷ neg 1 ∷ []) (replicate 76 (pos 0)) ≡ record { number = 0; state = record { z1 = neg 4; L_z2 = neg 345844; mp = neg 11; LARpp = pos 12288 ∷ pos 25394 ∷ pos 9012 ∷ pos 7372 ∷ pos 8190 ∷ pos 546 ∷ neg 656 ∷ pos 436 ∷ []; u = pos 9952 ∷ neg 18541 ∷ neg 192 ∷ pos 157 ∷ neg 254 ∷ neg 19 ∷ pos 98 ∷ neg 188 ∷ []; dp = pos 119 ∷ pos 31 ∷ neg 38 ∷ pos 60 ∷ neg 21 ∷ neg 5 ∷ pos 2 ∷ neg 23 ∷ neg 5 ∷ pos 75 ∷ neg 21 ∷ neg 1 ∷ neg 25 ∷ neg 26 ∷ pos 0 ∷ neg 14 ∷ neg 27 ∷ pos 33 ∷ neg 74 ∷ pos 166 ∷ neg 133 ∷ pos 13 ∷ neg 36 ∷ pos 23 ∷ pos 34 ∷ neg 36 ∷ neg 32 ∷ pos 148 ∷ neg 112 ∷ pos 23 ∷ pos 19 ∷ neg 61 ∷ pos 23 ∷ pos 117 ∷ neg 116 ∷ pos 25 ∷ pos 24 ∷ neg 96 ∷ pos 31 ∷ neg 38 ∷ pos 83 ∷ pos 78 ∷ neg 26 ∷ pos 36 ∷ neg 6 ∷ neg 27 ∷ pos 69 ∷ neg 158 ∷ pos 119 ∷ pos 19 ∷ neg 38 ∷ pos 60 ∷ neg 57 ∷ neg 5 ∷ pos 2 ∷ neg 35 ∷ neg 5 ∷ pos 75 ∷ neg 9 ∷ neg 1 ∷ neg 25 ∷ neg 14 ∷ pos 0 ∷ neg 14 ∷ pos 33 ∷ pos 33 ∷ neg 74 ∷ pos 154 ∷ neg 133 ∷ pos 13 ∷ neg 48 ∷ pos 23 ∷ pos 34 ∷ pos 0 ∷ neg 32 ∷ pos 148 ∷ neg 148 ∷ pos 23 ∷ pos 19 ∷ neg 61 ∷ pos 113 ∷ pos 33 ∷ neg 74 ∷ pos 146 ∷ neg 133 ∷ pos 13 ∷ neg 56 ∷ pos 23 ∷ pos 34 ∷ pos 24 ∷ neg 32 ∷ pos 148 ∷ neg 132 ∷ pos 23 ∷ pos 19 ∷ neg 81 ∷ pos 23 ∷ pos 117 ∷ neg 56 ∷ pos 25 ∷ pos 24 ∷ neg 76 ∷ pos 31 ∷ neg 38 ∷ neg 17 ∷ pos 78 ∷ neg 26 ∷ pos 16 ∷ neg 6 ∷ neg 27 ∷ pos 49 ∷ neg 158 ∷ pos 119 ∷ neg 1 ∷ neg 38 ∷ pos 60 ∷ neg 37 ∷ neg 5 ∷ pos 2 ∷ neg 35 ∷ [] }; ending = some (stopped 6); marks = some found ∷ some found ∷ some found ∷ some found ∷ []; codewords = pos 47 ∷ pos 63 ∷ pos 31 ∷ pos 20 ∷ pos 15 ∷ pos 5 ∷ pos 3 ∷ pos 2 ∷ pos 120 ∷ pos 2 ∷ pos 3 ∷ pos 4 ∷ pos 2 ∷ pos 3 ∷ pos 4 ∷ pos 3 ∷ pos 5 ∷ pos 6 ∷ pos 4 ∷ pos 7 ∷ pos 5 ∷ pos 4 ∷ pos 7 ∷ pos 4 ∷ pos 0 ∷ pos 99 ∷ pos 2 ∷ pos 0 ∷ pos 5 ∷ pos 7 ∷ pos 4 ∷ pos 2 ∷ pos 5 ∷ pos 2 ∷ pos 3 ∷ pos 5 ∷ pos 3 ∷ pos 5 ∷ pos 6 ∷ pos 4 ∷ pos 6 ∷ pos 4 ∷ pos 48 ∷ pos 3 ∷ pos 0 ∷ pos 2 ∷ pos 7 ∷ pos 5 ∷ pos 5 ∷ pos 3 ∷ pos 2 ∷ pos 3 ∷ pos 4 ∷ pos 4 ∷ pos 6 ∷ pos 3 ∷ pos 3 ∷ pos 5 ∷ pos 2 ∷ pos 64 ∷ pos 3 ∷ pos 0 ∷ pos 4 ∷ pos 7 ∷ pos 3 ∷ pos 3 ∷ pos 5 ∷ pos 3 ∷ pos 3 ∷ pos 5 ∷ pos 4 ∷ pos 1 ∷ pos 3 ∷ pos 3 ∷ pos 3 ∷ pos 4 ∷ [] }
unfolding opened
e17_sines_113 = refl

-- stopped at 4
pub e17_sines_127 : encode (record { z1 = neg 4; L_z2 = neg 419879; mp = neg 13; LARpp = pos 18022 ∷ pos 21298 ∷ neg 6554 ∷ pos 2458 ∷ neg 220 ∷ pos 546 ∷ neg 656 ∷ pos 436 ∷ []; u = pos 6384 ∷ neg 13150 ∷ pos 541 ∷ neg 279 ∷ pos 141 ∷ neg 7 ∷ neg 157 ∷ pos 246 ∷ []; dp = neg 17 ∷ pos 4 ∷ pos 97 ∷ neg 18 ∷ pos 51 ∷ neg 187 ∷ pos 56 ∷ neg 11 ∷ neg 108 ∷ pos 26 ∷ neg 27 ∷ pos 129 ∷ neg 27 ∷ pos 23 ∷ pos 104 ∷ neg 23 ∷ pos 22 ∷ neg 129 ∷ pos 12 ∷ pos 17 ∷ neg 125 ∷ pos 36 ∷ neg 34 ∷ pos 136 ∷ neg 26 ∷ neg 6 ∷ pos 129 ∷ neg 83 ∷ pos 51 ∷ neg 67 ∷ neg 4 ∷ pos 11 ∷ neg 16 ∷ pos 25 ∷ neg 12 ∷ pos 11 ∷ pos 0 ∷ neg 7 ∷ pos 10 ∷ neg 25 ∷ pos 17 ∷ pos 83 ∷ pos 36 ∷ neg 34 ∷ neg 72 ∷ neg 26 ∷ neg 6 ∷ pos 129 ∷ neg 83 ∷ pos 51 ∷ neg 67 ∷ neg 4 ∷ pos 11 ∷ neg 16 ∷ pos 25 ∷ neg 12 ∷ pos 11 ∷ pos 0 ∷ neg 7 ∷ pos 10 ∷ neg 25 ∷ neg 3 ∷ pos 28 ∷ neg 21 ∷ pos 10 ∷ neg 22 ∷ pos 32 ∷ neg 10 ∷ pos 5 ∷ pos 13 ∷ neg 71 ∷ pos 66 ∷ neg 52 ∷ pos 9 ∷ neg 4 ∷ neg 8 ∷ pos 11 ∷ neg 30 ∷ pos 42 ∷ neg 5 ∷ pos 185 ∷ neg 83 ∷ pos 51 ∷ neg 107 ∷ neg 4 ∷ pos 11 ∷ neg 8 ∷ pos 25 ∷ neg 12 ∷ pos 3 ∷ pos 0 ∷ neg 7 ∷ pos 2 ∷ neg 25 ∷ neg 3 ∷ pos 36 ∷ neg 21 ∷ pos 10 ∷ neg 14 ∷ pos 32 ∷ neg 10 ∷ pos 13 ∷ pos 13 ∷ neg 71 ∷ pos 58 ∷ neg 52 ∷ pos 9 ∷ neg 12 ∷ neg 8 ∷ pos 11 ∷ neg 22 ∷ pos 42 ∷ neg 5 ∷ neg 31 ∷ pos 17 ∷ neg 12 ∷ pos 5 ∷ neg 17 ∷ pos 4 ∷ neg 7 ∷ [] }) (pos 14845 ∷ neg 26455 ∷ pos 32297 ∷ neg 31100 ∷ pos 23122 ∷ neg 10105 ∷ neg 5116 ∷ pos 19220 ∷ neg 29136 ∷ pos 32699 ∷ neg 29136 ∷ pos 19220 ∷ neg 5116 ∷ neg 10105 ∷ pos 23122 ∷ neg 31100 ∷ pos 32297 ∷ neg 26455 ∷ pos 14845 ∷ pos 0 ∷ neg 14846 ∷ pos 26454 ∷ neg 32298 ∷ pos 31099 ∷ neg 23123 ∷ pos 10104 ∷ pos 5115 ∷ neg 19221 ∷ pos 29135 ∷ neg 32700 ∷ pos 29135 ∷ neg 19221 ∷ pos 5115 ∷ pos 10104 ∷ neg 23123 ∷ pos 31099 ∷ neg 32298 ∷ pos 26454 ∷ neg 14846 ∷ neg 1 ∷ pos 14845 ∷ neg 26455 ∷ pos 32297 ∷ neg 31100 ∷ pos 23122 ∷ neg 10105 ∷ neg 5116 ∷ pos 19220 ∷ neg 29136 ∷ pos 32699 ∷ neg 29136 ∷ pos 19220 ∷ neg 5116 ∷ neg 10105 ∷ pos 23122 ∷ neg 31100 ∷ pos 32297 ∷ neg 26455 ∷ pos 14845 ∷ pos 0 ∷ neg 14846 ∷ pos 26454 ∷ neg 32298 ∷ pos 31099 ∷ neg 23123 ∷ pos 10104 ∷ pos 5115 ∷ neg 19221 ∷ pos 29135 ∷ neg 32700 ∷ pos 29135 ∷ neg 19221 ∷ pos 5115 ∷ pos 10104 ∷ neg 23123 ∷ pos 31099 ∷ neg 32298 ∷ pos 26454 ∷ neg 14846 ∷ neg 1 ∷ pos 14845 ∷ neg 26455 ∷ pos 32297 ∷ neg 31100 ∷ pos 23122 ∷ neg 10105 ∷ neg 5116 ∷ pos 19220 ∷ neg 29136 ∷ pos 32699 ∷ neg 29136 ∷ pos 19220 ∷ neg 5116 ∷ neg 10105 ∷ pos 23122 ∷ neg 31100 ∷ pos 32297 ∷ neg 26455 ∷ pos 14845 ∷ pos 0 ∷ neg 14846 ∷ pos 26454 ∷ neg 32298 ∷ pos 31099 ∷ neg 23123 ∷ pos 10104 ∷ pos 5115 ∷ neg 19221 ∷ pos 29135 ∷ neg 32700 ∷ pos 29135 ∷ neg 19221 ∷ pos 5115 ∷ pos 10104 ∷ neg 23123 ∷ pos 31099 ∷ neg 32298 ∷ pos 26454 ∷ neg 14846 ∷ neg 1 ∷ pos 14845 ∷ neg 26455 ∷ pos 32297 ∷ neg 31100 ∷ pos 23122 ∷ neg 10105 ∷ neg 5116 ∷ pos 19220 ∷ neg 29136 ∷ pos 32699 ∷ neg 29136 ∷ pos 19220 ∷ neg 5116 ∷ neg 10105 ∷ pos 23122 ∷ neg 31100 ∷ pos 32297 ∷ neg 26455 ∷ pos 14845 ∷ pos 0 ∷ neg 14846 ∷ pos 26454 ∷ neg 32298 ∷ pos 31099 ∷ neg 23123 ∷ pos 10104 ∷ pos 5115 ∷ neg 19221 ∷ pos 29135 ∷ neg 32700 ∷ pos 29135 ∷ neg 19221 ∷ pos 5115 ∷ pos 10104 ∷ neg 23123 ∷ pos 31099 ∷ neg 32298 ∷ pos 26454 ∷ neg 14846 ∷ neg 1 ∷ []) (replicate 76 (pos 0)) ≡ record { number = 0; state = record { z1 = neg 4; L_z2 = neg 357458; mp = neg 11; LARpp = pos 18022 ∷ pos 25394 ∷ pos 9012 ∷ pos 0 ∷ neg 220 ∷ pos 546 ∷ neg 656 ∷ pos 436 ∷ []; u = pos 6384 ∷ neg 13150 ∷ pos 219 ∷ neg 223 ∷ pos 131 ∷ pos 0 ∷ neg 155 ∷ pos 205 ∷ []; dp = neg 26 ∷ neg 6 ∷ pos 57 ∷ neg 83 ∷ pos 51 ∷ neg 43 ∷ neg 4 ∷ pos 11 ∷ neg 88 ∷ pos 25 ∷ neg 12 ∷ neg 13 ∷ pos 0 ∷ neg 7 ∷ pos 34 ∷ neg 25 ∷ neg 3 ∷ pos 4 ∷ neg 21 ∷ pos 10 ∷ neg 94 ∷ pos 32 ∷ neg 10 ∷ pos 29 ∷ pos 13 ∷ neg 71 ∷ pos 138 ∷ neg 52 ∷ pos 9 ∷ neg 28 ∷ neg 8 ∷ pos 11 ∷ neg 54 ∷ pos 42 ∷ neg 5 ∷ pos 17 ∷ neg 83 ∷ pos 51 ∷ neg 35 ∷ neg 4 ∷ pos 24 ∷ neg 23 ∷ pos 22 ∷ neg 61 ∷ pos 12 ∷ pos 17 ∷ neg 89 ∷ pos 36 ∷ neg 34 ∷ pos 20 ∷ neg 26 ∷ neg 6 ∷ pos 45 ∷ neg 83 ∷ pos 51 ∷ pos 1 ∷ neg 4 ∷ pos 11 ∷ neg 68 ∷ pos 25 ∷ neg 12 ∷ pos 7 ∷ pos 0 ∷ neg 7 ∷ pos 46 ∷ neg 25 ∷ neg 26 ∷ pos 6 ∷ pos 57 ∷ neg 83 ∷ pos 15 ∷ neg 43 ∷ neg 4 ∷ pos 71 ∷ neg 88 ∷ pos 25 ∷ neg 24 ∷ neg 13 ∷ pos 0 ∷ neg 91 ∷ pos 122 ∷ neg 94 ∷ pos 32 ∷ neg 58 ∷ pos 29 ∷ pos 13 ∷ neg 151 ∷ pos 138 ∷ neg 52 ∷ neg 7 ∷ neg 28 ∷ neg 8 ∷ pos 27 ∷ neg 54 ∷ pos 42 ∷ pos 11 ∷ pos 17 ∷ neg 83 ∷ pos 35 ∷ neg 35 ∷ neg 4 ∷ pos 8 ∷ neg 23 ∷ pos 22 ∷ pos 19 ∷ pos 12 ∷ pos 17 ∷ neg 9 ∷ pos 36 ∷ neg 34 ∷ pos 4 ∷ neg 26 ∷ neg 6 ∷ pos 61 ∷ neg 83 ∷ pos 51 ∷ neg 47 ∷ neg 4 ∷ pos 11 ∷ neg 68 ∷ [] }; ending = some (stopped 4); marks = some found ∷ some found ∷ some found ∷ some found ∷ []; codewords = pos 54 ∷ pos 63 ∷ pos 31 ∷ pos 11 ∷ pos 8 ∷ pos 5 ∷ pos 3 ∷ pos 2 ∷ pos 120 ∷ pos 3 ∷ pos 2 ∷ pos 3 ∷ pos 1 ∷ pos 7 ∷ pos 5 ∷ pos 0 ∷ pos 1 ∷ pos 6 ∷ pos 5 ∷ pos 1 ∷ pos 2 ∷ pos 3 ∷ pos 3 ∷ pos 3 ∷ pos 2 ∷ pos 115 ∷ pos 3 ∷ pos 2 ∷ pos 5 ∷ pos 2 ∷ pos 4 ∷ pos 2 ∷ pos 3 ∷ pos 4 ∷ pos 3 ∷ pos 2 ∷ pos 4 ∷ pos 5 ∷ pos 3 ∷ pos 3 ∷ pos 0 ∷ pos 5 ∷ pos 66 ∷ pos 3 ∷ pos 3 ∷ pos 2 ∷ pos 3 ∷ pos 3 ∷ pos 2 ∷ pos 2 ∷ pos 7 ∷ pos 2 ∷ pos 4 ∷ pos 7 ∷ pos 4 ∷ pos 2 ∷ pos 6 ∷ pos 3 ∷ pos 0 ∷ pos 61 ∷ pos 3 ∷ pos 0 ∷ pos 3 ∷ pos 7 ∷ pos 2 ∷ pos 1 ∷ pos 3 ∷ pos 4 ∷ pos 4 ∷ pos 3 ∷ pos 3 ∷ pos 6 ∷ pos 6 ∷ pos 3 ∷ pos 4 ∷ pos 2 ∷ [] }
unfolding opened
e17_sines_127 = refl

-- stopped at 3
pub e17_sines_142 : encode (record { z1 = neg 4; L_z2 = neg 353280; mp = neg 11; LARpp = pos 24576 ∷ pos 13926 ∷ neg 9012 ∷ pos 6554 ∷ neg 3824 ∷ pos 2730 ∷ neg 656 ∷ pos 436 ∷ []; u = pos 2192 ∷ neg 4754 ∷ pos 1119 ∷ neg 527 ∷ pos 343 ∷ neg 271 ∷ pos 247 ∷ neg 253 ∷ []; dp = neg 2 ∷ neg 79 ∷ neg 5 ∷ pos 28 ∷ pos 98 ∷ neg 45 ∷ pos 29 ∷ neg 38 ∷ pos 8 ∷ neg 11 ∷ pos 6 ∷ neg 6 ∷ pos 11 ∷ pos 1 ∷ neg 8 ∷ pos 18 ∷ neg 14 ∷ pos 20 ∷ neg 7 ∷ neg 12 ∷ pos 6 ∷ pos 17 ∷ neg 18 ∷ pos 22 ∷ neg 8 ∷ neg 3 ∷ neg 8 ∷ pos 13 ∷ neg 1 ∷ neg 9 ∷ pos 14 ∷ neg 4 ∷ pos 5 ∷ pos 1 ∷ neg 1 ∷ neg 1 ∷ neg 4 ∷ pos 2 ∷ pos 2 ∷ pos 5 ∷ neg 2 ∷ pos 73 ∷ neg 5 ∷ pos 28 ∷ pos 42 ∷ neg 45 ∷ pos 29 ∷ pos 2 ∷ pos 8 ∷ neg 11 ∷ neg 2 ∷ neg 6 ∷ pos 11 ∷ pos 9 ∷ neg 8 ∷ pos 18 ∷ neg 22 ∷ pos 20 ∷ neg 7 ∷ neg 4 ∷ pos 6 ∷ pos 17 ∷ neg 26 ∷ pos 22 ∷ neg 8 ∷ pos 5 ∷ neg 8 ∷ pos 13 ∷ pos 7 ∷ neg 9 ∷ pos 14 ∷ neg 12 ∷ pos 5 ∷ pos 1 ∷ pos 7 ∷ neg 1 ∷ neg 4 ∷ neg 6 ∷ pos 2 ∷ pos 5 ∷ pos 98 ∷ neg 45 ∷ pos 29 ∷ neg 38 ∷ pos 8 ∷ neg 11 ∷ pos 6 ∷ neg 6 ∷ pos 11 ∷ pos 1 ∷ neg 8 ∷ pos 18 ∷ neg 14 ∷ pos 20 ∷ neg 7 ∷ neg 12 ∷ pos 6 ∷ pos 17 ∷ neg 18 ∷ pos 22 ∷ neg 8 ∷ neg 3 ∷ neg 8 ∷ pos 13 ∷ neg 1 ∷ neg 9 ∷ pos 14 ∷ neg 4 ∷ pos 5 ∷ pos 1 ∷ neg 1 ∷ neg 1 ∷ neg 4 ∷ pos 2 ∷ pos 2 ∷ pos 5 ∷ neg 10 ∷ pos 12 ∷ neg 6 ∷ neg 8 ∷ [] }) (pos 5115 ∷ neg 10105 ∷ pos 14845 ∷ neg 19221 ∷ pos 23122 ∷ neg 26455 ∷ pos 29135 ∷ neg 31100 ∷ pos 32297 ∷ neg 32700 ∷ pos 32297 ∷ neg 31100 ∷ pos 29135 ∷ neg 26455 ∷ pos 23122 ∷ neg 19221 ∷ pos 14845 ∷ neg 10105 ∷ pos 5115 ∷ pos 0 ∷ neg 5116 ∷ pos 10104 ∷ neg 14846 ∷ pos 19220 ∷ neg 23123 ∷ pos 26454 ∷ neg 29136 ∷ pos 31099 ∷ neg 32298 ∷ pos 32699 ∷ neg 32298 ∷ pos 31099 ∷ neg 29136 ∷ pos 26454 ∷ neg 23123 ∷ pos 19220 ∷ neg 14846 ∷ pos 10104 ∷ neg 5116 ∷ neg 1 ∷ pos 5115 ∷ neg 10105 ∷ pos 14845 ∷ neg 19221 ∷ pos 23122 ∷ neg 26455 ∷ pos 29135 ∷ neg 31100 ∷ pos 32297 ∷ neg 32700 ∷ pos 32297 ∷ neg 31100 ∷ pos 29135 ∷ neg 26455 ∷ pos 23122 ∷ neg 19221 ∷ pos 14845 ∷ neg 10105 ∷ pos 5115 ∷ pos 0 ∷ neg 5116 ∷ pos 10104 ∷ neg 14846 ∷ pos 19220 ∷ neg 23123 ∷ pos 26454 ∷ neg 29136 ∷ pos 31099 ∷ neg 32298 ∷ pos 32699 ∷ neg 32298 ∷ pos 31099 ∷ neg 29136 ∷ pos 26454 ∷ neg 23123 ∷ pos 19220 ∷ neg 14846 ∷ pos 10104 ∷ neg 5116 ∷ neg 1 ∷ pos 5115 ∷ neg 10105 ∷ pos 14845 ∷ neg 19221 ∷ pos 23122 ∷ neg 26455 ∷ pos 29135 ∷ neg 31100 ∷ pos 32297 ∷ neg 32700 ∷ pos 32297 ∷ neg 31100 ∷ pos 29135 ∷ neg 26455 ∷ pos 23122 ∷ neg 19221 ∷ pos 14845 ∷ neg 10105 ∷ pos 5115 ∷ pos 0 ∷ neg 5116 ∷ pos 10104 ∷ neg 14846 ∷ pos 19220 ∷ neg 23123 ∷ pos 26454 ∷ neg 29136 ∷ pos 31099 ∷ neg 32298 ∷ pos 32699 ∷ neg 32298 ∷ pos 31099 ∷ neg 29136 ∷ pos 26454 ∷ neg 23123 ∷ pos 19220 ∷ neg 14846 ∷ pos 10104 ∷ neg 5116 ∷ neg 1 ∷ pos 5115 ∷ neg 10105 ∷ pos 14845 ∷ neg 19221 ∷ pos 23122 ∷ neg 26455 ∷ pos 29135 ∷ neg 31100 ∷ pos 32297 ∷ neg 32700 ∷ pos 32297 ∷ neg 31100 ∷ pos 29135 ∷ neg 26455 ∷ pos 23122 ∷ neg 19221 ∷ pos 14845 ∷ neg 10105 ∷ pos 5115 ∷ pos 0 ∷ neg 5116 ∷ pos 10104 ∷ neg 14846 ∷ pos 19220 ∷ neg 23123 ∷ pos 26454 ∷ neg 29136 ∷ pos 31099 ∷ neg 32298 ∷ pos 32699 ∷ neg 32298 ∷ pos 31099 ∷ neg 29136 ∷ pos 26454 ∷ neg 23123 ∷ pos 19220 ∷ neg 14846 ∷ pos 10104 ∷ neg 5116 ∷ neg 1 ∷ []) (replicate 76 (pos 0)) ≡ record { number = 0; state = record { z1 = neg 4; L_z2 = neg 307284; mp = neg 9; LARpp = pos 25394 ∷ pos 25394 ∷ pos 0 ∷ pos 0 ∷ neg 220 ∷ pos 546 ∷ neg 656 ∷ pos 436 ∷ []; u = pos 2192 ∷ neg 4741 ∷ neg 18 ∷ pos 14 ∷ neg 49 ∷ pos 94 ∷ neg 103 ∷ pos 125 ∷ []; dp = pos 8 ∷ neg 11 ∷ neg 2 ∷ neg 18 ∷ pos 11 ∷ pos 9 ∷ neg 20 ∷ pos 18 ∷ neg 22 ∷ neg 16 ∷ neg 7 ∷ neg 4 ∷ neg 30 ∷ pos 17 ∷ neg 26 ∷ pos 10 ∷ neg 8 ∷ pos 5 ∷ neg 20 ∷ pos 13 ∷ pos 7 ∷ neg 45 ∷ pos 14 ∷ neg 12 ∷ neg 31 ∷ pos 1 ∷ pos 7 ∷ pos 11 ∷ neg 4 ∷ neg 6 ∷ pos 14 ∷ pos 5 ∷ pos 98 ∷ neg 81 ∷ pos 29 ∷ neg 38 ∷ pos 44 ∷ neg 11 ∷ pos 6 ∷ neg 66 ∷ pos 8 ∷ neg 19 ∷ neg 2 ∷ neg 18 ∷ pos 19 ∷ pos 9 ∷ neg 20 ∷ pos 10 ∷ neg 22 ∷ neg 16 ∷ neg 15 ∷ neg 4 ∷ neg 30 ∷ pos 41 ∷ neg 26 ∷ pos 10 ∷ neg 16 ∷ pos 5 ∷ neg 20 ∷ pos 21 ∷ pos 7 ∷ neg 45 ∷ pos 6 ∷ neg 12 ∷ neg 31 ∷ pos 9 ∷ pos 7 ∷ pos 11 ∷ pos 36 ∷ neg 6 ∷ pos 14 ∷ neg 51 ∷ pos 98 ∷ neg 81 ∷ pos 53 ∷ neg 38 ∷ pos 44 ∷ neg 19 ∷ pos 6 ∷ neg 66 ∷ pos 16 ∷ neg 19 ∷ neg 2 ∷ neg 10 ∷ pos 19 ∷ pos 9 ∷ neg 28 ∷ pos 10 ∷ neg 22 ∷ pos 8 ∷ neg 15 ∷ neg 4 ∷ neg 38 ∷ pos 41 ∷ neg 26 ∷ pos 18 ∷ neg 16 ∷ pos 5 ∷ neg 12 ∷ pos 21 ∷ pos 7 ∷ neg 5 ∷ pos 6 ∷ neg 12 ∷ neg 7 ∷ pos 9 ∷ pos 7 ∷ neg 13 ∷ pos 36 ∷ neg 6 ∷ pos 38 ∷ neg 51 ∷ pos 98 ∷ neg 89 ∷ pos 53 ∷ neg 38 ∷ pos 52 ∷ neg 19 ∷ pos 6 ∷ neg 66 ∷ [] }; ending = some (stopped 3); marks = some found ∷ some found ∷ some found ∷ some found ∷ []; codewords = pos 63 ∷ pos 63 ∷ pos 20 ∷ pos 11 ∷ pos 8 ∷ pos 5 ∷ pos 3 ∷ pos 2 ∷ pos 78 ∷ pos 3 ∷ pos 3 ∷ pos 3 ∷ pos 3 ∷ pos 3 ∷ pos 3 ∷ pos 2 ∷ pos 3 ∷ pos 3 ∷ pos 3 ∷ pos 3 ∷ pos 4 ∷ pos 4 ∷ pos 3 ∷ pos 3 ∷ pos 0 ∷ pos 112 ∷ pos 3 ∷ pos 3 ∷ pos 2 ∷ pos 3 ∷ pos 3 ∷ pos 2 ∷ pos 2 ∷ pos 3 ∷ pos 3 ∷ pos 2 ∷ pos 2 ∷ pos 4 ∷ pos 4 ∷ pos 2 ∷ pos 5 ∷ pos 1 ∷ pos 40 ∷ pos 3 ∷ pos 1 ∷ pos 1 ∷ pos 3 ∷ pos 4 ∷ pos 3 ∷ pos 3 ∷ pos 5 ∷ pos 3 ∷ pos 4 ∷ pos 3 ∷ pos 4 ∷ pos 6 ∷ pos 0 ∷ pos 5 ∷ pos 3 ∷ pos 40 ∷ pos 3 ∷ pos 0 ∷ pos 1 ∷ pos 4 ∷ pos 4 ∷ pos 3 ∷ pos 5 ∷ pos 3 ∷ pos 4 ∷ pos 4 ∷ pos 6 ∷ pos 5 ∷ pos 2 ∷ pos 5 ∷ pos 3 ∷ pos 4 ∷ [] }
unfolding opened
e17_sines_142 = refl
