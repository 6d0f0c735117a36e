-- Frames of the vectors, packed and unpacked. Written by outside/write_trials.py.
use Rattle.std.specs.Prelude.{◌≡◌, refl, [], ◌∷◌, pos, replicate}
use Rattle.standard.specs.Answers.{pack, unpack}
use Rattle.standard.specs.Opened.{opened}

-- to bytes
pub e29_rand16_30_packed : pack (pos 44 ∷ pos 39 ∷ pos 25 ∷ pos 15 ∷ pos 8 ∷ pos 5 ∷ pos 3 ∷ pos 2 ∷ pos 96 ∷ pos 1 ∷ pos 2 ∷ pos 63 ∷ pos 5 ∷ pos 4 ∷ pos 4 ∷ pos 4 ∷ pos 1 ∷ pos 0 ∷ pos 2 ∷ pos 7 ∷ pos 3 ∷ pos 1 ∷ pos 4 ∷ pos 3 ∷ pos 0 ∷ pos 40 ∷ pos 1 ∷ pos 2 ∷ pos 56 ∷ pos 3 ∷ pos 1 ∷ pos 3 ∷ pos 1 ∷ pos 6 ∷ pos 7 ∷ pos 4 ∷ pos 2 ∷ pos 7 ∷ pos 5 ∷ pos 2 ∷ pos 7 ∷ pos 7 ∷ pos 66 ∷ pos 1 ∷ pos 0 ∷ pos 60 ∷ pos 4 ∷ pos 4 ∷ pos 0 ∷ pos 2 ∷ pos 2 ∷ pos 6 ∷ pos 4 ∷ pos 7 ∷ pos 2 ∷ pos 2 ∷ pos 5 ∷ pos 4 ∷ pos 6 ∷ pos 41 ∷ pos 1 ∷ pos 3 ∷ pos 61 ∷ pos 3 ∷ pos 7 ∷ pos 3 ∷ pos 0 ∷ pos 6 ∷ pos 3 ∷ pos 2 ∷ pos 3 ∷ pos 3 ∷ pos 4 ∷ pos 2 ∷ pos 5 ∷ pos 4 ∷ []) (replicate 33 255) ≡ record { number = 0; bytes = 236 ∷ 153 ∷ 31 ∷ 214 ∷ 4 ∷ 206 ∷ 191 ∷ 36 ∷ 3 ∷ 125 ∷ 225 ∷ 128 ∷ 74 ∷ 124 ∷ 89 ∷ 124 ∷ 234 ∷ 213 ∷ 47 ∷ 12 ∷ 158 ∷ 132 ∷ 100 ∷ 94 ∷ 42 ∷ 157 ∷ 234 ∷ 126 ∷ 31 ∷ 60 ∷ 109 ∷ 84 ∷ 9 ∷ [] }
unfolding opened
e29_rand16_30_packed = refl

-- and back
pub e29_rand16_30_unpacked : unpack (236 ∷ 153 ∷ 31 ∷ 214 ∷ 4 ∷ 206 ∷ 191 ∷ 36 ∷ 3 ∷ 125 ∷ 225 ∷ 128 ∷ 74 ∷ 124 ∷ 89 ∷ 124 ∷ 234 ∷ 213 ∷ 47 ∷ 12 ∷ 158 ∷ 132 ∷ 100 ∷ 94 ∷ 42 ∷ 157 ∷ 234 ∷ 126 ∷ 31 ∷ 60 ∷ 109 ∷ 84 ∷ 9 ∷ []) (replicate 76 (pos 1)) ≡ record { number = 0; codewords = pos 44 ∷ pos 39 ∷ pos 25 ∷ pos 15 ∷ pos 8 ∷ pos 5 ∷ pos 3 ∷ pos 2 ∷ pos 96 ∷ pos 1 ∷ pos 2 ∷ pos 63 ∷ pos 5 ∷ pos 4 ∷ pos 4 ∷ pos 4 ∷ pos 1 ∷ pos 0 ∷ pos 2 ∷ pos 7 ∷ pos 3 ∷ pos 1 ∷ pos 4 ∷ pos 3 ∷ pos 0 ∷ pos 40 ∷ pos 1 ∷ pos 2 ∷ pos 56 ∷ pos 3 ∷ pos 1 ∷ pos 3 ∷ pos 1 ∷ pos 6 ∷ pos 7 ∷ pos 4 ∷ pos 2 ∷ pos 7 ∷ pos 5 ∷ pos 2 ∷ pos 7 ∷ pos 7 ∷ pos 66 ∷ pos 1 ∷ pos 0 ∷ pos 60 ∷ pos 4 ∷ pos 4 ∷ pos 0 ∷ pos 2 ∷ pos 2 ∷ pos 6 ∷ pos 4 ∷ pos 7 ∷ pos 2 ∷ pos 2 ∷ pos 5 ∷ pos 4 ∷ pos 6 ∷ pos 41 ∷ pos 1 ∷ pos 3 ∷ pos 61 ∷ pos 3 ∷ pos 7 ∷ pos 3 ∷ pos 0 ∷ pos 6 ∷ pos 3 ∷ pos 2 ∷ pos 3 ∷ pos 3 ∷ pos 4 ∷ pos 2 ∷ pos 5 ∷ pos 4 ∷ [] }
unfolding opened
e29_rand16_30_unpacked = refl

-- to bytes
pub e17_sines_142_packed : pack (pos 63 ∷ pos 63 ∷ pos 20 ∷ pos 11 ∷ pos 8 ∷ pos 5 ∷ pos 3 ∷ pos 2 ∷ pos 78 ∷ pos 3 ∷ pos 3 ∷ pos 3 ∷ pos 3 ∷ pos 3 ∷ pos 3 ∷ pos 2 ∷ pos 3 ∷ pos 3 ∷ pos 3 ∷ pos 3 ∷ pos 4 ∷ pos 4 ∷ pos 3 ∷ pos 3 ∷ pos 0 ∷ pos 112 ∷ pos 3 ∷ pos 3 ∷ pos 2 ∷ pos 3 ∷ pos 3 ∷ pos 2 ∷ pos 2 ∷ pos 3 ∷ pos 3 ∷ pos 2 ∷ pos 2 ∷ pos 4 ∷ pos 4 ∷ pos 2 ∷ pos 5 ∷ pos 1 ∷ pos 40 ∷ pos 3 ∷ pos 1 ∷ pos 1 ∷ pos 3 ∷ pos 4 ∷ pos 3 ∷ pos 3 ∷ pos 5 ∷ pos 3 ∷ pos 4 ∷ pos 3 ∷ pos 4 ∷ pos 6 ∷ pos 0 ∷ pos 5 ∷ pos 3 ∷ pos 40 ∷ pos 3 ∷ pos 0 ∷ pos 1 ∷ pos 4 ∷ pos 4 ∷ pos 3 ∷ pos 5 ∷ pos 3 ∷ pos 4 ∷ pos 4 ∷ pos 6 ∷ pos 5 ∷ pos 2 ∷ pos 5 ∷ pos 3 ∷ pos 4 ∷ []) (replicate 33 255) ≡ record { number = 0; bytes = 255 ∷ 79 ∷ 23 ∷ 214 ∷ 228 ∷ 252 ∷ 97 ∷ 155 ∷ 182 ∷ 141 ∷ 220 ∷ 0 ∷ 127 ∷ 97 ∷ 147 ∷ 54 ∷ 137 ∷ 84 ∷ 131 ∷ 186 ∷ 96 ∷ 220 ∷ 58 ∷ 142 ∷ 70 ∷ 135 ∷ 154 ∷ 128 ∷ 92 ∷ 71 ∷ 186 ∷ 234 ∷ 8 ∷ [] }
unfolding opened
e17_sines_142_packed = refl

-- and back
pub e17_sines_142_unpacked : unpack (255 ∷ 79 ∷ 23 ∷ 214 ∷ 228 ∷ 252 ∷ 97 ∷ 155 ∷ 182 ∷ 141 ∷ 220 ∷ 0 ∷ 127 ∷ 97 ∷ 147 ∷ 54 ∷ 137 ∷ 84 ∷ 131 ∷ 186 ∷ 96 ∷ 220 ∷ 58 ∷ 142 ∷ 70 ∷ 135 ∷ 154 ∷ 128 ∷ 92 ∷ 71 ∷ 186 ∷ 234 ∷ 8 ∷ []) (replicate 76 (pos 1)) ≡ record { number = 0; codewords = pos 63 ∷ pos 63 ∷ pos 20 ∷ pos 11 ∷ pos 8 ∷ pos 5 ∷ pos 3 ∷ pos 2 ∷ pos 78 ∷ pos 3 ∷ pos 3 ∷ pos 3 ∷ pos 3 ∷ pos 3 ∷ pos 3 ∷ pos 2 ∷ pos 3 ∷ pos 3 ∷ pos 3 ∷ pos 3 ∷ pos 4 ∷ pos 4 ∷ pos 3 ∷ pos 3 ∷ pos 0 ∷ pos 112 ∷ pos 3 ∷ pos 3 ∷ pos 2 ∷ pos 3 ∷ pos 3 ∷ pos 2 ∷ pos 2 ∷ pos 3 ∷ pos 3 ∷ pos 2 ∷ pos 2 ∷ pos 4 ∷ pos 4 ∷ pos 2 ∷ pos 5 ∷ pos 1 ∷ pos 40 ∷ pos 3 ∷ pos 1 ∷ pos 1 ∷ pos 3 ∷ pos 4 ∷ pos 3 ∷ pos 3 ∷ pos 5 ∷ pos 3 ∷ pos 4 ∷ pos 3 ∷ pos 4 ∷ pos 6 ∷ pos 0 ∷ pos 5 ∷ pos 3 ∷ pos 40 ∷ pos 3 ∷ pos 0 ∷ pos 1 ∷ pos 4 ∷ pos 4 ∷ pos 3 ∷ pos 5 ∷ pos 3 ∷ pos 4 ∷ pos 4 ∷ pos 6 ∷ pos 5 ∷ pos 2 ∷ pos 5 ∷ pos 3 ∷ pos 4 ∷ [] }
unfolding opened
e17_sines_142_unpacked = refl

-- to bytes
pub e32_speechlike_10_packed : pack (pos 24 ∷ pos 45 ∷ pos 11 ∷ pos 15 ∷ pos 1 ∷ pos 9 ∷ pos 5 ∷ pos 4 ∷ pos 88 ∷ pos 3 ∷ pos 0 ∷ pos 5 ∷ pos 7 ∷ pos 2 ∷ pos 3 ∷ pos 3 ∷ pos 3 ∷ pos 4 ∷ pos 4 ∷ pos 4 ∷ pos 4 ∷ pos 3 ∷ pos 3 ∷ pos 3 ∷ pos 3 ∷ pos 42 ∷ pos 0 ∷ pos 2 ∷ pos 0 ∷ pos 2 ∷ pos 6 ∷ pos 5 ∷ pos 4 ∷ pos 3 ∷ pos 3 ∷ pos 3 ∷ pos 3 ∷ pos 4 ∷ pos 4 ∷ pos 4 ∷ pos 4 ∷ pos 3 ∷ pos 82 ∷ pos 3 ∷ pos 0 ∷ pos 0 ∷ pos 7 ∷ pos 4 ∷ pos 4 ∷ pos 3 ∷ pos 0 ∷ pos 3 ∷ pos 1 ∷ pos 4 ∷ pos 3 ∷ pos 3 ∷ pos 4 ∷ pos 4 ∷ pos 4 ∷ pos 47 ∷ pos 0 ∷ pos 0 ∷ pos 0 ∷ pos 3 ∷ pos 4 ∷ pos 5 ∷ pos 3 ∷ pos 5 ∷ pos 3 ∷ pos 3 ∷ pos 3 ∷ pos 3 ∷ pos 4 ∷ pos 4 ∷ pos 4 ∷ pos 4 ∷ []) (replicate 33 255) ≡ record { number = 0; bytes = 88 ∷ 187 ∷ 94 ∷ 100 ∷ 137 ∷ 157 ∷ 226 ∷ 218 ∷ 70 ∷ 146 ∷ 219 ∷ 166 ∷ 66 ∷ 64 ∷ 46 ∷ 183 ∷ 141 ∷ 36 ∷ 39 ∷ 29 ∷ 224 ∷ 228 ∷ 176 ∷ 112 ∷ 35 ∷ 249 ∷ 2 ∷ 96 ∷ 236 ∷ 186 ∷ 109 ∷ 36 ∷ 9 ∷ [] }
unfolding opened
e32_speechlike_10_packed = refl

-- and back
pub e32_speechlike_10_unpacked : unpack (88 ∷ 187 ∷ 94 ∷ 100 ∷ 137 ∷ 157 ∷ 226 ∷ 218 ∷ 70 ∷ 146 ∷ 219 ∷ 166 ∷ 66 ∷ 64 ∷ 46 ∷ 183 ∷ 141 ∷ 36 ∷ 39 ∷ 29 ∷ 224 ∷ 228 ∷ 176 ∷ 112 ∷ 35 ∷ 249 ∷ 2 ∷ 96 ∷ 236 ∷ 186 ∷ 109 ∷ 36 ∷ 9 ∷ []) (replicate 76 (pos 1)) ≡ record { number = 0; codewords = pos 24 ∷ pos 45 ∷ pos 11 ∷ pos 15 ∷ pos 1 ∷ pos 9 ∷ pos 5 ∷ pos 4 ∷ pos 88 ∷ pos 3 ∷ pos 0 ∷ pos 5 ∷ pos 7 ∷ pos 2 ∷ pos 3 ∷ pos 3 ∷ pos 3 ∷ pos 4 ∷ pos 4 ∷ pos 4 ∷ pos 4 ∷ pos 3 ∷ pos 3 ∷ pos 3 ∷ pos 3 ∷ pos 42 ∷ pos 0 ∷ pos 2 ∷ pos 0 ∷ pos 2 ∷ pos 6 ∷ pos 5 ∷ pos 4 ∷ pos 3 ∷ pos 3 ∷ pos 3 ∷ pos 3 ∷ pos 4 ∷ pos 4 ∷ pos 4 ∷ pos 4 ∷ pos 3 ∷ pos 82 ∷ pos 3 ∷ pos 0 ∷ pos 0 ∷ pos 7 ∷ pos 4 ∷ pos 4 ∷ pos 3 ∷ pos 0 ∷ pos 3 ∷ pos 1 ∷ pos 4 ∷ pos 3 ∷ pos 3 ∷ pos 4 ∷ pos 4 ∷ pos 4 ∷ pos 47 ∷ pos 0 ∷ pos 0 ∷ pos 0 ∷ pos 3 ∷ pos 4 ∷ pos 5 ∷ pos 3 ∷ pos 5 ∷ pos 3 ∷ pos 3 ∷ pos 3 ∷ pos 3 ∷ pos 4 ∷ pos 4 ∷ pos 4 ∷ pos 4 ∷ [] }
unfolding opened
e32_speechlike_10_unpacked = refl
