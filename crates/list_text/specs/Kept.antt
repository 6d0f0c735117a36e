-- A text in an array: its bytes in front, 0 behind them. So the text determines the array.
use Rattle.std.specs.Prelude.{ℕ, ◌-◌, ◌≤◌, ◌≡◌, List, ◌++◌, length, take, drop, replicate}
use Rattle.std.proofs.Common.{◌∙◌, arith, take-append-drop, length-append, length-drop, length-take-le}
use Rattle.std.proofs.lemmas.List.{length-replicate, drop-replicate}
use Rattle.std.proofs.lemmas.Slice.{drop-append-drop}

-- as many bytes as the text has
pub kept_length : (n : ℕ) (xs : List ℕ) → n ≤ 1024 → length xs ≡ 1024 → length (take n xs) ≡ n
kept_length n xs h l = length-take-le n xs (omega (arith, h, l))

-- and the array again
pub kept : (n : ℕ) (xs : List ℕ) → n ≤ 1024 → length xs ≡ 1024 → drop n xs ≡ replicate (1024 - n) 0
    → take n xs ++ replicate (1024 - length (take n xs)) 0 ≡ xs
kept n xs h l z = rw (kept_length n xs h l, ← z) (take-append-drop n xs)

-- a text of n bytes put at the front of zeros: zeros are behind it
pub put_front : (n : ℕ) (t : List ℕ) → length t ≡ n → n ≤ 1024
    → (length (t ++ drop n (replicate 1024 0)) ≡ 1024) × (drop n (t ++ drop n (replicate 1024 0)) ≡ replicate (1024 - n) 0)
put_front n t l h = (
  rw (length-append, length-drop, length-replicate) (omega (arith, l, h)),
  drop-append-drop n (replicate 1024 0) t n (omega arith) l ∙ drop-replicate n 1024 0,
)
