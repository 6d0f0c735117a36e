-- What a turn of a program does with the bytes that have come, where it does not end the program.
use Rattle.std.specs.Prelude.{ℕ, ◌-◌, ◌*◌, ◌/◌, ◌≤◌, ◌<◌, min, ◌≡◌, List, ◌++◌, length, take, drop}
use Rattle.std.proofs.Common.{arith, length-drop, take_at, length-take-le}
use Rattle.io_streams.specs.Frames.{through, Through}

-- a step takes a state and a frame's bytes, `size` of them, to the next state and the bytes to be written, which are promised where
-- `told` holds. Before: the state s, from which at most `left` frames are taken, and the buffer with `there` bytes that were kept.
-- After: the state t, `rest` bytes that are kept, and both buffers
pub record Turned (told : Type 0) {S : Type 0} (step : S → List ℕ → S × List ℕ) (size : ℕ) (s : S) (left there : ℕ) (room lent : List ℕ)
    (t : S) (rest : ℕ) (kept out : List ℕ) : Type 0 where
  -- the buffer once it was read into, and how many bytes are there; those that were kept stand first
  pub read : List ℕ
  pub count : ℕ
  pub more : there ≤ count
  pub held : count ≤ length room
  pub stands : take there read ≡ take there room
  -- their whole frames, up to the limit, are taken in order; at least one is there. What they give is in its buffer, up to `end`
  pub frames : ℕ
  pub whole : frames ≡ min (count / size) left
  pub some : 0 < frames
  pub end : ℕ
  pub goes : t ≡ (through step size s frames read).0
  pub gives : told → Through step size s frames read lent t end out
  -- the bytes behind them are kept
  pub remain : rest ≡ count - size * frames
  pub stay : take rest kept ≡ take rest (drop (size * frames) read)

-- bytes that `keep` has moved to the front stand there
pub front : (from count k : ℕ) (xs ys : List ℕ) → count ≤ length xs → k ≡ count - from
    → ys ≡ take (count - from) (drop from xs) ++ drop (count - from) xs → take k ys ≡ take k (drop from xs)
front from count k xs ys h e m = rw (e, m) (take_at _ _ (count - from) (length-take-le _ _ (rw length-drop (omega arith))))
