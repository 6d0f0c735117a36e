-- What is promised of reading behind bytes that are there already.
use Rattle.std.specs.Prelude.{ℕ, ◌≤◌, ◌<◌, ◌≡◌, List, length, take, Result, Ok, Err, IsErr}
use Rattle.io_streams.specs.declared.Unread.{Unread}

-- how many bytes there are, whether or not a read has failed
abbrev pub bytes_there : Result ℕ Unread → ℕ
bytes_there (Ok count) = count
bytes_there (Err before) = before.count

-- before: the buffer held xs, of which the first `there` bytes count; at least `least` bytes were wanted. After: it holds ys
pub record Gathered (there least : ℕ) (xs : List ℕ) (r : Result ℕ Unread) (ys : List ℕ) : Type 0 where
  pub room : bytes_there r ≤ length ys
  pub more : there ≤ bytes_there r
  -- the bytes that were there are unchanged
  pub stands : take there ys ≡ take there xs
  -- a read that failed is told only where bytes are missing
  pub failure : IsErr r → bytes_there r < least
  -- where enough bytes were there, none is read
  pub enough : least ≤ there → (r ≡ Ok there) × (ys ≡ xs)
