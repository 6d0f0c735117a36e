-- For a search that goes through sums: the best of them so far.
use Rattle.std.specs.Prelude.{ℕ, ℤ}
use Rattle.math_lists.specs.Best.{Best}
use Rattle.op_sums.specs.declared.Found.{Found}

-- an index and the sum there
abbrev pub best_of : ℕ → ℤ → Best
best_of at sum = record { at = at; sum = sum }

-- the code's best, as the `Best` of the definitions
abbrev pub chosen : Found → Best
chosen f = best_of f.at f.sum
