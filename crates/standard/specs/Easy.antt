-- House rules, 'Wrong readings': cases that distinguish a wrong reading from the right one. The other wrong readings are distinguished by
-- the zero frame (ZeroFrame) and by the worked rows (Worked).
use Rattle.std.specs.Prelude.{ℕ, ◌≡◌, refl, List, [], ◌∷◌, ◌++◌, ℤ, pos, replicate}
use Rattle.standard.specs.Lpc.{ending, stopped}
use Rattle.standard.specs.LongTerm.{lag_search, Nc}
use Rattle.standard.specs.Rpe.{Mc}
use Rattle.standard.specs.Worked.{lags_used}
use Rattle.standard.specs.Opened.{opened}

-- so many zeros: silence, or a buffer to be filled
abbrev pub zeros : ℕ → List ℤ
zeros n = replicate n (pos 0)

-- a pulse at the start of 40 samples; and a history with one at lag 50 and one at lag 90
abbrev pub pulse : ℤ → List ℤ
pulse x = x ∷ zeros 39

abbrev pub two_pulses : List ℤ
two_pulses = zeros 30 ++ (pulse (pos 1000) ++ (pos 1000 ∷ zeros 49))

pub record Easy : Type 0 where
  -- lags 50 and 90 tie
  pub smallest_lag : Nc (lag_search (pulse (pos 1000)) two_pulses) ≡ 50
  -- grids 1 and 2 tie
  pub first_grid : Mc (pos 0 ∷ pos 100 ∷ pos 100 ∷ zeros 37) ≡ 1
  -- at P[0] = abs(P[1]) the recursion goes on
  pub equality_goes_on : ending (pos 1073741824 ∷ pos 1073741824 ∷ zeros 7) ≡ stopped 2
  -- a bad lag is replaced by the remembered one
  pub remembered : lags_used (pos 120 ∷ pos 121 ∷ pos 39 ∷ []) ≡ pos 120 ∷ pos 120 ∷ pos 120 ∷ []

pub easy : Easy
unfolding opened
easy = record {
  smallest_lag = refl;
  first_grid = refl;
  equality_goes_on = refl;
  remembered = refl;
}
