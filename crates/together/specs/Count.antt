-- How the program counts: each frame that it takes from one end to the other is one more. What a frame's line says is not told.
use Rattle.std.specs.Prelude.{ℕ, ◌+◌, ◌≡◌, List, [], ◌∷◌, length}
use Rattle.std.proofs.Common.{◌∙◌, arith}
use Rattle.math_lists.specs.Scan.{run}

-- the count after a frame
unfoldable pub counted : ℕ → List ℕ → ℕ × List ℕ
counted n bytes = (n + 1, [])

-- so frame after frame, as many are counted as there are
pub all_counted : (n : ℕ) (frames : List (List ℕ)) → (run counted n frames).0 ≡ n + length frames
unfolding counted run
all_counted n [] = omega arith
all_counted n (f ∷ frames) = all_counted (n + 1) frames ∙ omega arith
