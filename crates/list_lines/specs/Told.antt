-- What an ending and a mark of the code stand for, where there may be none.
use Rattle.std.specs.Prelude.{◌≡◌, refl, Option, Some, None, List, [], ◌∷◌, map, length, get_or}
use Rattle.std.proofs.Common.{arith}
use Rattle.std.proofs.Math.Option as math
use Rattle.standard.specs.Lpc as lpc
use Rattle.standard.specs.House as house
use Rattle.lpc_reflection.specs.declared.Ending.{Ending}
use Rattle.lpc_reflection.specs.Promise.{ended}
use Rattle.encoder.specs.declared.Mark.{Mark}
use Rattle.encoder.specs.declared.Mark.TheVariants.{Rule}
use Rattle.encoder.specs.Promise.{mark}

unfoldable pub told_ending : Option Ending → math.Option lpc.Ending
told_ending None = math.none
told_ending (Some e) = math.some (ended e)

unfoldable pub told_mark : Option Mark → math.Option house.Mark
told_mark None = math.none
told_mark (Some m) = mark m

-- four marks, each of them there
pub told_four : (ms : List Mark) → length ms ≡ 4
    → map told_mark (Some (get_or ms 0 Rule) ∷ Some (get_or ms 1 Rule) ∷ Some (get_or ms 2 Rule) ∷ Some (get_or ms 3 Rule) ∷ [])
    ≡ map mark ms
unfolding told_mark
told_four [] l = absurd (omega arith)
told_four (a ∷ []) l = absurd (omega arith)
told_four (a ∷ b ∷ []) l = absurd (omega arith)
told_four (a ∷ b ∷ c ∷ []) l = absurd (omega arith)
told_four (a ∷ b ∷ c ∷ d ∷ []) l = refl
told_four (a ∷ b ∷ c ∷ d ∷ e ∷ ms) l = absurd (omega arith)
