-- House rules, 'Six sums': all six over a whole frame and its four sub-frames, from any sound state; and so from home on.
use Rattle.std.specs.Prelude.{ℕ, ◌≡◌, true, ℤ, length}
use mathlib.Core.List.{List}
use Rattle.math_lists.specs.Scan.{run}
use Rattle.math_lists.specs.Every.{every}
use Rattle.standard.specs.Coder.{Coder, coded}
use Rattle.standard.specs.House.{home_coder, sound_coder}
use Rattle.law_arithmetic.specs.Within.{word}
use Rattle.law_soundness.specs.States.{coded_from_home}
use Rattle.law_limits.specs.Signals.{part, history}
use Rattle.law_limits.specs.Words.{Carried, part_words, part_length, history_words, history_length}
use Rattle.law_limits.specs.Words.{home_carried, coded_all_carried}
use Rattle.law_limits.specs.Sums.{SixSums, frame_sums, sub_sums}

-- from any sound state
pub six_sums : (c : Coder) (sop : List ℤ) → Carried c → sound_coder c ≡ true → length sop ≡ 160 → every word sop ≡ true → SixSums c sop
six_sums c sop h sound l w = (
  frame_sums c sop sound l w,
  λ i k.
      sub_sums (history c sop i) (part c sop i) (history_words c sop h i) (history_length c sop h i)
      (part_words c sop i k h) (part_length c sop i k l),
)

-- so from home, whatever frames of words came before
pub six_sums_from_home : (frames : List (List ℤ)) (sop : List ℤ)
    → every (every word) frames ≡ true → length sop ≡ 160 → every word sop ≡ true → SixSums (run coded home_coder frames).0 sop
six_sums_from_home frames sop ws l w =
    six_sums (run coded home_coder frames).0 sop (coded_all_carried home_coder frames home_carried) (coded_from_home frames ws) l w
