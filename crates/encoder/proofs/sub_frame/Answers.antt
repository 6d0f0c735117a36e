-- The call is passed 40 samples of d and 160 of dp. The lengths of these parts, as the code writes them, are 40 and 160.
-- So what frame_subframe::sub_coded promises of the parts is what is promised here of d and dp.
use Prim.Native.Nat.{ℕ, ◌+◌, ◌*◌, ◌-◌}
use mathlib.Core.Path.{◌≡◌, ap, ap₂, ◌∙◌}
use mathlib.Core.Bool.{Bool, cond}
use mathlib.Core.Option.{some}
use mathlib.Core.List.{List, ◌++◌}
use native.Mathlib.Omega.{arith}
use lib.IntN.{ℤ, pos}
use lib.Signed.{lt_z}
use Rattle.math_lists.specs.Parts.{put}
use Rattle.standard.specs.Frame.{sub_words}
use Rattle.standard.specs.Coder.{Subcoded, sub_coded}
use Rattle.standard.specs.House.{rule, found, mark}
use Rattle.frame_subframe.specs.Whole.{added}
use Rattle.encoder.specs.Subframes.{own, before}
use Rattle.encoder.proofs.sub_frame.Goals as goal
use Rattle.encoder.proofs.sub_frame.Goals.{After-sub_coded-search}

-- the two parts that are passed
module _ (t : After-sub_coded-search) where
  abbrev n : ℕ
  n = t.args.n

  -- what they are coded as
  abbrev made : Subcoded
  made = sub_coded (before n t.args.dp.now) (own n t.args.d.now)

  -- their lengths, as the code has them
  size : (k : ℕ) → (40 * n + k) - 40 * n ≡ k
  size k = omega arith

  positive_is : t.sub_coded-search.result.positive ≡ lt_z (pos 0) made.search.sum
  positive_is = rw (size 40, size 160) at t.sub_coded-search.ensures.positive

  words_are : t.sub_coded-search.new.c ≡ sub_words made.codes
  words_are = rw (size 40, size 160) at t.sub_coded-search.ensures.codewords

  history_is : t.sub_coded-search.new.dp ≡ before n t.args.dp.now ++ added (before n t.args.dp.now) (own n t.args.d.now)
  history_is = rw (size 40, size 160) at t.sub_coded-search.ensures.history

  -- the mark of a sub-frame whose search answers so
  mark_is : (b : Bool) → b ≡ lt_z (pos 0) made.search.sum → cond b found rule ≡ mark made
  unfolding mark
  mark_is b e = rw e

pub returns : goal.returns
returns c =
    let t = (goal.at.returns c).After-sub_coded-search in record {
      mark = c.marked.ensures ∙ ap some (mark_is t _ (positive_is t));
      codewords = words_are t;
      history = ap₂ (λ (k : ℕ) (y : List ℤ). put (40 * n t) k t.args.dp.now y) (size t 160) (history_is t);
    }
