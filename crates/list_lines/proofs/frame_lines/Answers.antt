-- Five lines, one behind the other. Each mark is read where it stands.
use Prim.Native.Nat.{ℕ, ◌<◌}
use mathlib.Core.Path.{◌≡◌, refl}
use mathlib.Core.List.{map}
use mathlib.Core.Option.{none}
use native.Mathlib.Omega.{arith}
use lib.ListN.{length, get_or}
use borrow.Author.Rules.{rules}
use Rattle.math_lists.specs.Tab.{map_at}
use Rattle.std.specs.Prelude.{None}
use Rattle.list_lines.specs.Told.{told_mark}
use Rattle.list_lines.specs.Lines.{frame_text}
use Rattle.list_lines.proofs.frame_lines.Goals as goal

pub returns : goal.returns
unfolding frame_text
returns c =
    let ms = c.args.marks in
    let four : length ms ≡ 4 = search rules in
    let told : (k : ℕ) → k < 4 → get_or (map told_mark ms) k none ≡ told_mark (get_or ms k None) =
    λ k h. map_at told_mark ms k None none (rw four h) in
    rw (
      c.s_line-4.ensures.text,
      c.s_line-3.ensures.text,
      c.s_line-2.ensures.text,
      c.s_line.ensures.text,
      c.f_line.ensures.text,
      c.new-lines.ensures,
      told 0 (omega arith),
      told 1 (omega arith),
      told 2 (omega arith),
      told 3 (omega arith),
    ) refl
