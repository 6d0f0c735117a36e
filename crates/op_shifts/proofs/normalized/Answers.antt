-- A long word shifted right by 16 is a word, so the cast loses nothing and the `low` of the definition changes nothing.
use mathlib.Core.Path.{◌≡◌, sym, ap, ap₂, ◌∙◌}
use native.Mathlib.Omega.{arith}
use lib.IntN.{ℤ}
use mir.Syntax.{w16, w32}
use mir.Val.{SFits}
use Rattle.math_integers.specs.Halves.{zar, mem, know}
use Rattle.math_integers.specs.Sums.{shr_is}
use Rattle.math_integers.specs.Ranges.{wide, back, res}
use Rattle.standard.specs.Arithmetic.{◌>>◌, shl}
use Rattle.standard.specs.Lpc.{normalized}
use Rattle.law_arithmetic.specs.Shift.{keep_plain, shl_word}
use Rattle.op_shifts.proofs.normalized.Goals as goal
use Rattle.op_shifts.proofs.normalized.Goals.{After-shl}

-- the high half of a long word is a word
high : (x : ℤ) → SFits w32 x → SFits w16 (x >> 16)
high x f = omega (zar, know f, shr_is x 65536 (omega arith))

-- what the code shifts right is what the standard does
result-is : (c : After-shl) → let s = c.before in mem w32 c.shl.result ≡ shl w32 s.args.x s.args.n
result-is c =
    let s = c.before in
    res c.shl ∙ (c.shl.ensures ∙ ap₂ (shl w32) (back s.ranges.x) (back s.ranges.n))

shifted : (c : After-shl) → let s = c.before in SFits w16 (shl w32 s.args.x s.args.n >> 16)
shifted c = let s = c.before in high _ (shl_word w32 s.args.x s.args.n s.ranges.x)

pub returns : goal.returns
unfolding normalized
returns c =
    let f = shifted c in
    ap (λ (z : ℤ). mem w16 (mem w32 (z >> 16))) (result-is c) ∙ (ap (mem w16) (back {w = w32} (wide f tt)) ∙ (back f ∙ sym (keep_plain f)))
