-- Past the limit every E line is the same (`E_beyond`). So the number of bytes may be cut at the greatest that 32 bits hold.
use Prim.Native.Nat.{◌+◌, ◌*◌}
use mathlib.Core.Path.{◌∙◌, ap}
use mathlib.Core.Logic.{⊎_elim}
use native.Mathlib.Omega.{arith}
use Rattle.math_integers.specs.Halves.{le_or_lt}
use Rattle.standard.specs.Listing.{E_line}
use Rattle.list_borders.specs.Borders.{E_beyond}
use Rattle.list_frames.proofs.Lister.ended.Goals as goal

pub returns : goal.returns
returns c =
    let bytes = c.args.self.frames * 320 + c.args.rest in
    c.e_line.ensures
    ∙ ⊎_elim
    (λ h. ap E_line (omega (arith, h, c.saturating_mul.ensures, c.saturating_add.ensures)))
    (λ h. E_beyond c.saturating_add.result bytes (omega (arith, h, c.saturating_mul.ensures, c.saturating_add.ensures)) (omega (arith, h)))
    (le_or_lt bytes 4294967295)
