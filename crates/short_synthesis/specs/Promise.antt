-- The promise on the cells after a stretch, or after a whole frame, leaves one answer only.
use Rattle.std.specs.Prelude.{◌≡◌, List, ℤ}
use Rattle.std.proofs.Common.{sym, ◌∙◌}
use Rattle.short_synthesis.specs.declared.Cells.{Cells}

-- the cells from their two parts
abbrev cells_of : List ℤ → ℤ → Cells
cells_of v msr = record { v = v; msr = msr }

-- two answers that are promised the same are equal
pub one_cells : (t : List ℤ × ℤ) (a b : Cells) → a.v ≡ t.0 → a.msr ≡ t.1 → b.v ≡ t.0 → b.msr ≡ t.1 → a ≡ b
one_cells t a b p q r s =
    let parts : cells_of a.v a.msr ≡ cells_of b.v b.msr = cc (p ∙ sym r, q ∙ sym s) in
    parts
