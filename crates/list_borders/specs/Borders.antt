-- The first line of the listing and the last, as the texts that they are made of.
use Rattle.std.specs.Prelude.{ℕ, ◌/◌, ◌%◌, ◌≤◌, ◌<◌, ◌≡◌, refl, ◌∷◌, ◌++◌}
use Rattle.std.proofs.Common.{sym, ◌∙◌, append_assoc, lt-ltb, le-ltb}
use Rattle.math_lists.specs.First.{first}
use Rattle.standard.specs.Listing.{text, decimal, digits, line, header, E_line}
use Rattle.list_text.specs.Fields.{tabbed, line_is}

-- the header
pub header_is : header ≡ text "RPELTP\t1\n"
unfolding header line text decimal digits first
header_is = refl

-- the E line beyond the limit
pub E_limit : (bytes : ℕ) → 320000000 < bytes → E_line bytes ≡ text "E\t1000000\t0\t0\tlimit\n"
unfolding E_line line text decimal digits first
E_limit bytes h = rw (lt-ltb 320000000 bytes h) refl

-- so beyond the limit it does not depend on the number of bytes
pub E_beyond : (a b : ℕ) → 320000000 < a → 320000000 < b → E_line a ≡ E_line b
E_beyond a b h k = E_limit a h ∙ sym (E_limit b k)

-- the E line up to the limit
pub E_end : (bytes : ℕ) → bytes ≤ 320000000
    → E_line bytes
    ≡ (((text "E" ++ 9 ∷ decimal (bytes / 320)) ++ (9 ∷ decimal (bytes % 320 / 2))) ++ (9 ∷ decimal (bytes % 2))) ++ text "\tend\n"
unfolding E_line tabbed text
E_end bytes h = rw (le-ltb 320000000 bytes h, line_is (text "E") _) (simp append_assoc refl)
