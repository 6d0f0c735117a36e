-- What the program makes of an octet, and that octet after octet it makes of them all what the definitions say of the whole.
use Rattle.std.specs.Prelude.{ℕ, zero, suc, ◌≤◌, ◌≡◌, List, [], ◌∷◌, length, take, replicate}
use Rattle.std.proofs.Common.{refl, ap, ap₂, ◌∙◌, arith}
use lib.Seq.{take_all}
use mathlib.Core.List.{flatten}
use Rattle.math_lists.specs.Scan.{run}
use Rattle.math_lists.specs.Cut.{cut}
use Rattle.standard.specs.Alaw.{alaw_samples}
use Rattle.standard.specs.Files.{file_bytes}

-- the sample's bytes. Nothing is carried from octet to octet
unfoldable pub expanded : Unit {0} → List ℕ → Unit {0} × List ℕ
expanded s octets = (tt, file_bytes (alaw_samples octets))

-- of the first n octets, taken one by one, the bytes of their samples are written
pub first_expanded : (n : ℕ) (octets : List ℕ) → n ≤ length octets
    → flatten (run expanded tt (cut (replicate n 1) octets)).1 ≡ file_bytes (alaw_samples (take n octets))
unfolding expanded run cut flatten alaw_samples file_bytes
first_expanded zero octets h = refl
first_expanded (suc n) [] h = absurd (omega arith)
first_expanded (suc n) (o ∷ octets) h = ap₂ ◌∷◌ refl (ap₂ ◌∷◌ refl (first_expanded n octets (omega arith)))

-- so of all of them
pub all_expanded : (octets : List ℕ)
    → flatten (run expanded tt (cut (replicate (length octets) 1) octets)).1 ≡ file_bytes (alaw_samples octets)
all_expanded octets =
    first_expanded (length octets) octets (omega arith)
    ∙ ap (λ xs. file_bytes (alaw_samples xs)) (take_all (length octets) octets (omega arith))
