-- What the stages use of the tables of 4.4: what a table has beyond its end, bounds of all entries, and the fields of LARc.
use Rattle.std.specs.Prelude.{ℕ, ◌-◌, ◌^◌, ◌<◌, ◌≤◌, ◌≡◌, refl, Bool, true, leb, ℤ, pos, ◌-ℤ◌, nat_abs, length, get_or}
use Rattle.std.proofs.Common.{sym, ap, ◌∙◌, ⊎_elim, arith, pow_pos, leb-true, le-leb}
use mathlib.Core.List.{List, map, zip_with}
use Rattle.std.proofs.Math.ListN.{get_or-eq_default}
use Rattle.std.specs.Int.Signed.{le_z, mag}
use Rattle.std.specs.Int.{w16}
use borrow.Author.Rules.{sfits_of}
use Rattle.math_integers.specs.Halves.{P, N, zar, eq_is, apart, le_or_lt, mem}
use Rattle.math_integers.specs.Sums.{minus_is}
use Rattle.math_integers.specs.Ranges.{back}
use Rattle.math_lists.specs.Every.{every, every_at}
use Rattle.math_lists.specs.Tab.{map_at, zip_at}
use Rattle.standard.specs.Tables.{◌at◌, MIC, MAC, FAC, NRFAC, LARc_widths}

-- an entry that was read is what its local gives back
pub entry : {z : ℤ} → mag z < 32768 → mem w16 z ≡ z
entry h = back {w = w16} (sfits_of h)

-- beyond its end a table gives the default d, which is 0 in the tables
pub past_end : {A : Type 0} {d : A} (t : List A) {i : ℕ} → length t ≤ i → d ≡ get_or t i d
past_end {A} {d} t {i} h = sym (get_or-eq_default t d {n = i} h)

-- a test that 0 and every entry pass, is passed at each index
passes : (p : ℤ → Bool) (t : List ℤ) → p (pos 0) ≡ true → every p t ≡ true → (i : ℕ) → p (t at i) ≡ true
passes p t z e i = ⊎_elim (λ h. rw (← past_end {d = pos 0} t {i = i} h) z) (λ h. every_at p t i (pos 0) e h) (le_or_lt (length t) i)

-- a bound on the size of every entry, by one test over the table: `entry_size A 20480 refl i`, under `unfolding A every`
pub entry_size : (t : List ℤ) (b : ℕ) → every (λ z. leb (nat_abs z) b) t ≡ true → (i : ℕ) → nat_abs (t at i) ≤ b
entry_size t b e i = leb-true (nat_abs (t at i)) b (passes (λ z. leb (nat_abs z) b) t (le-leb 0 b (omega arith)) e i)

-- no mantissa is negative
pub FAC_above : (i : ℕ) → le_z (pos 0) (FAC at i) ≡ true
unfolding every FAC
FAC_above = passes (le_z (pos 0)) FAC refl refl

-- nor an inverse one
pub NRFAC_above : (i : ℕ) → le_z (pos 0) (NRFAC at i) ≡ true
unfolding every NRFAC
NRFAC_above = passes (le_z (pos 0)) NRFAC refl refl

-- ---- MIC, MAC and the bits of LARc

spans : zip_with ◌-ℤ◌ MAC MIC ≡ map (λ b. pos (2 ^ b - 1)) LARc_widths
unfolding MAC MIC LARc_widths zip_with
spans = refl

-- from MIC to MAC there are as many codes as the field has values
pub LARc_span : (i : ℕ) → i < 8 → MAC at i -ℤ MIC at i ≡ pos (2 ^ get_or LARc_widths i 0 - 1)
unfolding MAC MIC LARc_widths
LARc_span i h =
    sym (zip_at ◌-ℤ◌ MAC MIC i (pos 0) (pos 0) (pos 0) h h)
    ∙ (ap (λ (t : List ℤ). t at i) spans ∙ map_at (λ b. pos (2 ^ b - 1)) LARc_widths i 0 (pos 0) h)

-- so a code between them, once MIC is taken from it, fits its field
pub LARc_fits : (i : ℕ) (c : ℤ)
    → i < 8 → le_z (MIC at i) c ≡ true → le_z c (MAC at i) ≡ true
    → (P (c -ℤ MIC at i) < 2 ^ get_or LARc_widths i 0) × (N (c -ℤ MIC at i) ≡ 0)
LARc_fits i c h l g =
    let m = MIC at i in
    let e = eq_is (MAC at i -ℤ m) (pos (2 ^ get_or LARc_widths i 0 - 1)) (LARc_span i h) in
    omega (zar, minus_is c m, minus_is (MAC at i) m, apart (c -ℤ m), apart (MAC at i -ℤ m), pow_pos (get_or LARc_widths i 0))
