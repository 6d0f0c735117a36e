-- The promise of exp_and_mant decides its result: two results for one code are equal.
use Rattle.std.specs.Prelude.{◌≡◌, ℤ, pos}
use Rattle.std.proofs.Common.{sym, ◌∙◌}
use Rattle.rpe_quantise.specs.declared.Amplitude.{Amplitude}
use Rattle.standard.specs.Rpe.{amplitude}

abbrev made : ℤ → ℤ → Amplitude
made exp mant = record { exp = exp; mant = mant }

-- a and b both keep the promise for one code, so they are equal
pub one_amplitude : (code : ℤ) (a b : Amplitude)
    → a.exp ≡ (amplitude code).exp → a.mant ≡ pos (amplitude code).mant
    → b.exp ≡ (amplitude code).exp → b.mant ≡ pos (amplitude code).mant → a ≡ b
one_amplitude code a b p q r s =
    let parts : made a.exp a.mant ≡ made b.exp b.mant = cc (p ∙ sym r, q ∙ sym s) in
    parts
