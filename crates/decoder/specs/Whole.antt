-- 4.3, the whole: what a frame of codewords is decoded to, by the steps in which the code does it.
use Rattle.std.specs.Prelude.{◌≡◌, refl, ℤ}
use mathlib.Core.List.{List, flatten}
use Rattle.standard.specs.Frame.{received}
use Rattle.standard.specs.ShortTerm.{ratios}
use Rattle.standard.specs.Decoder as standard
use Rattle.short_synthesis.specs.Speech.{spoken_is}
use Rattle.frame_speech.specs.Four.{frame_spoken}
use Rattle.frame_received.specs.Received.{ratio_words, received_is, frame_reconstructed}

-- the residual, the ratios, then the samples in one pass
pub decoded_is : (m : standard.Decoder) (c : List ℤ)
    → let t = frame_reconstructed m.drp m.nrp c in
    let larpp = ratios (ratio_words c) in
    let s = frame_spoken m.v m.msr m.LARpp larpp (flatten t.1) in
    standard.decoded m (received c) ≡ (record { drp = t.0.0; nrp = t.0.1; LARpp = larpp; v = s.0.0; msr = s.0.1 }, s.1)
unfolding standard.decoded frame_reconstructed frame_spoken
decoded_is m c = rw (received_is c, spoken_is) refl

-- so a state and samples that are those of the steps are those of the frame
pub whole : (m : standard.Decoder) (c drp : List ℤ) (nrp : ℤ) (larpp v : List ℤ) (msr : ℤ) (samples : List ℤ)
    → let t = frame_reconstructed m.drp m.nrp c in
    let s = frame_spoken m.v m.msr m.LARpp larpp (flatten t.1) in
    drp ≡ t.0.0 → nrp ≡ t.0.1 → larpp ≡ ratios (ratio_words c) → v ≡ s.0.0 → msr ≡ s.0.1 → samples ≡ s.1
    → (record { drp = drp; nrp = nrp; LARpp = larpp; v = v; msr = msr } ≡ (standard.decoded m (received c)).0)
    × (samples ≡ (standard.decoded m (received c)).1)
whole m c drp nrp larpp v msr samples a b l e f g = rw (decoded_is m c, a, b, e, f, g, l) (refl, refl)
