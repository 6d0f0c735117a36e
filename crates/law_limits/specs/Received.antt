-- House rules, 'Left shifts': no left shift of 4.3 loses bits, whatever codewords are received. `ReadShifts` has all of them; the doubling
-- of 4.3.6 is a sum, by add.
use Rattle.std.specs.Prelude.{ℕ, ◌+◌, ◌<◌, ◌≡◌, refl, true, List, leb, ℤ, pos, length, get_or, take, drop}
use Rattle.std.proofs.Common.{arith, length-take, length-drop, leb-true}
use Rattle.std.specs.Int.Signed.{lt_z}
use Rattle.std.specs.Int.{w16}
use Rattle.math_lists.specs.Every.{every, every_at}
use Rattle.math_lists.specs.Tab.{map_at, zip_at, zip_drop, zip_replicate}
use Rattle.standard.specs.Arithmetic.{◌>>◌, ◌<<◌, add, sub, abs}
use Rattle.standard.specs.Tables.{◌at◌, B, MIC, LARc_widths}
use Rattle.standard.specs.Frame.{sample, Subframe, Frame, places, sub_widths, sub_received, received}
use Rattle.standard.specs.House.{fit}
use Rattle.law_arithmetic.specs.Clip.{plus_fits}
use Rattle.law_fields.specs.Samples.{sample_word}
use Rattle.law_fields.specs.Valid.{low_bits, low_bits_fit}
use Rattle.frame_received.specs.Sub.{field_fit}
use Rattle.frame_received.specs.Received.{sub_frame, sub_frames, ratio_words, received_is}
use Rattle.law_limits.specs.Exact.{Exact, code_up, B_up, ratio_up}
use Rattle.law_limits.specs.Inverse.{InverseShifts, inverse_shifts}

-- the left shifts of a frame that is received: they lose nothing
pub record ReadShifts (f : Frame) : Type 0 where
  -- 4.2.8: (LARc + MIC) << 10, and B << 1
  pub codes : (i : ℕ) → i < 8 → Exact w16 (add (f.LARc at i) (MIC at i)) 10
  pub bases : (i : ℕ) → Exact w16 (B at i) 1
  -- 4.2.9.2: temp << 1, whatever LARp is
  pub coefficients : (LARp : ℤ) → let temp = abs LARp in lt_z temp (pos 11059) ≡ true → Exact w16 temp 1
  -- 4.3.1, which is 4.2.15 and 4.2.16, of sub-frame n
  pub subframes : (n : ℕ) (z : Subframe) → n < 4 → InverseShifts (get_or f.subframes n z)
  -- 4.3.7: (srop >> 3) << 3, whatever sro is
  pub truncation : (sro : ℤ) → Exact w16 (add sro sro >> 3) 3

-- the shifts of a sub-frame that is read from seventeen codewords
sub_read : (c : List ℤ) → length c ≡ 17 → InverseShifts (sub_frame c)
unfolding sub_frame sub_received sub_widths
sub_read c l = inverse_shifts (sub_frame c) (field_fit c 3 l (omega arith)) pulse
  where
    -- the pulses are the last thirteen fields, of three bits each
    pulse : (k : ℕ) → k < 13 → fit 3 ((sub_frame c).xMc at k) ≡ true
    pulse k h =
        let n : length (drop 4 c) ≡ 13 = simp length-drop (omega arith) in
        let read = map_at (low_bits 3) (drop 4 c) k (pos 0) (pos 0) (omega arith) in
        rw (zip_drop low_bits 4 sub_widths c, zip_replicate low_bits 3 13 (drop 4 c) n, read)
        (low_bits_fit 3 (drop 4 c at k))

-- all of them, of any 76 codewords
pub read_shifts : (c : List ℤ) → length c ≡ 76 → ReadShifts (received c)
unfolding ratio_words sub_frames places LARc_widths sample every
read_shifts c l =
    rw (received_is c)
    (record {
      codes = λ i h. code_up i (ratio_words c at i) h (ratio i h);
      bases = B_up;
      coefficients = ratio_up;
      subframes = sub;
      truncation = λ sro. sample_word (add sro sro) (plus_fits w16 sro sro);
    })
  where
    ratio : (i : ℕ) → i < 8 → fit (get_or LARc_widths i 0) (ratio_words c at i) ≡ true
    ratio i h =
        let n : length (take 8 c) ≡ 8 = simp length-take (omega arith) in
        rw (zip_at low_bits LARc_widths (take 8 c) i 0 (pos 0) (pos 0) h (omega arith))
        (low_bits_fit (get_or LARc_widths i 0) (take 8 c at i))

    sub : (n : ℕ) (z : Subframe) → n < 4 → InverseShifts (get_or (sub_frames c) n z)
    sub n z h =
        let p = get_or places n 0 in
        let room = leb-true (p + 17) 76 (every_at (λ p. leb (p + 17) 76) places n 0 refl h) in
        rw (map_at (λ p. sub_frame (take 17 (drop p c))) places n 0 z h)
        (sub_read (take 17 (drop p c)) (simp (length-take, length-drop) (omega (arith, room))))
