-- House rules, 'Six sums', over a whole frame: the sums (a) to (f) never saturate, from any sound state.
use Rattle.std.specs.Prelude.{ℕ, ◌+◌, ◌-◌, ◌*◌, ◌<◌, ◌≤◌, ◌≡◌, refl, true, ℤ, pos, ◌+ℤ◌, ◌-ℤ◌, ◌*ℤ◌, nat_abs, length, take, drop}
use Rattle.std.proofs.Common.{ap, ◌∙◌, arith, length-drop}
use mathlib.Core.List.{List, map, zip_with, foldl}
use Rattle.std.proofs.lemmas.List.{length-map}
use Rattle.std.specs.Int.Signed.{le_z}
use Rattle.std.specs.Int.{w16, w32}
use Rattle.math_lists.specs.Scan.{run}
use Rattle.math_lists.specs.Cut.{sum as total}
use Rattle.math_lists.specs.Tab.{tab_at, tab_at_zero}
use Rattle.math_lists.specs.Every.{every, every_at, every_drop, every_take}
use Rattle.standard.specs.Arithmetic.{◌>>◌, low, up, within, shr, sub, mult_r, L_add, L_sub, L_mult, L_sum, L_squares}
use Rattle.standard.specs.Tables.{◌at◌, neg, H}
use Rattle.standard.specs.Preprocessing.{downscaled, Offset, recursive, offset}
use Rattle.standard.specs.Lpc.{L_ACF}
use Rattle.standard.specs.LongTerm.{back, scal, correlations, L_power}
use Rattle.standard.specs.Rpe.{grid}
use Rattle.standard.specs.Coder.{Coder}
use Rattle.standard.specs.House.{sound_coder}
use Rattle.law_arithmetic.specs.Within.{word, within_is}
use Rattle.law_arithmetic.specs.Sum.{bounded_sum}
use Rattle.law_lengths.specs.Analysis.{downscaled_length}
use Rattle.law_lengths.specs.Subframes.{Lag, back_length, grid_length, weighted_length}
use Rattle.law_soundness.specs.Ranges.{so_range}
use Rattle.law_soundness.specs.Decay.{msp, lsp, msp_plain, left_plain, lsp_plain, low_plain, high_plain, first_plain, second_plain}
use Rattle.law_soundness.specs.Offset.{sound_offset, plain_offset, L_z2_in, L_z2_long, L_s2_long, s1_plain, rounding_plain, sof_plain, offset_sound}
use Rattle.law_soundness.specs.States.{downscaled_range, offset_all_sound, offset_all_in, offset_all_plain}
use Rattle.op_sums.specs.Room.{at_most}
use Rattle.long_search.specs.Bounds.{power_in}
use Rattle.rpe_weighting.specs.Bounds.{energy_in}
use Rattle.rpe_weighting.specs.Filter.{around}
use Rattle.law_limits.specs.Signals.{kept, memory, sof, small, sums, part, history, wt, e, x}
use Rattle.law_limits.specs.Words.{small_length, x_words}
use Rattle.law_limits.specs.Words.{home_carried, coded_all_carried}
use Rattle.law_limits.specs.Sizes.{down_sizes, word_sizes, small_sizes, wt_sizes, back_words, grids_words, around_words}
use Rattle.law_limits.specs.Steps.{double, doubles, bound, products, partial, alike, taps_most, H_sizes}

-- 4.2.2 on a sample so: no operation meets a limit, and no low word loses a bit. `FrameShifts` has its two left shifts
pub record OffsetSums (m : Offset) (so : ℤ) : Type 0 where
  -- s1 = sub( so, z1 )
  pub s1 : sub so m.z1 ≡ so -ℤ m.z1
  -- msp = L_z2 >> 15, its low word
  pub msp_word : msp m.L_z2 ≡ m.L_z2 >> 15
  -- L_sub( L_z2, ( msp << 15 ) )
  pub left : let high = up w32 (msp m.L_z2) 15 in L_sub m.L_z2 high ≡ m.L_z2 -ℤ high
  -- lsp, the low word of this
  pub lsp_word : lsp m.L_z2 ≡ L_sub m.L_z2 (up w32 (msp m.L_z2) 15)
  -- temp = mult_r( lsp, 32735 )
  pub temp : let lsp = lsp m.L_z2 in mult_r lsp (pos 32735) ≡ (lsp *ℤ pos 32735 +ℤ pos 16384) >> 15
  -- L_s2 = L_add( L_s2, temp )
  pub L_s2 : let L_s2 = up w32 (sub so m.z1) 15 in let temp = mult_r (lsp m.L_z2) (pos 32735) in L_add L_s2 temp ≡ L_s2 +ℤ temp
  -- L_mult( msp, 32735 )
  pub product : let msp = msp m.L_z2 in L_mult msp (pos 32735) ≡ double msp (pos 32735)
  -- L_z2 = L_add( L_mult( msp, 32735 ) >> 1, L_s2 )
  pub L_z2 : let L-temp = L_mult (msp m.L_z2) (pos 32735) >> 1 in
      let L_s2 = L_add (up w32 (sub so m.z1) 15) (mult_r (lsp m.L_z2) (pos 32735)) in L_add L-temp L_s2 ≡ L-temp +ℤ L_s2
  -- L_add( L_z2, 16384 ), of the new L_z2
  pub rounding : let L_z2 = (offset m so).0.L_z2 in L_add L_z2 (pos 16384) ≡ L_z2 +ℤ pos 16384
  -- sof, the low word of this >> 15
  pub sof : let high = L_add (offset m so).0.L_z2 (pos 16384) >> 15 in low high ≡ high

-- the definition's step is made of these operations
pub offset_is : (m : Offset) (so : ℤ) → let L_s2 = up w32 (sub so m.z1) 15 in
    ((offset m so).0.L_z2 ≡ L_add (L_mult (msp m.L_z2) (pos 32735) >> 1) (L_add L_s2 (mult_r (lsp m.L_z2) (pos 32735))))
    × ((offset m so).1 ≡ low (L_add (offset m so).0.L_z2 (pos 16384) >> 15))
unfolding offset recursive
offset_is m so = (refl, refl)

-- a sum of products that the standard makes by L_mult and L_add, from a start: neither meets a limit, so the sum is that of twice the plain
-- products; and it is within the bound, as is each partial sum
pub record Inside (most : ℕ) (sum start : ℤ) (a b : List ℤ) : Type 0 where
  pub terms : zip_with L_mult a b ≡ zip_with double a b
  pub plain : sum ≡ foldl ◌+ℤ◌ start (zip_with double a b)
  pub size : nat_abs sum ≤ most
  pub steps : (n : ℕ) → nat_abs (foldl ◌+ℤ◌ start (take n (zip_with double a b))) ≤ most

-- the sums (a) and (b), of a frame
pub record FrameSums (c : Coder) (sop : List ℤ) : Type 0 where
  -- (a) the offset filter, at each sample
  pub operations : (k : ℕ) → k < 160 → OffsetSums (memory c sop k) (downscaled sop at k)
  -- so after any number k of samples it is the filter on integers, without a clip and without lost bits
  pub offset : (k : ℕ) → let so = downscaled (take k sop) in run offset (kept c) so ≡ run plain_offset (kept c) so
  -- and its 16-bit output is from −32764 to 32764
  pub output : every (within (neg 32764) (pos 32764)) (sof c sop) ≡ true
  -- (b) the nine autocorrelations
  pub autocorrelation : (k : ℕ) → k < 9 → let small = small c sop in Inside 1342177280 (sums c sop at k) (pos 0) (drop k small) small

-- the sums (c) to (f), of a sub-frame that starts from dp and d
pub record SubSums (dp d : List ℤ) : Type 0 where
  -- (c) each lag sum
  pub lag : (lag : ℕ) → Lag lag → Inside 1342177280 (correlations d dp at (lag - 40)) (pos 0) (wt d) (back lag dp)
  -- (d) the power at a lag, for every lag
  pub power : (lag : ℕ) → Lag lag → let wt = map (λ y. y >> 3) (back lag dp) in Inside 1342177280 (L_power lag dp) (pos 0) wt wt
  -- which is not negative
  pub power_above : (lag : ℕ) → Lag lag → le_z (pos 0) (L_power lag dp) ≡ true
  -- (e) a grid energy
  pub energy : (m : ℕ) → m ≤ 3
      → let xM = grid m (x dp d) in let wt = map (λ y. y >> 2) xM in Inside 1744830464 (L_squares 2 xM) (pos 0) wt wt
  -- which is not negative
  pub energy_above : (m : ℕ) → m ≤ 3 → le_z (pos 0) (L_squares 2 (grid m (x dp d))) ≡ true
  -- (f) the weighting sum before its doublings
  pub weighting : (k : ℕ) → k < 40 → let wt = drop k (around (e dp d)) in Inside 1625169920 (L_sum (pos 8192) wt H) (pos 8192) wt H

-- ---- (a) and (b)

-- 4.2.2 on a sample, from a sound state
offset_sums : (m : Offset) (so : ℤ) → sound_offset m ≡ true → so_range so ≡ true → OffsetSums m so
offset_sums m so h k =
    let x = m.L_z2 in
    let s = up w32 (sub so m.z1) 15 in
    let long = L_z2_long m h in
    let next = L_z2_in (offset m so).0 (offset_sound m so h k) in
    record {
      s1 = s1_plain m so h k;
      msp_word = msp_plain x long;
      left = left_plain x long;
      lsp_word = lsp_plain x long;
      temp = low_plain x long;
      L_s2 = first_plain x long s (L_s2_long m so h k);
      product = high_plain x long;
      L_z2 = second_plain x long s (L_s2_long m so h k);
      rounding = rounding_plain (offset m so).0.L_z2 next;
      sof = sof_plain (offset m so).0.L_z2 next;
    }

-- a sum whose factors are at most A and B in size, and whose terms together leave room
inside : (A B most : ℕ) (start : ℤ) (a b : List ℤ) → A * B ≤ 1073741823 → most ≤ 2147483647
    → every (at_most A) a ≡ true → every (at_most B) b ≡ true → nat_abs start + total (zip_with (bound A) a b) ≤ most
    → Inside most (L_sum start a b) start a b
unfolding L_sum
inside A B most start a b m n e f room =
    let t = doubles A B a b e f m in
    let (p, size) = bounded_sum w32 (products A a b e) (nat_abs start) start (omega arith) (omega arith) in
    record {
      terms = t;
      plain = ap (foldl L_add start) t ∙ p;
      size = rw t (omega arith);
      steps = λ n. omega (arith, partial (products A a b e) (nat_abs start) start (omega arith) n);
    }

-- from 0 on, with one bound for all terms
inside_all : (A B most : ℕ) (a b : List ℤ) → A * B ≤ 1073741823 → most ≤ 2147483647
    → every (at_most A) a ≡ true → every (at_most B) b ≡ true → length a * (2 * (A * B)) ≤ most
    → Inside most (L_sum (pos 0) a b) (pos 0) a b
inside_all A B most a b m n e f l = inside A B most (pos 0) a b m n e f (omega (arith, alike A B a b f))

-- the sums (a) and (b) of a frame, from a sound state
pub frame_sums : (c : Coder) (sop : List ℤ) → sound_coder c ≡ true → length sop ≡ 160 → every word sop ≡ true → FrameSums c sop
unfolding sound_coder L_ACF
frame_sums c sop sound l w =
    record {
      operations = λ k h.
          offset_sums (memory c sop k) (downscaled sop at k) (offset_all_sound (kept c) (take k sop) sound (every_take word k sop w))
          (every_at so_range (downscaled sop) k (pos 0) (downscaled_range sop w) (omega (arith, downscaled_length sop)));
      offset = λ k. offset_all_plain (kept c) (take k sop) sound (every_take word k sop w);
      output = offset_all_in (kept c) sop sound w;
      autocorrelation = λ k h.
          let small = small c sop in
          let sizes = small_sizes c sop in
          rw (tab_at_zero (λ k. L_sum (pos 0) (drop k small) small) 9 k (pos 0) h)
          (inside_all 2048 2048 _ (drop k small) small (omega arith) (omega arith) (every_drop _ k small sizes) sizes
          (omega (arith, n, length-drop k small)));
    }
  where
    n : length (small c sop) ≡ 160
    n = small_length c sop ∙ l

-- ---- (c) to (f)

-- the sums (c) to (f) of a sub-frame, for any words as its 120 dp and its 40 d
pub sub_sums : (dp d : List ℤ) → every word dp ≡ true → length dp ≡ 120 → every word d ≡ true → length d ≡ 40 → SubSums dp d
unfolding correlations L_power L_squares
sub_sums dp d v n w l =
    record {
      lag = λ lag h.
          let from : 40 + (lag - 40) ≡ lag = omega (arith, h.least) in
          rw (tab_at (λ lag. L_sum (pos 0) (wt d) (back lag dp)) 40 81 (lag - 40) (pos 0) (omega (arith, h.most)), from)
          (inside_all 512 32768 _ (wt d) (back lag dp) (omega arith) (omega arith) (wt_sizes d w)
          (word_sizes (back lag dp) (back_words lag dp v)) (omega (arith, length-map d (λ x. shr w16 x (scal d)))));
      power = λ lag h.
          let small = down_sizes 3 (back lag dp) (omega arith) (back_words lag dp v) in
          inside_all 4096 4096 _ _ _ (omega arith) (omega arith) small small
          (omega (arith, length-map (back lag dp) (λ y. y >> 3), back_length lag dp h n));
      power_above = λ lag h. (within_is (pos 0) (pos 1342177280) (L_power lag dp) (power_in dp v n lag h)).0;
      energy = λ m h.
          let xM = grid m (x dp d) in
          let small = down_sizes 2 xM (omega arith) (grids_words dp d m) in
          inside_all 8192 8192 _ _ _ (omega arith) (omega arith) small small
          (omega (arith, length-map xM (λ y. y >> 2), grid_length m (x dp d)));
      energy_above = λ m h.
          (within_is (pos 0) (pos 1744830464) (L_squares 2 (grid m (x dp d)))
          (energy_in m (x dp d) h (weighted_length (e dp d)) (x_words dp d))).0;
      weighting = λ k h.
          let wt = drop k (around (e dp d)) in
          inside 32768 8192 _ (pos 8192) wt H (omega arith) (omega arith)
          (word_sizes wt (every_drop word k (around (e dp d)) (around_words dp d))) H_sizes (omega (arith, taps_most wt));
    }

-- ---- all six

-- of a frame, and of each of its sub-frames from the history and the part of d that it starts from
abbrev pub SixSums : Coder → List ℤ → Type 0
SixSums c sop = FrameSums c sop × ((i : ℕ) → i < 4 → SubSums (history c sop i) (part c sop i))
