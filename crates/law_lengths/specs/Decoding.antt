-- 4.3: the lengths of what is decoded, and the range of the lag in use.
use Rattle.std.specs.Prelude.{suc, ◌*◌, min, ◌≡◌, refl, true, ℤ, pos, nat_abs, length}
use Rattle.std.proofs.Common.{◌∙◌, arith, length-take}
use Rattle.std.proofs.Math.Bool.{and-eq-true_iff}
use mathlib.Core.List.{List, [], foldr, flatten}
use Rattle.std.specs.Int.Signed.{le_z}
use Rattle.math_integers.specs.Halves.{zar, abs_is, apart}
use Rattle.math_lists.specs.First.{by_cond}
use Rattle.math_lists.specs.Scan.{run, run_length, run_keeps}
use Rattle.math_lists.specs.Every.{every, every_all}
use Rattle.math_lists.specs.Lengths.{sized, sized_yes, sized_length, flatten_sized, pairs_length, foldr_grows}
use Rattle.standard.specs.LongTerm.{is_lag}
use Rattle.standard.specs.Frame.{Subframe}
use Rattle.standard.specs.Decoder.{Nr, sub_decoded, inverse_section, synthesised}
use Rattle.law_lengths.specs.Subframes.{Lag, full, reconstructed_length, updated_length}

-- ---- 4.3.2 long term synthesis filtering: the lag

-- a number that passes `is_lag` is a lag
pub range_lag : (n : ℤ) → is_lag n ≡ true → Lag (nat_abs n)
range_lag n h =
    let (l, m) = (and-eq-true_iff (le_z (pos 40) n) (le_z n (pos 120))).0 h in
    omega (zar, abs_is n, apart n)

-- the lag that is used is from 40 to 120 where the remembered lag is, whatever is received
pub Nr_range : (nrp Ncr : ℤ) → is_lag nrp ≡ true → is_lag (Nr nrp Ncr) ≡ true
unfolding Nr
Nr_range nrp Ncr h = by_cond (λ n. is_lag n ≡ true) (is_lag Ncr) (λ e. e) (λ e. h)

-- so is the remembered lag after a sub-frame
pub sub_decoded_range : (s : List ℤ × ℤ) (f : Subframe) → is_lag s.1 ≡ true → is_lag (sub_decoded s f).0.1 ≡ true
unfolding sub_decoded
sub_decoded_range s f h = Nr_range s.1 f.Nc h

-- and after any number of them
pub sub_decodes_range : (s : List ℤ × ℤ) (fs : List Subframe) → is_lag s.1 ≡ true → is_lag (run sub_decoded s fs).0.1 ≡ true
sub_decodes_range s fs h =
    (run_keeps sub_decoded (λ s. is_lag s.1 ≡ true) (λ f. true) (λ new. true) (λ s f k _. (sub_decoded_range s f k, refl))
    s fs h (every_all _ (λ f. refl) fs)).0

-- ---- 4.3.2 the samples

-- what a sub-frame starts from: 120 samples of drp, and a lag
pub record Start (s : List ℤ × ℤ) : Type 0 where
  pub drp : length s.0 ≡ 120
  pub nrp : is_lag s.1 ≡ true

module _ (s : List ℤ × ℤ) (f : Subframe) (h : Start s) (p : length f.xMc ≡ 13) where
  -- a sub-frame of thirteen pulses gives 40 samples
  pub sub_decoded_length : length (sub_decoded s f).1 ≡ 40
  unfolding sub_decoded
  sub_decoded_length =
      let lag = Nr s.1 f.Nc in
      reconstructed_length (nat_abs lag) f s.0 (range_lag lag (Nr_range s.1 f.Nc h.nrp)) p h.drp

  -- and leaves what the next one starts from
  pub sub_decoded_start : Start (sub_decoded s f).0
  unfolding sub_decoded
  sub_decoded_start = record { drp = updated_length s.0 _ h.drp sub_decoded_length; nrp = sub_decoded_range s f h.nrp }

-- both, as tests that a run keeps
sub_decoded_keeps : (s : List ℤ × ℤ) (f : Subframe)
    → Start s → full f ≡ true → Start (sub_decoded s f).0 × (sized 40 (sub_decoded s f).1 ≡ true)
sub_decoded_keeps s f h q =
    let p = sized_length 13 f.xMc q in
    (sub_decoded_start s f h p, sized_yes 40 (sub_decoded s f).1 (sub_decoded_length s f h p))

module _ (s : List ℤ × ℤ) (fs : List Subframe) (h : Start s) (p : every full fs ≡ true) where
  -- after any number of sub-frames drp has 120
  pub sub_decodes_length : length (run sub_decoded s fs).0.0 ≡ 120
  sub_decodes_length = (run_keeps sub_decoded Start full (sized 40) sub_decoded_keeps s fs h p).0.drp

  -- each has given 40 samples
  pub sub_decodes_sized : every (sized 40) (run sub_decoded s fs).1 ≡ true
  sub_decodes_sized = (run_keeps sub_decoded Start full (sized 40) sub_decoded_keeps s fs h p).1

  -- so there are 40 samples for each sub-frame
  pub sub_decodes_samples : length (flatten (run sub_decoded s fs).1) ≡ length fs * 40
  sub_decodes_samples = flatten_sized 40 (run sub_decoded s fs).1 sub_decodes_sized ∙ rw run_length

-- ---- 4.3.4 short term synthesis filtering

-- each section leaves one v
sections_length : (xs : List (ℤ × ℤ)) (wt : ℤ) → length (foldr inverse_section (wt, []) xs).1 ≡ length xs
unfolding inverse_section
sections_length xs wt = foldr_grows (λ t. length t.1) inverse_section (λ x t. refl) (wt, []) xs ∙ omega arith

-- v has eight, where it had eight and there are eight coefficients
pub synthesised_length : (v rrp : List ℤ) (wt : ℤ) → length (synthesised v (rrp, wt)).0 ≡ suc (min 7 (min (length rrp) (length v)))
unfolding synthesised
synthesised_length v rrp wt = simp (length-take, sections_length, pairs_length)

-- so eight stay eight over any number of samples that have eight coefficients each
pub synthesised_all_length : (v : List ℤ) (xs : List (List ℤ × ℤ))
    → length v ≡ 8 → every (λ x. sized 8 x.0) xs ≡ true → length (run synthesised v xs).0 ≡ 8
synthesised_all_length v xs h e =
    (run_keeps synthesised (λ w. length w ≡ 8) (λ x. sized 8 x.0) (λ sr. true)
    (λ w (rrp, wt) k f. (omega (arith, synthesised_length w rrp wt, sized_length 8 rrp f), refl)) v xs h e).0
