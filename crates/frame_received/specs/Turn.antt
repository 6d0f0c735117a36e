-- 4.3.2: one sub-frame of a frame: what the list holds before it and after it, the lag in use, and the history at the list's end.
use Rattle.std.specs.Prelude.{ℕ, ◌+◌, true, drop}
use Rattle.std.proofs.Math.Path.{◌≡◌, ap, ap₂}
use Rattle.std.proofs.Common.{◌∙◌}
use mathlib.Core.List.{List, ◌++◌}
use Rattle.std.proofs.Math.IntN.{ℤ}
use Rattle.std.proofs.Math.ListN.{take}
use Rattle.math_lists.specs.Lengths.{sized_length}
use Rattle.math_lists.specs.Parts.{put}
use Rattle.standard.specs.Frame.{Subframe}
use Rattle.standard.specs.LongTerm.{is_lag}
use Rattle.standard.specs.Decoder.{sub_decoded}
use Rattle.law_lengths.specs.Subframes.{full}
use Rattle.law_lengths.specs.Decoding.{sub_decoded_length, sub_decoded_range}
use Rattle.long_history.specs.Window.{Grown, grown_length, grown_next, Stands, stands_lent, stands_next}

-- the history and the lag s stand at the end of x, and x at the front of the list h; n is the lag
pub record Holds (a : ℕ) (s : List ℤ × ℤ) (x r h : List ℤ) (n : ℤ) : Type 0 where
  pub stands : Stands a s.0 x r h
  pub lag : n ≡ s.1
  pub sound : is_lag s.1 ≡ true

module _ (s : List ℤ × ℤ) (f : Subframe) (p : full f ≡ true) {a : ℕ} where
  -- the history after it is the one before, moved by the 40 samples that it adds
  pub grown : {x : List ℤ} → Grown a s.0 x → is_lag s.1 ≡ true → Grown (a + 40) (sub_decoded s f).0.0 (x ++ (sub_decoded s f).1)
  unfolding sub_decoded
  grown t sound = grown_next t _ (sub_decoded_length s f (record { drp = grown_length t; nrp = sound }) (sized_length 13 f.xMc p))

  -- after a call that was passed the part from index a on, and the lag
  pub turn : {x r h y : List ℤ} {n m : ℤ} → let d = take 120 (take 160 (drop a h)) in
      Holds a s x r h n → m ≡ (sub_decoded (d, n) f).0.1 → y ≡ d ++ (sub_decoded (d, n) f).1
      → Holds (a + 40) (sub_decoded s f).0 (x ++ (sub_decoded s f).1) (drop 40 r) (put a 160 h y) m
  unfolding sub_decoded
  turn {h = h} {n = n} t em ey =
      let d = take 120 (take 160 (drop a h)) in
      let l = stands_lent t.stands in
      let same : ◌≡◌ {A = List ℤ × ℤ} (d, n) s = ap₂ (λ (d : List ℤ) (n : ℤ). (d, n)) l t.lag in
      record {
        stands = stands_next t.stands _ _
            (sub_decoded_length s f (record { drp = grown_length t.stands.grown; nrp = t.sound }) (sized_length 13 f.xMc p))
            (ey ∙ ap₂ ◌++◌ l (ap (λ (q : List ℤ × ℤ). (sub_decoded q f).1) same));
        lag = em ∙ ap (λ (q : List ℤ × ℤ). (sub_decoded q f).0.1) same;
        sound = sub_decoded_range s f t.sound;
      }
