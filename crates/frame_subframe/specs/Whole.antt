-- A sub-frame put together from its stages, in the definition's order.
use Rattle.std.specs.Prelude.{ℕ, ◌≤◌, ◌≡◌, ℤ, pos, nat_abs, take}
use Rattle.std.proofs.Math.Path.{refl}
use mathlib.Core.List.{List, ◌∷◌, ◌++◌, zip_with}
use Rattle.standard.specs.Arithmetic.{add, peak}
use Rattle.standard.specs.Frame.{sub_words}
use Rattle.law_fields.specs.Gains.{gain_in}
use Rattle.long_search.specs.Search.{L_max, gain_code}
use Rattle.standard.specs.LongTerm.{lag_search, Nc, L_power, dpp, residual}
use Rattle.standard.specs.Rpe.{weighted, grid, Mc, xmaxc, amplitude, xMc, xMp, ep, reconstructed}
use Rattle.standard.specs.Coder.{Subcoded, sub_coded}

-- 4.2.15: the code of the block amplitude of x's selected grid
abbrev pub block_code : List ℤ → ℤ
block_code x = xmaxc (peak (grid (Mc x) x))

-- and those of its pulses
abbrev pub pulse_codes : List ℤ → List ℤ
pulse_codes x = xMc (amplitude (block_code x)) (grid (Mc x) x)

-- 4.2.18: the 40 samples that the sub-frame adds to dp[−120..−1]
unfoldable pub added : List ℤ → List ℤ → List ℤ
added dp d = let f = (sub_coded dp d).codes in reconstructed (nat_abs f.Nc) f dp

-- for a list that begins with dp[−120..−1]: the definition's result for the sub-frame, and the history with the new samples
abbrev pub made : List ℤ → List ℤ → Subcoded
made dp d = sub_coded (take 120 dp) d

abbrev pub extended : List ℤ → List ℤ → List ℤ
extended dp d = take 120 dp ++ added (take 120 dp) d

module _ (dp d : List ℤ) where
  -- 4.2.11: the lag and the gain code
  abbrev pub lag : ℕ
  lag = Nc (lag_search d dp)

  abbrev pub gain : ℕ
  gain = gain_code d dp

  -- 4.2.12: the estimate and the residual
  abbrev pub estimate : List ℤ
  estimate = dpp lag gain dp

  abbrev pub e : List ℤ
  e = residual d estimate

  -- 4.2.13: the residual, weighted
  abbrev pub filtered : List ℤ
  filtered = weighted e

  -- the definition's search is this one
  pub search_is : (sub_coded dp d).search ≡ lag_search d dp
  unfolding sub_coded
  search_is = refl

  -- the gain code is one of four
  pub gain_range : gain ≤ 3
  gain_range = gain_in (L_max d dp) (L_power lag dp)

  module _ {m : ℕ} {c : ℤ} {xs : List ℤ} (em : m ≡ Mc filtered) (ec : c ≡ block_code filtered) (ex : xs ≡ pulse_codes filtered) where
    -- its codewords are these
    pub codes_are : {l b : ℕ} → l ≡ lag → b ≡ gain → pos l ∷ pos b ∷ pos m ∷ c ∷ xs ≡ sub_words (sub_coded dp d).codes
    unfolding sub_coded sub_words
    codes_are el eb = rw (el, eb, em, ec, ex) refl

    -- and what it adds is this
    pub added_is : {p xmp y : List ℤ} → xmp ≡ xMp (amplitude c) xs → p ≡ ep m xmp → y ≡ estimate → zip_with add p y ≡ added dp d
    unfolding added sub_coded reconstructed
    added_is ep ee ey = rw (ee, ey, ep, em, ec, ex) refl
