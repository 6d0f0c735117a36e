-- House rules, 'Marks', tried by computation where the lag is 40 and its gain code is 0. These two codewords do not tell whether
-- anything was measured; the mark does.
use Rattle.std.specs.Prelude.{◌≡◌, refl, List, ◌++◌, ℤ, pos, replicate}
use Rattle.std.specs.Int.{w32}
use Rattle.standard.specs.Arithmetic.{shr, sub}
use Rattle.standard.specs.Tables.{neg}
use Rattle.standard.specs.Frame.{Subframe}
use Rattle.standard.specs.LongTerm.{scal}
use Rattle.standard.specs.Coder.{Subcoded, sub_coded}
use Rattle.standard.specs.House.{Mark, mark, rule, found}
use Rattle.standard.specs.Easy.{zeros, pulse}
use Rattle.standard.specs.Opened.{opened}

-- a history of zeros, except for one pulse 40 samples back
abbrev pub forty_back : ℤ → List ℤ
forty_back x = zeros 80 ++ pulse x

-- the sub-frame of a pulse in d[0..39] after one in the history
abbrev pub after : ℤ → ℤ → Subcoded
after past now = sub_coded (forty_back past) (pulse now)

-- its lag, its gain code and its mark
abbrev pub shown : Subcoded → ℤ × ℤ × Mark
shown s = (s.codes.Nc, s.codes.bc, mark s)

-- the 17 codewords of a silent sub-frame
abbrev pub of_silence : Subframe
of_silence = record { Nc = pos 40; bc = pos 0; Mc = pos 0; xmaxc = pos 0; xMc = replicate 13 (pos 4) }

-- L_max of the search, and after its rescaling by 6 less the scale of d
abbrev pub sums : List ℤ → Subcoded → ℤ × ℤ
sums d s = (s.search.sum, shr w32 s.search.sum (sub (pos 6) (scal d)))

pub record Forty : Type 0 where
  -- a true peak at 40 with a weak gain: its sum is positive, before the rescaling and after it
  pub weak : shown (after (pos 20000) (pos 1000)) ≡ (pos 40, pos 0, found)
  pub weak_sums : sums (pulse (pos 1000)) (after (pos 20000) (pos 1000)) ≡ (pos 20000000, pos 625000)
  -- a faint peak: its sum is positive, and the rescaling makes it 0. Its codewords are those of silence
  pub faint : mark (after (pos 1) (pos 1)) ≡ found
  pub faint_codes : (after (pos 1) (pos 1)).codes ≡ of_silence
  pub faint_sums : sums (pulse (pos 1)) (after (pos 1) (pos 1)) ≡ (pos 2, pos 0)
  -- no peak: the sum at 40 is below 0, the other sums are 0. The codewords are the same
  pub none : mark (after (neg 1) (pos 1)) ≡ rule
  pub none_codes : (after (neg 1) (pos 1)).codes ≡ of_silence
  pub none_sums : sums (pulse (pos 1)) (after (neg 1) (pos 1)) ≡ (pos 0, pos 0)

pub forty : Forty
unfolding opened
forty = record {
  weak = refl;
  weak_sums = refl;
  faint = refl;
  faint_codes = refl;
  faint_sums = refl;
  none = refl;
  none_codes = refl;
  none_sums = refl;
}
