-- What the struct `Kept` stands for, and that pre-emphasis gives words.
use Rattle.std.specs.Prelude.{◌≡◌, true, List, ℤ}
use Rattle.pre_processing.specs.declared.Kept.{Kept}
use Rattle.math_lists.specs.Scan.{run, run_every}
use Rattle.math_lists.specs.Every.{every}
use Rattle.standard.specs.Preprocessing as standard
use Rattle.standard.specs.Preprocessing.{emphasis}
use Rattle.law_arithmetic.specs.Within.{word, word_yes}
use Rattle.law_arithmetic.specs.Clip.{plus_fits}
use Rattle.std.specs.Int.{w16}

-- z1 and L_z2 as the standard has them
unfoldable pub kept : Kept → standard.Offset
kept m = record { z1 = m.z1; L_z2 = m.l_z2 }

-- 4.2.3 gives words
pub emphasis_words : (mp : ℤ) (sof : List ℤ) → every word (run emphasis mp sof).1 ≡ true
unfolding emphasis
emphasis_words mp sof = run_every emphasis word (λ mp sof. word_yes _ (plus_fits w16 sof _)) mp sof
