-- The ranges of so, of sof, of a long word of 31 bits and of what a sound state holds.
use Rattle.std.specs.Prelude.{Bool, ℤ, pos}
use Rattle.standard.specs.Arithmetic.{within}
use Rattle.standard.specs.Tables.{neg}

-- 31 bits
abbrev pub long_range : ℤ → Bool
long_range = within (neg 1073741824) (pos 1073741823)

-- the range of so and, of a sound state, of z1
abbrev pub so_range : ℤ → Bool
so_range = within (neg 16384) (pos 16380)

-- the range of sof
abbrev pub sof_range : ℤ → Bool
sof_range = within (neg 32764) (pos 32764)

-- the range of L_z2 − 32768 · z1, of a sound state
abbrev pub error_range : ℤ → Bool
error_range = within (neg 536740337) (pos 536871409)

-- and that of L_z2
abbrev pub L_z2_range : ℤ → Bool
L_z2_range = within (neg 1073611249) (pos 1073611249)
