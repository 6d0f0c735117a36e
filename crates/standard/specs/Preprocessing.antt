-- 4.2.1 to 4.2.3: the pre-processing section.
use Rattle.std.specs.Prelude.{List, map, ℤ, pos}
use Rattle.std.specs.Int.{w32}
use Rattle.standard.specs.Arithmetic.{◌>>◌, ◌<<◌, low, up, add, sub, mult_r, L_add, L_sub, L_mult}
use Rattle.standard.specs.Tables.{neg}

-- ---- 4.2.1 Downscaling of the input signal. A sample has 13 valid bits at the left; the low 3 are ignored

unfoldable pub downscaled : List ℤ → List ℤ
downscaled = map (λ sop. (sop >> 3) << 2)

-- ---- 4.2.2 Offset compensation

-- what is kept in memory for the next sample and the next frame
pub record Offset : Type 0 where
  pub z1 : ℤ
  pub L_z2 : ℤ

-- the 31 by 16 bits multiplication of L_z2 by 32735, added to L_s2
unfoldable pub recursive : ℤ → ℤ → ℤ
recursive L_z2 L_s2 =
    let msp = low (L_z2 >> 15) in
    let lsp = low (L_sub L_z2 (up w32 msp 15)) in
    let temp = mult_r lsp (pos 32735) in
    L_add (L_mult msp (pos 32735) >> 1) (L_add L_s2 temp)

-- one sample so[k]: what is kept, and sof[k]
unfoldable pub offset : Offset → ℤ → Offset × ℤ
offset m so =
    let s1 = sub so m.z1 in
    let L_z2 = recursive m.L_z2 (up w32 s1 15) in
    (record { z1 = so; L_z2 = L_z2 }, low (L_add L_z2 (pos 16384) >> 15))

-- ---- 4.2.3 Pre-emphasis

-- one sample sof[k], mp being the one before it: the next mp, and s[k]
unfoldable pub emphasis : ℤ → ℤ → ℤ × ℤ
emphasis mp sof = (sof, add sof (mult_r mp (neg 28180)))
