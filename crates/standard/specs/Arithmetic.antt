-- 4.1: the arithmetic operations, on integers. A word has 16 bits and a long word has 32 bits, both in two's complement. Their widths are
-- w16 and w32: `bits` of them is 16 and 32, `hbits` is 15 and 31. A width w holds the numbers from −2 ^ hbits w to 2 ^ hbits w − 1.
use Rattle.std.specs.Prelude.{ℕ, suc, ◌*◌, ◌-◌, ◌/◌, ◌%◌, ◌^◌, min, Bool, ◌&&◌, leb, eqb, ℤ, pos, negsuc, ◌+ℤ◌, ◌-ℤ◌, ◌*ℤ◌, nat_abs}
use mathlib.Core.List.{List, map, zip_with, foldl}
use Rattle.std.specs.Int.Signed.{shr_z, le_z}
use Rattle.std.specs.Int.{Width, w16, w32}
use mir.Val.{bits, hbits, to_z}
use Rattle.math_lists.specs.First.{first}
use Rattle.math_lists.specs.Best.{largest}

-- "overflow control and saturation": z, or the end of the range that z has passed
unfoldable pub clip : Width → ℤ → ℤ
clip w (pos n) = pos (min n (2 ^ hbits w - 1))
clip w (negsuc n) = negsuc (min n (2 ^ hbits w - 1))

-- z modulo m, from 0 to m − 1
unfoldable pub modulo : ℤ → ℕ → ℕ
modulo (pos n) m = n % m
modulo (negsuc n) m = m - suc (n % m)

-- the low bits of z, read as a number of width w. At w16 it is "var2 = L_var1: extract the 16 LSB bits"
unfoldable pub keep : Width → ℤ → ℤ
keep w z = to_z w (modulo z (2 ^ bits w))

-- the low word
abbrev pub low : ℤ → ℤ
low = keep w16

-- n bits to the left with zero fill, for n ≥ 0: the low bits are kept
abbrev pub up : Width → ℤ → ℕ → ℤ
up w z n = keep w (z *ℤ pos (2 ^ n))

-- the same of a word, as the standard writes it
infixl 60 ◌<<◌
abbrev pub ◌<<◌ : ℤ → ℕ → ℤ
z << n = up w16 z n

-- n bits to the right with sign extension, for n ≥ 0: rounded down
infixl 60 ◌>>◌
abbrev pub ◌>>◌ : ℤ → ℕ → ℤ
z >> n = shr_z z (2 ^ n)

-- z << n and z >> n of a number of width w; "if n is less than 0, this operation becomes" the other one, by −n
unfoldable pub shl : Width → ℤ → ℤ → ℤ
shl w z (pos n) = up w z n
shl w z (negsuc n) = z >> (suc n)

unfoldable pub shr : Width → ℤ → ℤ → ℤ
shr w z (pos n) = z >> n
shr w z (negsuc n) = up w z (suc n)

-- z is 0
abbrev pub is_zero : ℤ → Bool
is_zero z = eqb (nat_abs z) 0

-- z lies in least to most, both included
abbrev pub within : ℤ → ℤ → ℤ → Bool
within least most z = le_z least z && le_z z most

-- a sum and a difference at width w, which saturate
unfoldable pub plus : Width → ℤ → ℤ → ℤ
plus w a b = clip w (a +ℤ b)

unfoldable pub minus : Width → ℤ → ℤ → ℤ
minus w a b = clip w (a -ℤ b)

-- of words
abbrev pub add : ℤ → ℤ → ℤ
add = plus w16

abbrev pub sub : ℤ → ℤ → ℤ
sub = minus w16

-- the product divided by 32768, rounded down. Of two words only −32768 times −32768 needs the clip; it gives 32767
unfoldable pub mult : ℤ → ℤ → ℤ
mult a b = clip w16 ((a *ℤ b) >> 15)

-- as mult, but 16384 is added to the product first
unfoldable pub mult_r : ℤ → ℤ → ℤ
mult_r a b = clip w16 ((a *ℤ b +ℤ pos 16384) >> 15)

-- the absolute value; of −32768 it is 32767
unfoldable pub abs : ℤ → ℤ
abs a = clip w16 (pos (nat_abs a))

-- the fraction n / d in 15 bits, truncated; n = d gives 32767. House rule: a zero numerator gives 0 for every divisor.
-- The standard asks for d ≥ n > 0. Outside of that it is 32767 for n > d > 0, as the standard's loop gives, and 0 for a negative n or for
-- a d that is not positive
unfoldable pub div : ℤ → ℤ → ℤ
div (pos n) (pos d) = clip w16 (pos (n * 32768 / d))
div (pos n) (negsuc d) = pos 0
div (negsuc n) d = pos 0

-- twice the product; −32768 times −32768, which "does not occur in the algorithm", clips
unfoldable pub L_mult : ℤ → ℤ → ℤ
L_mult a b = clip w32 (a *ℤ b +ℤ a *ℤ b)

-- the sum and the difference of long words
abbrev pub L_add : ℤ → ℤ → ℤ
L_add = plus w32

abbrev pub L_sub : ℤ → ℤ → ℤ
L_sub = minus w32

-- the left shifts needed to bring z to 1073741824 or above; where z is negative, to −1073741824 or below; 31 where z is 0
unfoldable pub norm : ℤ → ℤ
norm z = pos (first (λ n. leb 1073741824 (nat_abs z * 2 ^ n)) 31 0)

-- ---- over a list

-- the largest absolute value: smax in 4.2.4, dmax in 4.2.11, xmax in 4.2.15
unfoldable pub peak : List ℤ → ℤ
peak xs = largest (map abs xs)

-- the sum of the products (by L_mult) of two lists, as many as the shorter list has elements; it starts from a given value
unfoldable pub L_sum : ℤ → List ℤ → List ℤ → ℤ
L_sum start a b = foldl L_add start (zip_with L_mult a b)

-- the sum of the squares of a list whose elements are shifted right by n first: L_power in 4.2.11, the energy of a grid in 4.2.14
unfoldable pub L_squares : ℕ → List ℤ → ℤ
L_squares n xs =
    let wt = map (λ x. x >> n) xs in
    L_sum (pos 0) wt wt
