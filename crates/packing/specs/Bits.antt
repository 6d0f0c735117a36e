-- A number as its bits, the lowest first, there and back.
use Rattle.std.specs.Prelude.{◌≡◌, refl, Bool, true, List, [], ◌∷◌, ◌++◌, ℕ, zero, suc, ◌+◌, ◌*◌, ◌/◌, ◌%◌, ◌^◌, ◌<◌, ◌≤◌, ltb, length, replicate}
use Rattle.std.proofs.Math.Bool.{and-eq-true_iff}
use Rattle.std.proofs.Math.Nat.{pow-succ', mod-add-div}
use Rattle.std.proofs.Common.{mod-lt, mul_assoc, mul-suc, mul-le-mul_left, arith, pow-add, pow_pos, pow_mono, ltb-true, lt-ltb}
use Rattle.math_lists.specs.Every.{every}
use Rattle.standard.specs.Packed.{binary, value}

-- below 2
abbrev pub is_bit : ℕ → Bool
is_bit b = ltb b 2

-- each is below 2
abbrev pub are_bits : List ℕ → Bool
are_bits = every is_bit

-- there are as many bits as the width says
pub binary_length : (w n : ℕ) → length (binary w n) ≡ w
unfolding binary
binary_length zero n = refl
binary_length (suc w) n = rw (binary_length w (n / 2))

-- and they are bits
pub binary_are : (w n : ℕ) → are_bits (binary w n) ≡ true
unfolding binary every
binary_are zero n = refl
binary_are (suc w) n = rw (lt-ltb (n % 2) 2 (omega arith)) (binary_are w (n / 2))

-- a number that fits the width is the value of its bits
pub value_binary : (w n : ℕ) → n < 2 ^ w → value (binary w n) ≡ n
unfolding binary value
value_binary zero n h = omega arith
value_binary (suc w) n h = rw (value_binary w (n / 2) (omega arith)) (omega arith)

-- the value of k bits is below 2 to the k
pub value_below : (b : List ℕ) → are_bits b ≡ true → value b < 2 ^ length b
unfolding value every
value_below [] e = omega arith
value_below (x ∷ xs) e =
    let t = (and-eq-true_iff (ltb x 2) (are_bits xs)).0 e in
    omega (arith, ltb-true x 2 t.0, value_below xs t.1, pow-succ' 2 (length xs))

-- and are the bits of that value
pub binary_value : (b : List ℕ) → are_bits b ≡ true → binary (length b) (value b) ≡ b
unfolding binary value every
binary_value [] e = refl
binary_value (x ∷ xs) e =
    let t = (and-eq-true_iff (ltb x 2) (are_bits xs)).0 e in
    let l = ltb-true x 2 t.0 in
    let low : (x + 2 * value xs) % 2 ≡ x = omega arith in
    let high : (x + 2 * value xs) / 2 ≡ value xs = omega arith in
    rw (low, high, binary_value xs t.1)

-- a way to write a number in w bits and to read it back: the lowest bit first, the highest first, or any other
pub record Order : Type 0 where
  pub write : ℕ → ℕ → List ℕ
  pub read : List ℕ → ℕ
  pub write_length : (w n : ℕ) → length (write w n) ≡ w
  pub write_bits : (w n : ℕ) → are_bits (write w n) ≡ true
  pub read_write : (w n : ℕ) → n < 2 ^ w → read (write w n) ≡ n
  pub read_below : (b : List ℕ) → are_bits b ≡ true → read b < 2 ^ length b
  pub write_read : (b : List ℕ) → are_bits b ≡ true → write (length b) (read b) ≡ b

-- the lowest bit first
abbrev pub low_first : Order
low_first =
    record {
      write = binary;
      read = value;
      write_length = binary_length;
      write_bits = binary_are;
      read_write = value_binary;
      read_below = value_below;
      write_read = binary_value;
    }

-- a number of h bits is also one of k bits, where h is at most k
pub more_bits : (h k n : ℕ) → n < 2 ^ h → h ≤ k → n < 2 ^ k
more_bits h k n l m = omega (arith, pow_mono {i = h} m)

-- ---- two numbers side by side: a in the low m bits, b in the n bits above them

-- a number of n bits above one of m bits is one of m + n bits
pub join_below : (m n a b : ℕ) → a < 2 ^ m → b < 2 ^ n → a + 2 ^ m * b < 2 ^ (m + n)
join_below m n a b h k =
    let t : 2 ^ m * suc b ≤ 2 ^ m * 2 ^ n = mul-le-mul_left (2 ^ m) k in
    rw (pow-add 2 m n) (omega (arith, mul-suc (2 ^ m) b))

-- it has the bits of both
pub binary_join : (m n a b : ℕ) → a < 2 ^ m → binary (m + n) (a + 2 ^ m * b) ≡ binary m a ++ binary n b
unfolding binary
binary_join zero n a b h =
    let e : a + 2 ^ 0 * b ≡ b = omega arith in
    let z : zero + n ≡ n = omega arith in
    rw (z, e)
binary_join (suc m) n a b h =
    let p : 2 ^ suc m * b ≡ 2 * (2 ^ m * b) = rw (pow-succ' 2 m, mul_assoc) in
    let s : suc m + n ≡ suc (m + n) = omega arith in
    let low : (a + 2 ^ suc m * b) % 2 ≡ a % 2 = rw p (omega arith) in
    let high : (a + 2 ^ suc m * b) / 2 ≡ a / 2 + 2 ^ m * b = rw p (omega arith) in
    rw (s, low, high, binary_join m n (a / 2) b (omega (arith, pow-succ' 2 m)))

-- so the bits of a number are those of its remainder and then those of its quotient
pub binary_split : (m n x : ℕ) → binary (m + n) x ≡ binary m (x % 2 ^ m) ++ binary n (x / 2 ^ m)
binary_split m n x = rw (mod-add-div x (2 ^ m)) at (binary_join m n (x % 2 ^ m) (x / 2 ^ m) (mod-lt x (pow_pos m)))

-- 0 has only zeros
pub binary_zero : (w : ℕ) → binary w 0 ≡ replicate w 0
unfolding binary
binary_zero zero = refl
binary_zero (suc w) = rw (binary_zero w)
