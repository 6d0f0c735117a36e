-- Both shifts, at any width: what the machine's shifts give, where a left shift loses nothing, and the range of a right shift.
use Prim.Native.Nat.{ℕ, zero, suc, ◌+◌, ◌*◌, ◌-◌, ◌/◌, ◌%◌, ◌^◌, ◌<◌, ◌≤◌}
use Rattle.std.specs.Prelude.{◌≡◌, true, false, ℤ, negsuc, ◌+ℤ◌, ◌*ℤ◌, neg_ℤ, nat_abs}
use Rattle.std.proofs.Math.Path.{refl}
use Rattle.std.proofs.Common.{sym, ap, ◌∙◌, ⊎_elim, arith, mod-lt, mod-eq_of_lt, div-add-mod', lt_of_mul-lt-mul_right, mul_assoc, div-lt_iff_lt-mul, le_of_suc-le-suc, pow_mono, pow-add, pow_pos, to_z-of_z}
use Rattle.std.proofs.Math.Nat.{div-eq_of_lt, mul-mod_left, mul-div_left, zero-mod, add-mul-mod_self_right, div-le_of_le-mul}
use Rattle.std.proofs.Math.Arith.{digits_div, digits_mod, mod-mul}
use Rattle.std.proofs.Math.IntN.{pos}
use Rattle.std.specs.Int.Signed.{lt_z, shr_z}
use Rattle.std.specs.Int.{Width, w16, w32}
use mir.Val.{SFits, bits, hbits, of_z, to_z}
use Rattle.std.proofs.Math.Facts.{to_z_pos, to_z-neg, sfits_to_z}
use mir.ValLaws.{half_full}
use Rattle.math_integers.specs.Halves.{P, N, zar, mem, apart, abs_is, le_or_lt}
use Rattle.math_integers.specs.Sums.{add_is, shr_is}
use Rattle.math_integers.specs.Ranges.{shr_fits, back}
use Rattle.standard.specs.Arithmetic.{modulo, keep, up, ◌>>◌, shr, shl}

-- ---- to the right

-- what the machine's shift gives
pub down_bits : (w : Width) (z : ℤ) (n : ℕ) → SFits w z → mem w (mem w z >> n) ≡ z >> n
down_bits w z n f = rw (back f) (back (shr_fits (2 ^ n) f))

-- a shift by all bits except the sign, or by more, leaves the sign only
pub down_all : (w : Width) (z : ℤ) (n : ℕ) → SFits w z → hbits w ≤ n → z >> n ≡ z >> hbits w
down_all w (pos a) n f h = ap pos (div-eq_of_lt (omega (arith, f.sfits, pow_mono h)) ∙ sym (div-eq_of_lt f.sfits))
down_all w (negsuc a) n f h = ap negsuc (div-eq_of_lt (omega (arith, f.sfits, pow_mono h)) ∙ sym (div-eq_of_lt f.sfits))

-- a bounded value, divided by a power of 2 or by any m and rounded down, is bounded
pub shr_in : (z : ℤ) (m B : ℕ) → 0 < m → P z ≤ m * B → N z ≤ m * B → (P (shr_z z m) ≤ B) × (N (shr_z z m) ≤ B)
shr_in z m B h p q =
    let r = shr_is z m h in
    (rw r.0 (div-le_of_le-mul m p), rw r.1 (le_of_suc-le-suc ((div-lt_iff_lt-mul h).1 (omega arith))))

pub down_in : (z : ℤ) (n B : ℕ) → P z ≤ 2 ^ n * B → N z ≤ 2 ^ n * B → (P (z >> n) ≤ B) × (N (z >> n) ≤ B)
down_in z n B = shr_in z (2 ^ n) B (pow_pos n)

-- ---- to the left

-- the low part of −y, from a number whose sum with y is a multiple of M
modulo_neg : (M X y m : ℕ) → 0 < M → X + y ≡ m * M → X % M ≡ modulo (neg_ℤ (pos y)) M
unfolding modulo
modulo_neg M X zero m h e = let x : X ≡ m * M = omega arith in rw x (mul-mod_left m M ∙ sym (zero-mod M))
modulo_neg M X (suc q) m h e =
    let d = div-add-mod' q M in
    let r = mod-lt q h in
    let t : q / M < m = lt_of_mul-lt-mul_right M (omega arith) in
    let a : m ≡ (m - suc (q / M)) + suc (q / M) = omega arith in
    let x : X ≡ (m - suc (q / M)) * M + (M - suc (q % M)) = omega (arith, ap (λ (k : ℕ). k * M) a) in
    rw x (digits_mod (m - suc (q / M)) (omega arith))

-- adding a multiple of m that makes a number positive does not change its low part
pub modulo_raised : (z : ℤ) (m k : ℕ) → 0 < m → N z ≤ k * m → modulo z m ≡ nat_abs (z +ℤ pos (k * m)) % m
unfolding modulo
modulo_raised (pos n) m k h l = sym (add-mul-mod_self_right n k m)
modulo_raised (negsuc n) m k h l =
    let y = negsuc n +ℤ pos (k * m) in
    sym (modulo_neg m (nat_abs y) (suc n) k h (omega (arith, abs_is y, add_is (negsuc n) (pos (k * m)), apart y)))

-- what the machine's shift gives
pub up_bits : (w : Width) (z : ℤ) (n : ℕ) → SFits w z → to_z w ((of_z w z * 2 ^ n) % 2 ^ bits w) ≡ up w z n
unfolding modulo keep
up_bits w (pos a) n f = refl
up_bits w (negsuc a) n f =
    let b : 2 ^ bits w - suc a + suc a ≡ 2 ^ bits w = omega (arith, half_full w f.sfits) in
    let m = 2 ^ bits w in
    ap (to_z w) (modulo_neg m ((m - suc a) * 2 ^ n) (suc a * 2 ^ n) (2 ^ n) (pow_pos (bits w)) (omega (arith, ap (λ (k : ℕ). k * 2 ^ n) b)))

-- a shift by the whole width, or by more, leaves 0
pub up_all : (w : Width) (z : ℤ) (n : ℕ) → SFits w z → bits w ≤ n → up w z n ≡ pos 0
up_all w z n f h = sym (up_bits w z n f) ∙ (ap (to_z w) gone ∙ to_z_pos w (pow_pos (hbits w)))
  where
    k : n ≡ (n - bits w) + bits w
    k = omega arith

    gone : (of_z w z * 2 ^ n) % 2 ^ bits w ≡ 0
    gone =
        rw (ap (λ (x : ℕ). 2 ^ x) k ∙ pow-add 2 (n - bits w) (bits w), ← mul_assoc)
        (mul-mod_left (of_z w z * 2 ^ (n - bits w)) (2 ^ bits w))

pub modulo_below : (z : ℤ) {m : ℕ} → 0 < m → modulo z m < m
unfolding modulo
modulo_below (pos n) h = mod-lt n h
modulo_below (negsuc n) h = omega arith

pub keep_fits : (w : Width) (z : ℤ) → SFits w (keep w z)
unfolding keep
keep_fits w z = sfits_to_z (record { fits = modulo_below z (pow_pos (bits w)) })

-- where no bit is lost
pub keep_plain : {w : Width} {z : ℤ} → SFits w z → keep w z ≡ z
unfolding keep modulo
keep_plain {w} {z = pos n} f = ap (to_z w) (mod-eq_of_lt (half_full w f.sfits)) ∙ to_z-of_z f
keep_plain {w} {z = negsuc n} f = ap (λ (x : ℕ). to_z w (2 ^ bits w - suc x)) (mod-eq_of_lt (half_full w f.sfits)) ∙ to_z-of_z f

-- ---- by a count of either sign

module _ (w : Width) (x : ℤ) where
  pub shr_left : (n : ℤ) → lt_z n (pos 0) ≡ true → shr w x n ≡ up w x (nat_abs n)
  unfolding shr
  shr_left (pos n) e = absurd (omega zar)
  shr_left (negsuc n) e = refl

  pub shr_right : (n : ℤ) → lt_z n (pos 0) ≡ false → shr w x n ≡ x >> nat_abs n
  unfolding shr
  shr_right (pos n) e = refl
  shr_right (negsuc n) e = absurd (omega zar)

  pub shl_right : (n : ℤ) → lt_z n (pos 0) ≡ true → shl w x n ≡ x >> nat_abs n
  unfolding shl
  shl_right (pos n) e = absurd (omega zar)
  shl_right (negsuc n) e = refl

  pub shl_left : (n : ℤ) → lt_z n (pos 0) ≡ false → shl w x n ≡ up w x (nat_abs n)
  unfolding shl
  shl_left (pos n) e = refl
  shl_left (negsuc n) e = absurd (omega zar)

  -- the result of either shift is in the range
  pub shr_word : (n : ℤ) → SFits w x → SFits w (shr w x n)
  unfolding shr
  shr_word (pos n) f = shr_fits (2 ^ n) f
  shr_word (negsuc n) f = keep_fits w (x *ℤ pos (2 ^ suc n))

  pub shl_word : (n : ℤ) → SFits w x → SFits w (shl w x n)
  unfolding shl
  shl_word (pos n) f = keep_fits w (x *ℤ pos (2 ^ n))
  shl_word (negsuc n) f = shr_fits (2 ^ suc n) f

  -- a left shift that loses nothing
  pub shl_exact : (n : ℕ) → SFits w (x *ℤ pos (2 ^ n)) → shl w x (pos n) ≡ x *ℤ pos (2 ^ n)
  unfolding shl
  shl_exact n f = keep_plain f

-- 0 stays 0
pub shr_zero : (w : Width) (n : ℤ) → shr w (pos 0) n ≡ pos 0
unfolding shr
shr_zero w (pos n) = let b = down_in (pos 0) n 0 (omega arith) (omega arith) in omega (zar, apart (pos 0 >> n))
shr_zero w (negsuc n) =
    let z : 0 * 2 ^ suc n ≡ 0 = omega arith in
    let f : SFits w (pos 0) = omega (zar, pow_pos (hbits w)) in
    ap (λ (k : ℕ). keep w (pos k)) z ∙ keep_plain f

-- ---- the low word of a long word, as the code extracts it: shifted left by 16, and then right by 16

-- the low part of a number scaled up by c is that of the number, scaled up
pub modulo_scaled : (z : ℤ) {m c : ℕ} → 0 < m → 0 < c → modulo (z *ℤ pos c) (m * c) ≡ modulo z m * c
unfolding modulo
modulo_scaled (pos n) {m} {c} h k = rw (mod-mul (n * c) h k, mul-div_left n k, mul-mod_left n c) (omega arith)
modulo_scaled (negsuc n) {m} {c} h k =
    let e : suc n * c ≡ suc (n * c + (c - 1)) = omega arith in
    let b : c - 1 < c = omega arith in
    let d : m ≡ m - suc (n % m) + suc (n % m) = omega (arith, mod-lt n h) in
    rw (e, mod-mul (n * c + (c - 1)) h k, digits_div n b, digits_mod n b) (omega (arith, ap (λ (x : ℕ). x * c) d))

down_top : (l : ℕ) → l < 65536 → to_z w32 (l * 65536) >> 16 ≡ to_z w16 l
down_top l h =
    ⊎_elim
    (λ (g : l ≤ 32767). rw (to_z_pos w32 {n = l * 65536} (omega arith), to_z_pos w16 {n = l} (omega arith)) (ap pos (omega arith)))
    (λ (g : 32767 < l).
    let k = 65535 - l in
    let a : l ≡ 65536 - suc k = omega arith in
    let b : l * 65536 ≡ 4294967296 - suc (k * 65536 + 65535) = omega arith in
    ap (λ (x : ℕ). to_z w32 x >> 16) b
    ∙ (ap (λ (x : ℤ). x >> 16) (to_z-neg w32 (k * 65536 + 65535) (omega arith))
    ∙ (ap negsuc (omega arith) ∙ (sym (to_z-neg w16 k (omega arith)) ∙ ap (to_z w16) (sym a)))))
    (le_or_lt l 32767)

pub low_word : (z : ℤ) → up w32 z 16 >> 16 ≡ keep w16 z
unfolding keep
low_word z =
    rw (modulo_scaled z {m = 65536} {c = 65536} (omega arith) (omega arith))
    (down_top (modulo z 65536) (modulo_below z (omega arith)))
