-- The words and the bytes of a file, by their indexes; and what is written is read back.
use Rattle.std.specs.Prelude.{ℕ, zero, suc, ◌+◌, ◌*◌, ◌-◌, ◌/◌, ◌%◌, ◌^◌, ◌≤◌, ◌<◌, ◌≡◌, refl, true, List, [], ◌∷◌, ltb, ℤ, pos, negsuc, ◌-ℤ◌, length, get_or}
use Rattle.std.proofs.Common.{ap, ap₂, ◌∙◌, mod-eq_of_lt, arith, ltb-true}
use Rattle.std.specs.Int.{Width, w16}
use mir.Val.{Fits, SFits, bits, of_z, to_z}
use Rattle.std.proofs.Math.Facts.{to_z-neg, of_z-to_z, sfits_to_z}
use mir.ValLaws.{half_full}
use Rattle.math_integers.specs.Halves.{zar}
use Rattle.math_integers.specs.Sums.{minus_is}
use Rattle.math_integers.specs.Ranges.{back}
use Rattle.math_lists.specs.Every.{every, every_cons}
use Rattle.standard.specs.Arithmetic.{modulo}
use Rattle.standard.specs.Files.{file_words, file_bytes}
use Rattle.law_arithmetic.specs.Within.{word, word_is}

-- ---- by their indexes

-- word i is in the two bytes from index 2 * i on
pub word_at : (bytes : List ℕ) (i : ℕ) → 2 * i + 1 < length bytes
    → get_or (file_words bytes) i (pos 0) ≡ to_z w16 (get_or bytes (2 * i) 0 + 256 * get_or bytes (2 * i + 1) 0)
unfolding file_words
word_at [] i h = absurd (omega arith)
word_at (low ∷ []) i h = absurd (omega arith)
word_at (low ∷ high ∷ bytes) zero h = refl
word_at (low ∷ high ∷ bytes) (suc i) h =
    let e : 2 * suc i ≡ suc (suc (2 * i)) = omega arith in
    let f : 2 * suc i + 1 ≡ suc (suc (2 * i + 1)) = omega arith in
    rw (f, e) (word_at bytes i (omega arith))

-- two bytes for each word
pub file_bytes_length : (words : List ℤ) → length (file_bytes words) ≡ 2 * length words
unfolding file_bytes
file_bytes_length [] = refl
file_bytes_length (w ∷ words) = omega (arith, file_bytes_length words)

-- the two bytes of word i are at 2 * i and 2 * i + 1, the low one first
pub bytes_at : (words : List ℤ) (i : ℕ) → i < length words
    → let n = modulo (get_or words i (pos 0)) 65536 in
    (get_or (file_bytes words) (2 * i) 0 ≡ n % 256) × (get_or (file_bytes words) (2 * i + 1) 0 ≡ n / 256)
unfolding file_bytes
bytes_at [] i h = absurd (omega arith)
bytes_at (w ∷ words) zero h = (refl, refl)
bytes_at (w ∷ words) (suc i) h =
    let e : 2 * suc i ≡ suc (suc (2 * i)) = omega arith in
    let f : 2 * suc i + 1 ≡ suc (suc (2 * i + 1)) = omega arith in
    rw (f, e) (bytes_at words i (omega arith))

-- ---- a word and its bits

-- from 32768 on, the bits stand for the number that is 65536 less
pub word_negative : (n : ℕ) → 32768 ≤ n → n < 65536 → to_z w16 n ≡ pos n -ℤ pos 65536
word_negative n l h =
    let k = 65535 - n in
    let e : n ≡ 65536 - suc k = omega arith in
    ap (to_z w16) e ∙ (to_z-neg w16 k (omega arith) ∙ omega (zar, minus_is (pos n) (pos 65536)))

-- the low bits of a number that fits are its bits
pub modulo_bits : {w : Width} {z : ℤ} → SFits w z → modulo z (2 ^ bits w) ≡ of_z w z
unfolding modulo
modulo_bits {w} {z = pos n} f = mod-eq_of_lt (half_full w f.sfits)
modulo_bits {w} {z = negsuc n} f = ap (λ (x : ℕ). 2 ^ bits w - suc x) (mod-eq_of_lt (half_full w f.sfits))

-- ---- there and back

-- words that are written are read back as they were
pub read_back : (ws : List ℤ) → every word ws ≡ true → file_words (file_bytes ws) ≡ ws
unfolding file_words file_bytes
read_back [] e = refl
read_back (w ∷ ws) e =
    let (t, u) = (every_cons word w ws).0 e in
    let f = word_is w t in
    let n = modulo w 65536 in
    let d : n % 256 + 256 * (n / 256) ≡ n = omega arith in
    ap₂ ◌∷◌ (ap (to_z w16) (d ∙ modulo_bits f) ∙ back f) (read_back ws u)

-- an even number of bytes that is read is written back as it was
pub written_back : (bs : List ℕ) → every (λ b. ltb b 256) bs ≡ true → length bs % 2 ≡ 0 → file_bytes (file_words bs) ≡ bs
unfolding file_words file_bytes
written_back [] e l = refl
written_back (low ∷ []) e l = absurd (omega arith)
written_back (low ∷ high ∷ bs) e l =
    let (t, u) = (every_cons _ low (high ∷ bs)).0 e in
    let (v, w) = (every_cons _ high bs).0 u in
    let p = ltb-true low 256 t in
    let q = ltb-true high 256 v in
    let n = low + 256 * high in
    let f : Fits w16 n = record { fits = omega arith } in
    let d : modulo (to_z w16 n) 65536 ≡ n = modulo_bits (sfits_to_z f) ∙ of_z-to_z f in
    ap₂ ◌∷◌ (ap (λ x. x % 256) d ∙ omega arith) (ap₂ ◌∷◌ (ap (λ x. x / 256) d ∙ omega arith) (written_back bs w (omega arith)))
