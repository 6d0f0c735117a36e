-- House rules, 'Packing' and 'Refusals': of what they do not refuse, pack and unpack each undo the other, in the definitions
-- and in any outcome that the promises allow.
use Rattle.std.specs.Prelude.{◌≡◌, true, List, ℕ, ltb, ℤ, length}
use Rattle.std.proofs.Common.{sym, ap, ◌∙◌}
use Rattle.math_lists.specs.Every.{every}
use Rattle.standard.specs.Packed.{packed, unpacked}
use Rattle.standard.specs.House.{pack_refusal, unpack_refusal}
use Rattle.standard.specs.Answers.{pack, unpack}
use Rattle.law_refusals.specs.Calls.{pack_exactly, pack_number, pack_done, unpack_exactly, unpack_number, unpack_done}
use Rattle.packing.specs.RoundTrip.{packed_length, packed_spare, unpack_packed, unpacked_length, unpacked_fits, pack_unpacked}
use Rattle.packing.specs.Promise.{Packs, Unpacks}

-- a frame that was packed is unpacked as it was
pub unpack_pack : (c w : List ℤ) (b : List ℕ)
    → pack_refusal c b ≡ 0 → length w ≡ 76 → unpack (pack c b).bytes w ≡ record { number = 0; codewords = c }
unpack_pack c w b e g =
    let a = (pack_exactly c b).allowed e in
    let r = (unpack_exactly (packed c) w).allows g (packed_length c) (packed_spare c a.0) in
    rw (pack_done c b e, unpack_done (packed c) w r, unpack_packed c a.0 a.2)

-- bytes that were unpacked are packed as they were
pub pack_unpack : (b b' : List ℕ) (w : List ℤ)
    → unpack_refusal b w ≡ 0 → every (λ x. ltb x 256) b ≡ true → length b' ≡ 33
    → pack (unpack b w).codewords b' ≡ record { number = 0; bytes = b }
pack_unpack b b' w e f g =
    let a = (unpack_exactly b w).allowed e in
    let r = (pack_exactly (unpacked b) b').allows (unpacked_length b) g (unpacked_fits b a.1) in
    rw (unpack_done b w e, pack_done (unpacked b) b' r, pack_unpacked b a.1 f a.2)

-- ---- over the promises

-- a pack that answers 0 refused nothing
packs_allowed : (c : List ℤ) (b : List ℕ) {left : List ℕ} → Packs c b 0 left → pack_refusal c b ≡ 0
packs_allowed c b p = sym (pack_number c b) ∙ sym p.number

-- nor did an unpack
unpacks_allowed : (b : List ℕ) (w : List ℤ) {left : List ℤ} → Unpacks b w 0 left → unpack_refusal b w ≡ 0
unpacks_allowed b w p = sym (unpack_number b w) ∙ sym p.number

-- where pack answered 0, any unpack of the bytes it left, into 76 codewords, answers 0 and gives back the codewords packed
pub unpack_undoes : (c w : List ℤ) (b left : List ℕ) → Packs c b 0 left → length w ≡ 76
    → (n : ℕ) (words : List ℤ) → Unpacks left w n words → (n ≡ 0) × (words ≡ c)
unpack_undoes c w b left p g n words q =
    let e = ap (λ (l : List ℕ). unpack l w) p.bytes ∙ unpack_pack c w b (packs_allowed c b p) g in
    (rw e at q.number, rw e at q.codewords)

-- where unpack answered 0, any pack of the codewords it left, into 33 bytes, answers 0 and gives back the bytes unpacked
pub pack_undoes : (b b' : List ℕ) (w left : List ℤ) → Unpacks b w 0 left → every (λ x. ltb x 256) b ≡ true → length b' ≡ 33
    → (n : ℕ) (bytes : List ℕ) → Packs left b' n bytes → (n ≡ 0) × (bytes ≡ b)
pack_undoes b b' w left p f g n bytes q =
    let e = ap (λ (l : List ℤ). pack l b') p.codewords ∙ pack_unpack b b' w (unpacks_allowed b w p) f g in
    (rw e at q.number, rw e at q.bytes)
