-- What pack and unpack promise: the number and what is left in the buffer that was passed are those of the definition.
use Rattle.std.specs.Prelude.{ℕ, suc, ◌≡◌, List, ℤ}
use Rattle.std.proofs.Common.{sym, ◌∙◌}
use Rattle.standard.specs.House.{pack_refusal, unpack_refusal}
use Rattle.standard.specs.Answers as answers
use Rattle.law_refusals.specs.Calls.{pack_refused, unpack_refused}

-- pack: the codewords, the bytes that were passed as a buffer, the number answered, and the bytes left in the buffer
pub record Packs (codewords : List ℤ) (lent : List ℕ) (n : ℕ) (left : List ℕ) : Type 0 where
  pub number : n ≡ (answers.pack codewords lent).number
  pub bytes : left ≡ (answers.pack codewords lent).bytes

-- unpack: the bytes, the codewords that were passed as a buffer, the number answered, and the codewords left in the buffer
pub record Unpacks (bytes : List ℕ) (lent : List ℤ) (n : ℕ) (left : List ℤ) : Type 0 where
  pub number : n ≡ (answers.unpack bytes lent).number
  pub codewords : left ≡ (answers.unpack bytes lent).codewords

-- any two outcomes that satisfy a promise are equal
pub one_packing : (codewords : List ℤ) (lent : List ℕ) (m n : ℕ) (l r : List ℕ)
    → Packs codewords lent m l → Packs codewords lent n r → (m ≡ n) × (l ≡ r)
one_packing codewords lent m n l r p q = (p.number ∙ sym q.number, p.bytes ∙ sym q.bytes)

pub one_unpacking : (bytes : List ℕ) (lent : List ℤ) (m n : ℕ) (l r : List ℤ)
    → Unpacks bytes lent m l → Unpacks bytes lent n r → (m ≡ n) × (l ≡ r)
one_unpacking bytes lent m n l r p q = (p.number ∙ sym q.number, p.codewords ∙ sym q.codewords)

-- a refusal answers its number, and leaves the buffer as it was
pub packing_refused : (codewords : List ℤ) (lent : List ℕ) (n m : ℕ) (left : List ℕ)
    → pack_refusal codewords lent ≡ suc n → Packs codewords lent m left → (m ≡ suc n) × (left ≡ lent)
packing_refused codewords lent n m left h p =
    let r = pack_refused codewords lent n h in
    (rw r at p.number, rw r at p.bytes)

pub unpacking_refused : (bytes : List ℕ) (lent : List ℤ) (n m : ℕ) (left : List ℤ)
    → unpack_refusal bytes lent ≡ suc n → Unpacks bytes lent m left → (m ≡ suc n) × (left ≡ lent)
unpacking_refused bytes lent n m left h p =
    let r = unpack_refused bytes lent n h in
    (rw r at p.number, rw r at p.codewords)
