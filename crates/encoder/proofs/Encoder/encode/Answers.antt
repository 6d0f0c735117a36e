-- One return for each refusal, in the order of the numbers: the tests before it show that exactly this number is due. Past
-- the three tests `frame` may be called, and its promise is what the definition answers.
use mathlib.Core.Path.{◌≡◌, sym, ◌∙◌}
use mathlib.Core.List.{List}
use Prim.Native.Nat.{ℕ, suc}
use lib.IntN.{ℤ}
use borrow.Author.Rules.{rules}
use Rattle.std.specs.Prelude.{Err}
use Rattle.standard.specs.House.{encode_refusal}
use Rattle.law_refusals.specs.Calls.{encode_exactly}
use Rattle.refusals.specs.Numbers.{refusal_of}
use Rattle.refusals.specs.declared.Refused.{Refused}
use Rattle.encoder.specs.declared.Encoder.{Encoder}
use Rattle.encoder.specs.Promise.{coder, Encodes, refused, refusal_keeps, done_keeps}
use Rattle.encoder.proofs.Encoder.encode.Goals as goal

-- a refusal with its number keeps the promise
refuses : (e : Encoder) (samples lent : List ℤ) (n : ℕ) (r : Refused Encoder)
    → encode_refusal (coder e) samples lent ≡ suc n → r ≡ record { refusal = refusal_of (suc n); state = e }
    → Encodes e samples lent (Err r) lent
unfolding refused
refuses e samples lent n r h p = rw p (refusal_keeps e samples lent n h)

pub returns-then-samples-ne160 : goal.returns-then-samples-ne160
unfolding refusal_of
returns-then-samples-ne160 c = refuses _ _ _ 0 _ ((encode_exactly _ _ _).first c.if-samples-ne160.true) c.with.ensures

pub returns-then-codewords-ne76 : goal.returns-then-codewords-ne76
unfolding refusal_of
returns-then-codewords-ne76 c =
    refuses _ _ _ 1 _ ((encode_exactly _ _ _).second c.if-samples-ne160.false c.if-codewords-ne76.true) c.with-then-codewords-ne76.ensures

pub returns-then-not-sound : goal.returns-then-not-sound
unfolding refusal_of
returns-then-not-sound c =
    let unsound = sym c.sound.ensures ∙ c.if-not-sound.true in
    refuses _ _ _ 2 _ ((encode_exactly _ _ _).third c.if-samples-ne160.false c.if-codewords-ne76.false unsound)
    c.with-then-not-sound.ensures

pub frame-requires : goal.frame-requires
frame-requires c = (search rules, (search rules, sym c.sound.ensures ∙ c.if-not-sound.false))

pub returns : goal.returns
returns c =
    -- past the three tests
    let passed = sym c.sound.ensures ∙ c.if-not-sound.false in
    let f = c.frame.ensures in
    done_keeps _ _ _ ((encode_exactly _ _ _).allows c.if-samples-ne160.false c.if-codewords-ne76.false passed) _ _ f.state f.ending
    f.marks f.codewords
