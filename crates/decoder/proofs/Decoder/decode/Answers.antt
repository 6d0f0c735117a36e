-- One return for each refusal, in the order of the numbers: the tests before it show that exactly this number is due. Past
-- the three tests `frame` may be called, and its promise is what the definition answers.
use mathlib.Core.Path.{◌≡◌, sym, ◌∙◌}
use mathlib.Core.List.{List}
use Prim.Native.Nat.{ℕ, suc}
use lib.IntN.{ℤ}
use borrow.Author.Rules.{rules}
use Rattle.std.specs.Prelude.{Err}
use Rattle.standard.specs.House.{sound_decoder, decode_refusal}
use Rattle.law_refusals.specs.Calls.{decode_exactly}
use Rattle.refusals.specs.Numbers.{refusal_of}
use Rattle.refusals.specs.declared.Refused.{Refused}
use Rattle.decoder.specs.declared.Decoder.{Decoder}
use Rattle.decoder.specs.Promise.{memory, Decodes, refused, refusal_keeps, done_keeps}
use Rattle.decoder.proofs.Decoder.decode.Goals as goal

-- a refusal with its number keeps the promise
refuses : (d : Decoder) (codewords lent : List ℤ) (n : ℕ) (r : Refused Decoder)
    → decode_refusal (memory d) codewords lent ≡ suc n → r ≡ record { refusal = refusal_of (suc n); state = d }
    → Decodes d codewords lent (Err r) lent
unfolding refused
refuses d codewords lent n r h p = rw p (refusal_keeps d codewords lent n h)

pub returns-then-samples-ne160 : goal.returns-then-samples-ne160
unfolding refusal_of
returns-then-samples-ne160 c = refuses _ _ _ 0 _ ((decode_exactly _ _ _).first c.if-samples-ne160.true) c.with.ensures

pub returns-then-codewords-ne76 : goal.returns-then-codewords-ne76
unfolding refusal_of
returns-then-codewords-ne76 c =
    refuses _ _ _ 1 _ ((decode_exactly _ _ _).second c.if-samples-ne160.false c.if-codewords-ne76.true) c.with-then-codewords-ne76.ensures

pub returns-then-not-sound : goal.returns-then-not-sound
unfolding refusal_of
returns-then-not-sound c =
    let unsound = sym c.sound.ensures ∙ c.if-not-sound.true in
    refuses _ _ _ 2 _ ((decode_exactly _ _ _).third c.if-samples-ne160.false c.if-codewords-ne76.false unsound)
    c.with-then-not-sound.ensures

pub frame-requires : goal.frame-requires
unfolding memory sound_decoder
frame-requires c = (search rules, (search rules, sym c.sound.ensures ∙ c.if-not-sound.false))

pub returns : goal.returns
returns c =
    -- past the three tests
    let passed = sym c.sound.ensures ∙ c.if-not-sound.false in
    let f = c.frame.ensures in
    done_keeps _ _ _ _ _ ((decode_exactly _ _ _).allows c.if-samples-ne160.false c.if-codewords-ne76.false passed) f.state f.samples
