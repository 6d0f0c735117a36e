-- The samples are the words of the bytes, so encode's promise is that of the frame. One law of `Promise` for each return: the
-- limit is reached, encode refused, or the lines of what it answered are the text.
use mathlib.Core.Path.{◌≡◌, refl, sym, ap, subst, ◌∙◌}
use native.Mathlib.Omega.{arith}
use mathlib.Core.List.{List}
use lib.IntN.{ℤ, pos}
use lib.ListN.{length, replicate}
use borrow.Author.Rules.{rules}
use Rattle.std.specs.Prelude.{Ok, Err}
use Rattle.standard.specs.Files.{file_words}
use Rattle.refusals.specs.Numbers.{number_of, refused_above}
use Rattle.encoder.specs.Promise.{Answer, Encodes, state, ending, marks}
use Rattle.list_frames.specs.Promise.{limit_keeps, refused_keeps, done_keeps}
use Rattle.list_lines.specs.Told.{told_ending, told_four}
use Rattle.list_frames.proofs.Lister.listed.Goals as goal
use Rattle.list_frames.proofs.Lister.listed.Goals.{After-encode}

pub returns-then-self-ge1000000 : goal.returns-then-self-ge1000000
returns-then-self-ge1000000 c = limit_keeps c.args.self c.args.bytes.now (omega arith) c.nothing.result c.nothing.ensures.state
    c.nothing.ensures.lines

-- what encode answers for the frame
module _ (t : After-encode) where
  -- the codewords, as they are passed
  abbrev empty : List ℤ
  empty = replicate 76 (pos 0)

  sop_size : length t.samples.result ≡ 160
  sop_size = search rules

  sop_length : length (file_words t.args.bytes.now) ≡ 160
  sop_length = ap length (sym t.samples.ensures) ∙ sop_size

  -- of the samples, so of the bytes
  of_bytes : (a : Answer) (left : List ℤ) → Encodes t.args.self.encoder t.samples.result empty a left
      → Encodes t.args.self.encoder (file_words t.args.bytes.now) empty a left
  of_bytes a left p = subst (λ (x : List ℤ). Encodes t.args.self.encoder x empty a left) t.samples.ensures p

pub returns-in_default : goal.returns-in_default
unfolding number_of
returns-in_default c =
    let t = (goal.at.returns-in_default c).After-encode in
    let r = c.in_default.field-0 in
    refused_keeps c.args.self c.args.bytes.now (empty t) _ (Err r) (of_bytes t (Err r) _ c.in_default.ensures) (sop_length t) refl
    (λ n. omega (arith, refused_above r.refusal)) c.nothing-in_default.result c.nothing-in_default.ensures.state
    c.nothing-in_default.ensures.lines

pub returns : goal.returns
unfolding number_of state ending marks told_ending
returns c =
    let t = (goal.at.returns c).After-encode in
    let coded = c.in-Ok.coded in
    done_keeps c.args.self c.args.bytes.now (empty t) _ (Ok coded) (of_bytes t (Ok coded) _ c.in-Ok.ensures) (sop_length t) refl
    (omega arith) refl c.of.result (c.of.ensures ∙ (rw (told_four coded.marks (search rules)) at c.frame_lines-lines.ensures))
