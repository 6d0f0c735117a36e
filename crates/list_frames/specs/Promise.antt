-- What listed promises: the lines of the next frame, and the lister that goes on after it.
use Rattle.std.specs.Prelude.{ℕ, suc, ◌+◌, ◌≤◌, ◌<◌, ◌≡◌, Bool, true, false, cond, ◌&&◌, ltb, ℤ, length}
use Rattle.std.proofs.Math.Path.{refl, sym}
use Rattle.std.proofs.Common.{ap, ap₂, ◌∙◌, add-one, lt-ltb, le-ltb}
use Rattle.std.proofs.Math.Bool.{and-false}
use Rattle.std.proofs.Math.Option.{some}
use mathlib.Core.List.{List, [], map}
use Rattle.standard.specs.Files.{file_words}
use Rattle.standard.specs.Frame.{words}
use Rattle.standard.specs.Coder.{Coder, coded, frame}
use Rattle.standard.specs.House.{sound_coder, mark}
use Rattle.standard.specs.Listing.{most_frames, frame_lines}
use Rattle.law_refusals.specs.Calls.{encode_exactly, encode_done}
use Rattle.law_lengths.specs.Frames.{coded_frame_sizes}
use Rattle.encoder.specs.declared.Encoder.{Encoder}
use Rattle.encoder.specs.Promise as encoder
use Rattle.encoder.specs.Promise.{coder, Answer, number, ending, marks, Encodes, same_state}
use Rattle.encoder.specs.Calls.{number_is}
use Rattle.arrayvec.specs.ArrayVec.{ArrayVec}
use Rattle.list_frames.specs.declared.Lister.{Lister}
use Rattle.list_frames.specs.declared.Listed.{Listed}
use Rattle.list_lines.specs.Lines.{frame_text, lines_are}

-- how many frames are listed, and the coder
abbrev pub State : Type 0
State = ℕ × Coder

-- from a frame's bytes: the state after it and its lines. Past the limit, or from a coder that is not sound, nothing is listed
unfoldable pub listed : State → List ℕ → State × List ℕ
listed s bytes =
    let t = coded s.1 (file_words bytes) in
    cond (ltb s.0 most_frames && sound_coder s.1) ((suc s.0, t.0), frame_lines (suc s.0) t.1) (s, [])

-- what the type stands for
unfoldable pub state : Lister → State
state l = (l.frames, coder l.encoder)

-- the lister, a frame's bytes, and the answer
pub record Lists (l : Lister) (bytes : List ℕ) (a : Listed) : Type 0 where
  pub next : state a.state ≡ (listed (state l) bytes).0
  pub lines : a.lines.items ≡ (listed (state l) bytes).1

-- ---- where nothing is listed

-- beyond the limit
listed_limit : (s : State) (bytes : List ℕ) → most_frames ≤ s.0 → listed s bytes ≡ (s, [])
unfolding listed
listed_limit s bytes h = rw (le-ltb s.0 most_frames h)

-- from a coder that is not sound
listed_unsound : (s : State) (bytes : List ℕ) → sound_coder s.1 ≡ false → listed s bytes ≡ (s, [])
unfolding listed
listed_unsound s bytes h = rw (h, and-false (ltb s.0 most_frames))

-- the next frame otherwise
pub listed_next : (s : State) (bytes : List ℕ) → s.0 < most_frames → sound_coder s.1 ≡ true
    → let t = coded s.1 (file_words bytes) in listed s bytes ≡ ((suc s.0, t.0), frame_lines (suc s.0) t.1)
unfolding listed
listed_next s bytes h e = rw (lt-ltb s.0 most_frames h, e)

module _ (l : Lister) (bytes : List ℕ) where
  -- an answer that lists nothing keeps the promise beyond the limit
  pub limit_keeps : most_frames ≤ l.frames → (a : Listed) → a.state ≡ l → a.lines.items ≡ [] → Lists l bytes a
  unfolding state
  limit_keeps h a same none =
      let e = listed_limit (state l) bytes h in
      record { next = rw (e, same); lines = rw (e, none) refl }

  -- and where encode refuses the frame
  module _ (w left : List ℤ) (a : Answer) (p : Encodes l.encoder (file_words bytes) w a left)
      (hs : length (file_words bytes) ≡ 160) (hw : length w ≡ 76) where
    refused_unsound : (b : Bool) → sound_coder (coder l.encoder) ≡ b → ¬ (number a ≡ 0) → b ≡ false
    refused_unsound false e n = refl
    refused_unsound true e n =
        let allowed = (encode_exactly (coder l.encoder) (file_words bytes) w).allows hs hw e in
        absurd (n (number_is l.encoder (file_words bytes) w a left p ∙ allowed))

    pub refused_keeps : ¬ (number a ≡ 0) → (r : Listed) → r.state ≡ l → r.lines.items ≡ [] → Lists l bytes r
    unfolding state
    refused_keeps n r same none =
        let e = listed_unsound (state l) bytes (refused_unsound (sound_coder (coder l.encoder)) refl n) in
        record { next = rw (e, same); lines = rw (e, none) refl }

    -- where encode does not refuse, the lines of its answer keep the promise
    pub done_keeps : l.frames < most_frames → number a ≡ 0 → (t : ArrayVec ℕ)
        → t.items ≡ frame_text (l.frames + 1) (ending a) (marks a) left
        → Lists l bytes (record { state = record { frames = l.frames + 1; encoder = encoder.state a }; lines = t })
    unfolding state
    done_keeps h n text q =
        let c = coder l.encoder in
        let refusal = sym (number_is l.encoder (file_words bytes) w a left p) ∙ n in
        let sound = ((encode_exactly c (file_words bytes) w).allowed refusal).2 in
        let d = encode_done c (file_words bytes) w refusal in
        let t = coded c (file_words bytes) in
        let e = listed_next (state l) bytes h sound in
        let after : coder (encoder.state a) ≡ t.0 = rw d at p.state in
        let how : ending a ≡ some t.1.ending = rw d at p.ending in
        let told : marks a ≡ map (λ x. some (mark x)) t.1.subframes = rw d at p.marks in
        let codes : left ≡ words (frame t.1) = rw d at p.codewords in
        let is : frame_text (l.frames + 1) (ending a) (marks a) left ≡ frame_lines (suc l.frames) t.1 =
        rw (add-one, how, told, codes) (lines_are (suc l.frames) t.1 (coded_frame_sizes c (file_words bytes))) in
        record { next = rw (add-one, e, after); lines = rw (e, ← is) q }

-- ---- it determines the outcome

-- two listers that stand for the same are equal
abbrev lister : ℕ → Encoder → Lister
lister n e = record { frames = n; encoder = e }

pub one_start : (k l : Lister) → state k ≡ state l → k ≡ l
unfolding state
one_start k l p =
    let e = same_state k.encoder l.encoder (ap (λ (s : State). s.1) p) in
    let same : lister k.frames k.encoder ≡ lister l.frames l.encoder = ap₂ lister (ap (λ (s : State). s.0) p) e in
    same

-- any two answers that keep the promise are equal
abbrev answer : Lister → List ℕ → Listed
answer l t = record { state = l; lines = record { items = t } }

pub one_listing : (l : Lister) (bytes : List ℕ) (a b : Listed) → Lists l bytes a → Lists l bytes b → a ≡ b
one_listing l bytes a b p q =
    let after = one_start a.state b.state (p.next ∙ sym q.next) in
    let same : answer a.state a.lines.items ≡ answer b.state b.lines.items = ap₂ answer after (p.lines ∙ sym q.lines) in
    same
