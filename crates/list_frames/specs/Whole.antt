-- House rules, 'Listing': the whole listing, by the calls that make it: the header, the lines of each whole frame from home on,
-- the E line.
use Rattle.std.specs.Prelude.{ℕ, suc, ◌+◌, ◌*◌, ◌-◌, ◌/◌, ◌≤◌, ◌<◌, min, ◌≡◌, refl, Bool, true, false, ltb, pos, negsuc, length, replicate}
use Rattle.std.proofs.Common.{ap, ◌∙◌, ⊎_elim, arith, ltb-true, ltb-false}
use mathlib.Core.List.{List, [], ◌∷◌, ◌++◌, map, flatten}
use Rattle.std.proofs.lemmas.List.{length-replicate}
use Rattle.std.specs.Int.{w16}
use mir.Val.{SFits, sel, to_z}
use Rattle.math_integers.specs.Halves.{zar, le_or_lt}
use Rattle.math_lists.specs.Every.{every, every_cons}
use Rattle.math_lists.specs.Scan.{run}
use Rattle.math_lists.specs.Cut.{cut, cut_count}
use Rattle.standard.specs.Files.{file_words}
use Rattle.standard.specs.Coder.{Coder, coded}
use Rattle.standard.specs.House.{home_coder, sound_coder}
use Rattle.standard.specs.Listing.{frame_bytes, most_frames, header, frame_lines, numbered, E_line, frames, listing}
use Rattle.law_arithmetic.specs.Within.{word, word_yes}
use Rattle.law_soundness.specs.States.{home_coder_sound, coded_sound}
use Rattle.list_borders.specs.Borders.{E_beyond}
use Rattle.list_frames.specs.declared.Lister.{Lister}
use Rattle.list_frames.specs.declared.Listed.{Listed}
use Rattle.list_frames.specs.Promise.{State, listed, listed_next, state, Lists}

-- the whole frames of an input, as far as the limit, each of 320 bytes
unfoldable pub parts : List ℕ → List (List ℕ)
parts bytes = cut (replicate (min (length bytes / frame_bytes) most_frames) frame_bytes) bytes

-- two bytes, whatever they are, stand for a word
either_fits : (n : ℕ) (b : Bool) → ltb n 32768 ≡ b → SFits w16 (sel b (pos n) (negsuc (65536 - suc n)))
either_fits n true e = omega (zar, ltb-true n 32768 e)
either_fits n false e = omega (zar, ltb-false n 32768 e)

-- so a file's words are words
pub file_words_fit : (bytes : List ℕ) → every word (file_words bytes) ≡ true
unfolding file_words every
file_words_fit [] = refl
file_words_fit (low ∷ []) = refl
file_words_fit (low ∷ high ∷ bytes) =
    let n = low + 256 * high in
    (every_cons word (to_z w16 n) (file_words bytes)).1 (word_yes (to_z w16 n) (either_fits n (ltb n 32768) refl), file_words_fit bytes)

-- frames listed one after the other, from a sound coder and below the limit, give the definition's lines in order; all are counted
pub listed_all : (n : ℕ) (c : Coder) (ps : List (List ℕ)) → sound_coder c ≡ true → n + length ps ≤ most_frames
    → let r = run listed (n, c) ps in
    (flatten r.1 ≡ numbered frame_lines (suc n) (run coded c (map file_words ps)).1) × (r.0.0 ≡ n + length ps)
unfolding run numbered flatten
listed_all n c [] e h = (refl, omega arith)
listed_all n c (p ∷ ps) e h =
    let t = coded c (file_words p) in
    let s = coded_sound c (file_words p) e (file_words_fit p) in
    let (lines, count) = listed_all (suc n) t.0 ps s (omega arith) in
    let next = listed_next (n, c) p (omega arith) e in
    (rw (next, lines) refl, ap (λ (x : State × List ℕ). (run listed x.0 ps).0.0) next ∙ (count ∙ omega arith))

-- ---- calls as they were made

-- a call of listed: the frame's bytes and the answer
pub record Call : Type 0 where
  pub bytes : List ℕ
  pub answer : Listed

-- its text
abbrev pub lines : Call → List ℕ
lines c = c.answer.lines.items

-- this much is true of calls from the lister l on: each keeps its promise, and the next one goes on from its answer
unfoldable pub Made : Lister → List Call → Type 0
Made l [] = Unit {0}
Made l (c ∷ calls) = Lists l c.bytes c.answer × Made c.answer.state calls

-- the lister after them
unfoldable pub after : Lister → List Call → Lister
after l [] = l
after l (c ∷ calls) = after c.answer.state calls

-- they give what the definition gives of their bytes
pub made_run : (l : Lister) (calls : List Call) → Made l calls
    → (state (after l calls), map lines calls) ≡ run listed (state l) (map (λ c. c.bytes) calls)
unfolding Made after run
made_run l [] m = refl
made_run l (c ∷ calls) (p, m) = rw (← p.next, ← made_run c.answer.state calls m, p.lines) refl

-- what ended is told of the bytes that follow the frames: how many they are. Past the limit it may be any number above 0
pub record Rest (bytes : List ℕ) (rest : ℕ) : Type 0 where
  pub within : length bytes ≤ 320000000 → length (parts bytes) * 320 + rest ≡ length bytes
  pub beyond : 320000000 < length bytes → 0 < rest

-- it then gives the input's E line
pub ended_is : (bytes : List ℕ) (rest : ℕ) → Rest bytes rest → E_line (length (parts bytes) * 320 + rest) ≡ E_line (length bytes)
unfolding parts
ended_is bytes rest p =
    let n : length (parts bytes) ≡ min (length bytes / 320) 1000000 = rw (cut_count, length-replicate) refl in
    ⊎_elim
    (λ h. ap E_line (p.within h))
    (λ h. E_beyond (length (parts bytes) * 320 + rest) (length bytes) (omega (arith, n, p.beyond h)) h)
    (le_or_lt (length bytes) 320000000)

-- the whole listing: what header gives, what the calls of listed give, from start on and for the parts of the input in their order,
-- and what ended gives
pub listing_is : (bytes : List ℕ) (l : Lister) (calls : List Call) (rest : ℕ)
    → state l ≡ (0, home_coder) → Made l calls → map (λ c. c.bytes) calls ≡ parts bytes → Rest bytes rest
    → {top end : List ℕ} → top ≡ header → end ≡ E_line ((after l calls).frames * 320 + rest)
    → top ++ (flatten (map lines calls) ++ end) ≡ listing bytes
unfolding listing frames parts state
listing_is bytes l calls rest home made all e first last =
    let ran : (state (after l calls), map lines calls) ≡ run listed (0, home_coder) (parts bytes)
    = rw (← home, ← all) (made_run l calls made) in
    let few : length (parts bytes) ≤ most_frames = rw (cut_count, length-replicate) (omega arith) in
    let (text, count) = listed_all 0 home_coder (parts bytes) home_coder_sound (omega (arith, few)) in
    let counted : (after l calls).frames ≡ length (parts bytes) = ap (λ x. x.0.0) ran ∙ (count ∙ omega arith) in
    rw (first, last, counted, ended_is bytes rest e) (rw (ap (λ x. x.1) ran, text))
