-- A frame that is listed is counted once, and one that is not isn't counted. The text is what the lister puts in a buffer of its own.
use Rattle.std.proofs.Common.{rules, refl, ℕ, suc, ◌+◌, ◌≤◌, ◌≡◌, ◌∙◌, List, length, Bool, true, false, cond, ap, arith}
use Rattle.list_frames.specs.Promise.{State, state, listed}
use Rattle.lister.proofs.FileListerFrameCoder.frame.Goals as goal

-- of two outcomes that count at most n frames, either does
either : (b : Bool) (s t : State × List ℕ) (n : ℕ) → s.0.0 ≤ n → t.0.0 ≤ n → (cond b s t).0.0 ≤ n
either true s t n p q = p
either false s t n p q = q

counted : (s : State) (bytes : List ℕ) → (listed s bytes).0.0 ≤ s.0 + 1
unfolding listed
counted s bytes =
    let next : suc s.0 ≤ s.0 + 1 = omega arith in
    let same : s.0 ≤ s.0 + 1 = omega arith in
    either _ _ _ (s.0 + 1) next same

pub returns-clause-limit : goal.returns-clause-limit
unfolding state
returns-clause-limit c =
    let next = ap (λ (s : State). s.0) c.listed-listed.ensures.next in
    omega (arith, next, counted (state c.args.self.now.0) c.unwrap-bytes.result.now)

pub returns-clause-bytes : goal.returns-clause-bytes
returns-clause-bytes c told =
    let own = (rw c.unwrap-bytes.ensures at c.try_from.ensures.1).same in
    let lines = rw own at c.listed-listed.ensures.lines in
    let text = c.as_slice-lines.ensures.bytes ∙ lines in
    record { place = ap length text ∙ omega arith; text = rw (c.copy_from_slice.ensures.after, text) refl }
