-- Each read goes behind the bytes that are there, so those are unchanged. The known bytes that it takes from the input stand behind
-- those taken before. Each turn that goes on has read at least one byte.
use Rattle.std.proofs.Common.{◌≡◌, ℕ, ◌+◌, ◌-◌, ◌≤◌, List, ◌++◌, rules, arith, refl, length, take, drop, slice_range, sym, ap, ◌∙◌, subst, append-nil, length-drop, length-take-le}
use Rattle.std.proofs.Math.Seq.{take-append-add}
use Rattle.std.proofs.KnownBytes.{Consumes-trans, Consumes-kept}
use Rattle.std.proofs.lemmas.List.{drop-take}
use Rattle.std.proofs.lemmas.Slice.{take-put_mid_below}
use Rattle.std.specs.Io.KnownBytes.{Consumes}
use lib.Seq.{drop-append-le, take-append-le}
use borrow.Rule.Slice.PartMut.{put_mid, post_of}
use Rattle.io_streams.proofs.gather.Goals as goal

-- n bytes of what was read into the room from index `done` on stand behind those from index `there` on
behind : (there done k n e : ℕ) (xs ys : List ℕ) → there ≤ done → done ≤ length xs → n ≤ length ys → e ≡ done + n
    → slice_range (put_mid done k xs ys) there e ≡ slice_range xs there done ++ take n ys
behind there done k n e xs ys from within fits end =
    let post = post_of done k xs in
    let front = drop there (take done xs) in
    let long : length (take done xs) ≡ done = length-take-le done xs within in
    let before : front ≡ slice_range xs there done = ap (λ m. drop there (take m xs)) (omega arith) ∙ drop-take there (done - there) xs in
    let size : e - there ≡ length front + n = rw length-drop (omega arith) in
    let rest : drop there (put_mid done k xs ys) ≡ front ++ (ys ++ post) = drop-append-le there (take done xs) (ys ++ post) (omega arith) in
    ap (take (e - there)) rest ∙ ap (λ m. take m (front ++ (ys ++ post))) size ∙ take-append-add front (ys ++ post) n
    ∙ ap (λ l. front ++ l) (take-append-le n ys post fits) ∙ ap (λ l. l ++ take n ys) before

-- the end of the input, where a read gives none, and a read that failed
pub returns-in-Ok-eq0-clause-taken : goal.returns-in-Ok-eq0-clause-taken
returns-in-Ok-eq0-clause-taken g c =
    let held = c.loop-done.invariant in
    let more = c.in-Ok-eq0.ensures in
    subst (Consumes _ _)
    (sym (behind _ _ _ c.in-Ok-eq0.field-0 c.loop-done.done _ _ held.0 held.1 more.bound.0 (omega arith)))
    (Consumes-trans _ _ _ _ _ held.5 more.bytes.0)

pub returns-in-Err-clause-taken : goal.returns-in-Err-clause-taken
returns-in-Err-clause-taken g c =
    let held = c.loop-done.invariant in
    subst (Consumes _ _)
    (sym (behind _ _ _ 0 c.loop-done.done _ _ held.0 held.1 (omega arith) (omega arith) ∙ append-nil _))
    (Consumes-kept _ _ _ _ held.5 c.in-Err.ensures.bytes)

-- the bytes before index `done` are not read into
stands : (there done k : ℕ) (old xs ys : List ℕ) → there ≤ done → done ≤ length xs → take there xs ≡ take there old
    → take there (put_mid done k xs ys) ≡ take there old
stands there done k old xs ys from within held = take-put_mid_below done k xs ys there from within ∙ held

pub loop-done-preserved : goal.loop-done-preserved
loop-done-preserved g c =
    let held = c.loop-done.invariant in
    let done = c.loop-done.done in
    let more = c.in-Ok.ensures in (
      search rules,
      search rules,
      search rules,
      stands _ _ _ _ _ _ held.0 held.1 held.3,
      λ h. absurd (omega arith),
      subst (Consumes _ _)
          (sym (behind _ _ _ c.in-Ok.more (done + c.in-Ok.more) _ _ held.0 held.1 more.bound.0 refl))
          (Consumes-trans _ _ _ _ _ held.5 more.bytes.0),
    )
