-- 4.3.4 to 4.3.7 in one pass: what each sample goes through, from wt[k] to the output srop[k].
use Rattle.std.specs.Prelude.{ℕ, ◌<◌, ◌≡◌, refl, true, ℤ, pos, length, get_or, replicate}
use mathlib.Core.List.{List, [], ◌∷◌, map, zip, zip_with, foldr}
use Rattle.std.proofs.lemmas.List.{length-map}
use Rattle.std.specs.Int.{w16}
use Rattle.math_lists.specs.Scan.{run}
use Rattle.math_lists.specs.Tab.{zip_replicate, map_at}
use Rattle.math_lists.specs.Every.{every, every_cons, every_take}
use Rattle.standard.specs.Arithmetic.{add, sub, mult_r}
use Rattle.standard.specs.Tables.{◌at◌}
use Rattle.standard.specs.Decoder.{inverse_section, synthesised, de_emphasis, srop}
use Rattle.law_arithmetic.specs.Clip.{plus_fits, minus_fits}
use Rattle.law_arithmetic.specs.Within.{word, word_yes}

-- one sample: v[0..7] and msr after it, and srop[k]
unfoldable pub speech : List ℤ × ℤ → List ℤ × ℤ → (List ℤ × ℤ) × ℤ
speech (v, msr) x =
    let t = synthesised v x in
    let e = de_emphasis msr t.1 in
    ((t.0, e.0), srop e.1)

-- the samples wt of a stretch, which have the coefficients rrp in common
unfoldable pub spoken : List ℤ → ℤ → List ℤ → List ℤ → (List ℤ × ℤ) × List ℤ
spoken v msr rrp wt = run speech (v, msr) (zip (replicate (length wt) rrp) wt)

-- one sample before its doubling: v[0..7] and msr after it, and sro[k]
unfoldable pub sounded : List ℤ × ℤ → List ℤ × ℤ → (List ℤ × ℤ) × ℤ
sounded (v, msr) x =
    let t = synthesised v x in
    let e = de_emphasis msr t.1 in
    ((t.0, e.0), e.1)

-- and those of a stretch
unfoldable pub voiced : List ℤ → ℤ → List ℤ → List ℤ → (List ℤ × ℤ) × List ℤ
voiced v msr rrp wt = run sounded (v, msr) (zip (replicate (length wt) rrp) wt)

-- ---- one pass over the samples equals the standard's three: 4.3.4, then 4.3.5, then 4.3.6 and 4.3.7

-- the lattice over all samples, then the de-emphasis over what it gives, then the output of each
pub spoken_is : (v : List ℤ) (msr : ℤ) (xs : List (List ℤ × ℤ))
    → run speech (v, msr) xs
    ≡ (
      ((run synthesised v xs).0, (run de_emphasis msr (run synthesised v xs).1).0),
      map srop (run de_emphasis msr (run synthesised v xs).1).1,
    )
unfolding speech run
spoken_is v msr [] = refl
spoken_is v msr (x ∷ xs) =
    let t = synthesised v x in
    rw (spoken_is t.0 (de_emphasis msr t.1).0 xs)

-- the doubling can be done last
doubled_last : (v : List ℤ) (msr : ℤ) (xs : List (List ℤ × ℤ))
    → run speech (v, msr) xs ≡ ((run sounded (v, msr) xs).0, map srop (run sounded (v, msr) xs).1)
unfolding speech sounded run
doubled_last v msr [] = refl
doubled_last v msr (x ∷ xs) =
    let t = synthesised v x in
    rw (doubled_last t.0 (de_emphasis msr t.1).0 xs)

pub voiced_is : (v : List ℤ) (msr : ℤ) (rrp wt : List ℤ) → spoken v msr rrp wt ≡ ((voiced v msr rrp wt).0, map srop (voiced v msr rrp wt).1)
unfolding spoken voiced
voiced_is v msr rrp wt = doubled_last v msr _

-- ---- the samples of a stretch

-- each sample goes with the same coefficients
paired : (rrp wt : List ℤ) → zip (replicate (length wt) rrp) wt ≡ map (λ x. (rrp, x)) wt
unfolding zip
paired rrp wt = zip_replicate (λ r x. (r, x)) rrp (length wt) wt refl

-- so there are as many pairs
pub paired_length : (rrp wt : List ℤ) → length (zip (replicate (length wt) rrp) wt) ≡ length wt
paired_length rrp wt = rw paired (length-map wt (λ x. (rrp, x)))

-- and this is the one at k
pub paired_at : (rrp wt : List ℤ) (k : ℕ) → k < length wt → (rrp, wt at k) ≡ get_or (zip (replicate (length wt) rrp) wt) k (rrp, pos 0)
paired_at rrp wt k h = rw (paired, map_at {B = List ℤ × ℤ} (λ x. (rrp, x)) wt k (pos 0) (rrp, pos 0) h)

-- ---- the lattice gives words

-- the cells above any sections
above_words : (xs : List (ℤ × ℤ)) (wt : ℤ) → every word (foldr inverse_section (wt, []) xs).1 ≡ true
unfolding inverse_section every
above_words [] wt = refl
above_words ((r, v) ∷ xs) wt =
    let t = foldr inverse_section (wt, []) xs in
    let m = mult_r r (sub t.0 (mult_r r v)) in
    (every_cons word (add v m) t.1).1 (word_yes (add v m) (plus_fits w16 v m), above_words xs wt)

-- and, from one section on, the sri below them
pub synthesised_words : (r v : ℤ) (rs vs : List ℤ) (wt : ℤ) → every word (synthesised (v ∷ vs) (r ∷ rs, wt)).0 ≡ true
unfolding synthesised inverse_section zip zip_with
synthesised_words r v rs vs wt =
    let t = foldr inverse_section (wt, []) (zip rs vs) in
    let m = mult_r r v in
    let above = every_take word 7 _ (above_words ((r, v) ∷ zip rs vs) wt) in
    (every_cons word (sub t.0 m) _).1 (word_yes (sub t.0 m) (minus_fits w16 t.0 m), above)
