-- The lattice on eight named cells: what its functions ask and promise, and that plain sums which are words are those of 4.3.4.
use Rattle.std.specs.Prelude.{◌≡◌, refl, Bool, true, ℕ, ℤ, pos, ◌+ℤ◌, ◌-ℤ◌, length, get_or}
use Rattle.std.proofs.Common.{sym, ◌∙◌, SFits}
use Rattle.std.proofs.Math.Path.{ap}
use mathlib.Core.List.{List, [], ◌∷◌, zip, zip_with}
use Rattle.std.specs.Int.{w16, w32}
use Rattle.math_integers.specs.Halves.{mem}
use Rattle.math_integers.specs.Ranges.{wide, back}
use Rattle.math_lists.specs.Tab.{tab}
use Rattle.math_lists.specs.Every.{every, every_cons}
use Rattle.math_lists.specs.For.{by_entries}
use Rattle.standard.specs.Arithmetic.{add, sub, mult_r}
use Rattle.standard.specs.Tables.{◌at◌}
use Rattle.standard.specs.Decoder.{inverse_section, synthesised, de_emphasis}
use Rattle.law_arithmetic.specs.Clip.{plus_plain, minus_plain, plus_fits, minus_fits}
use Rattle.law_arithmetic.specs.Within.{word, word_is, word_yes}
use Rattle.short_ratios.specs.Bounds.{factor, factor_is}
use Rattle.short_synthesis.specs.declared.Line.{Line}
use Rattle.short_synthesis.specs.declared.Section.{Section}
use Rattle.short_synthesis.specs.Speech.{sounded, synthesised_words}

-- the eight as a list
abbrev pub cells : Line → List ℤ
cells l = l.v0 ∷ l.v1 ∷ l.v2 ∷ l.v3 ∷ l.v4 ∷ l.v5 ∷ l.v6 ∷ l.v7 ∷ []

-- f of each of the eight
abbrev pub lined : (ℤ → ℤ) → Line → Line
lined f l =
    record {
      v0 = f l.v0;
      v1 = f l.v1;
      v2 = f l.v2;
      v3 = f l.v3;
      v4 = f l.v4;
      v5 = f l.v5;
      v6 = f l.v6;
      v7 = f l.v7;
    }

-- the cells that seven sections leave: the last sri, and the cell above each
abbrev pub shifted : List Section → Line
shifted s =
    let nth = λ (k : ℕ). get_or s k (record { out = pos 0; above = pos 0 }) in
    record {
      v0 = (nth 0).out;
      v1 = (nth 0).above;
      v2 = (nth 1).above;
      v3 = (nth 2).above;
      v4 = (nth 3).above;
      v5 = (nth 4).above;
      v6 = (nth 5).above;
      v7 = (nth 6).above;
    }

-- what holds of each of the eight
pub record All (Q : ℤ → Type 0) (l : Line) : Type 0 where
  pub v0 : Q l.v0
  pub v1 : Q l.v1
  pub v2 : Q l.v2
  pub v3 : Q l.v3
  pub v4 : Q l.v4
  pub v5 : Q l.v5
  pub v6 : Q l.v6
  pub v7 : Q l.v7

-- what holds between each of the eight and the one that stands there in m
pub record Mapped (R : ℤ → ℤ → Type 0) (l m : Line) : Type 0 where
  pub v0 : R l.v0 m.v0
  pub v1 : R l.v1 m.v1
  pub v2 : R l.v2 m.v2
  pub v3 : R l.v3 m.v3
  pub v4 : R l.v4 m.v4
  pub v5 : R l.v5 m.v5
  pub v6 : R l.v6 m.v6
  pub v7 : R l.v7 m.v7

-- a test that each of them passes
abbrev pub Each : (ℤ → Bool) → Line → Type 0
Each p = All (λ z. p z ≡ true)

-- each of them is what a local of 32 bits gives back
abbrev pub Held : Line → Type 0
Held = All (λ z. mem w32 z ≡ z)

-- what holds of f of each tells something of each
pub all_from : {Q R : ℤ → Type 0} (f : ℤ → ℤ) → ((z : ℤ) → Q (f z) → R z) → (l : Line) → All Q (lined f l) → All R l
all_from f k l h =
    record {
      v0 = k l.v0 h.v0;
      v1 = k l.v1 h.v1;
      v2 = k l.v2 h.v2;
      v3 = k l.v3 h.v3;
      v4 = k l.v4 h.v4;
      v5 = k l.v5 h.v5;
      v6 = k l.v6 h.v6;
      v7 = k l.v7 h.v7;
    }

-- two functions that give the same of each give the same eight
pub lined_same : {Q : ℤ → Type 0} (f g : ℤ → ℤ) → ((z : ℤ) → Q z → f z ≡ g z) → (l : Line) → All Q l → lined f l ≡ lined g l
lined_same f g k l h =
    rw (
      k l.v0 h.v0,
      k l.v1 h.v1,
      k l.v2 h.v2,
      k l.v3 h.v3,
      k l.v4 h.v4,
      k l.v5 h.v5,
      k l.v6 h.v6,
      k l.v7 h.v7,
    )

-- where what is known of each gives g of it, m is the eight of g
pub mapped : {Q : ℤ → Type 0} {R : ℤ → ℤ → Type 0} (g : ℤ → ℤ) → ((z y : ℤ) → Q z → R z y → y ≡ g z)
    → (l m : Line) → All Q l → Mapped R l m → m ≡ lined g l
mapped g k l m h r =
    let e : lined g l ≡ m =
    rw (
      ← k l.v0 m.v0 h.v0 r.v0,
      ← k l.v1 m.v1 h.v1 r.v1,
      ← k l.v2 m.v2 h.v2 r.v2,
      ← k l.v3 m.v3 h.v3 r.v3,
      ← k l.v4 m.v4 h.v4 r.v4,
      ← k l.v5 m.v5 h.v5 r.v5,
      ← k l.v6 m.v6 h.v6 r.v6,
      ← k l.v7 m.v7 h.v7 r.v7,
    ) in
    sym e

-- ---- the eight of a list

-- a list of eight, entry by entry
pub eight_is : (a : List ℤ) → length a ≡ 8
    → a at 0 ∷ a at 1 ∷ a at 2 ∷ a at 3 ∷ a at 4 ∷ a at 5 ∷ a at 6 ∷ a at 7 ∷ [] ≡ a
unfolding tab
eight_is =
    by_entries (λ a. a at 0 ∷ a at 1 ∷ a at 2 ∷ a at 3 ∷ a at 4 ∷ a at 5 ∷ a at 6 ∷ a at 7 ∷ [] ≡ a) (pos 0) 8 (λ f. refl)

-- where all of the eight pass a test, each does
pub each_yes : (p : ℤ → Bool) (l : Line) → every p (cells l) ≡ true → Each p l
each_yes p l h =
    let (h0, t0) = (every_cons p l.v0 _).0 h in
    let (h1, t1) = (every_cons p l.v1 _).0 t0 in
    let (h2, t2) = (every_cons p l.v2 _).0 t1 in
    let (h3, t3) = (every_cons p l.v3 _).0 t2 in
    let (h4, t4) = (every_cons p l.v4 _).0 t3 in
    let (h5, t5) = (every_cons p l.v5 _).0 t4 in
    let (h6, t6) = (every_cons p l.v6 _).0 t5 in
    let (h7, t7) = (every_cons p l.v7 _).0 t6 in
    record { v0 = h0; v1 = h1; v2 = h2; v3 = h3; v4 = h4; v5 = h5; v6 = h6; v7 = h7 }

-- ---- a number that goes through a local of 32 bits

-- a word is what it gives back
pub word_back : (z : ℤ) → word z ≡ true → mem w32 z ≡ z
word_back z h = back {w = w32} (wide (word_is z h) tt)

-- and is one still
pub local_word : (z : ℤ) → word z ≡ true → word (mem w32 z) ≡ true
local_word z h = rw (word_back z h) h

-- so it is with a factor
pub factor_back : (z : ℤ) → factor z ≡ true → mem w32 z ≡ z
factor_back z h = back {w = w32} (wide (factor_is z h) tt)

pub local_factor : (z : ℤ) → factor z ≡ true → factor (mem w32 z) ≡ true
local_factor z h = rw (factor_back z h) h

-- and a word that was cast is given back
pub widened : (z : ℤ) → SFits w16 z → mem w32 (mem w16 z) ≡ z
widened z f = rw (back f) (back {w = w32} (wide f tt))

-- which such a local holds
pub widened_fits : (z : ℤ) → SFits w16 z → SFits w32 (mem w16 z)
widened_fits z f = rw (back f) (wide f tt)

-- ---- the sections

-- a section as 4.3.4 has it: o is sri after it, a the cell above its own
pub record Passed (r v sri o a : ℤ) : Type 0 where
  pub out : o ≡ sub sri (mult_r r v)
  pub above : a ≡ add v (mult_r r o)

-- sri after it is a word
pub passed_word : {r v s o a : ℤ} → Passed r v s o a → word (mem w32 o) ≡ true
passed_word {r} {v} {s} {o} p =
    let w : word o ≡ true = rw p.out (word_yes (sub s (mult_r r v)) (minus_fits w16 s (mult_r r v))) in
    rw (word_back o w) w

-- a local gives it back
pub passed_back : {r v s o a : ℤ} → Passed r v s o a → mem w32 o ≡ o
passed_back {r} {v} {s} p = rw p.out (back {w = w32} (wide (minus_fits w16 s (mult_r r v)) tt))

-- through locals, which give back r, v and sri as mr, mv and ms
pub passed_by : {r v s mr mv ms o a : ℤ} → mr ≡ r → mv ≡ v → ms ≡ s → Passed mr mv ms o a → Passed r v s o a
passed_by er ev es p = rw (← er, ← ev, ← es) p

-- and then o and a too
pub passed : {r v s mr mv ms o a : ℤ} → mr ≡ r → mv ≡ v → ms ≡ s → Passed mr mv ms o a → Passed r v s (mem w32 o) (mem w32 a)
passed {mr = mr} {mv = mv} {ms = ms} {o = o} {a = a} er ev es p =
    let eo : mem w32 o ≡ o = rw p.out (back {w = w32} (wide (minus_fits w16 ms (mult_r mr mv)) tt)) in
    let ea : mem w32 a ≡ a = rw p.above (back {w = w32} (wide (plus_fits w16 mv (mult_r mr o)) tt)) in
    rw (eo, ea, ← er, ← ev, ← es) p

-- the eight, the last first, give the cells of the definition
pub sections_are : (r v : Line) (wt : ℤ) {s0 s1 s2 s3 s4 s5 s6 s7 a0 a1 a2 a3 a4 a5 a6 : ℤ}
    → s7 ≡ sub wt (mult_r r.v7 v.v7)
    → Passed r.v6 v.v6 s7 s6 a6
    → Passed r.v5 v.v5 s6 s5 a5
    → Passed r.v4 v.v4 s5 s4 a4
    → Passed r.v3 v.v3 s4 s3 a3
    → Passed r.v2 v.v2 s3 s2 a2
    → Passed r.v1 v.v1 s2 s1 a1
    → Passed r.v0 v.v0 s1 s0 a0
    → s0 ∷ a0 ∷ a1 ∷ a2 ∷ a3 ∷ a4 ∷ a5 ∷ a6 ∷ [] ≡ (synthesised (cells v) (cells r, wt)).0
unfolding synthesised inverse_section zip zip_with
sections_are r v wt h7 h6 h5 h4 h3 h2 h1 h0 =
    rw (h0.above, h1.above, h2.above, h3.above, h4.above, h5.above, h6.above)
    (rw (h0.out, h1.out, h2.out, h3.out, h4.out, h5.out, h6.out, h7))

module _ (a b : ℤ) {s : ℤ} where
  -- a difference that is a word does not saturate
  pub minus_word : s ≡ a -ℤ b → word s ≡ true → s ≡ sub a b
  minus_word e h = e ∙ sym (minus_plain a b (rw e at (word_is s h)))

  -- nor does such a sum
  pub plus_word : s ≡ a +ℤ b → word s ≡ true → s ≡ add a b
  plus_word e h = e ∙ sym (plus_plain a b (rw e at (word_is s h)))

-- ---- the cells after a sample

module _ (r v : Line) (wt : ℤ) (u : Line) (e : cells u ≡ (synthesised (cells v) (cells r, wt)).0) where
  -- are words
  pub after_words : Each word u
  after_words = each_yes word u (rw e (synthesised_words r.v0 v.v0 _ _ wt))

  -- the first is sr[k]
  first_is : u.v0 ≡ (synthesised (cells v) (cells r, wt)).1
  unfolding synthesised
  first_is = ap (λ (t : List ℤ). t at 0) e

  -- and the whole step of one sample, with the de-emphasis
  pub turn_is : (msr d : ℤ) → d ≡ (de_emphasis msr u.v0).0 → ((cells u, d), d) ≡ sounded (cells v, msr) (cells r, wt)
  unfolding sounded de_emphasis
  turn_is msr d f =
      let h : d ≡ (de_emphasis msr (synthesised (cells v) (cells r, wt)).1).0 = rw (← first_is) f in
      rw (h, e)

-- what de-emphasis gives is a word
pub emphasised_word : (msr sr : ℤ) → word (de_emphasis msr sr).0 ≡ true
unfolding de_emphasis
emphasised_word msr sr = word_yes _ (plus_fits w16 sr (mult_r msr (pos 28180)))
