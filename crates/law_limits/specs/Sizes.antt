-- How large the factors of the sums (b) to (f) are: at most 2048 for s, scaled; at most 512 for d, scaled; and bounds for words that are
-- shifted right, or not shifted.
use Rattle.std.specs.Prelude.{ℕ, ◌+◌, ◌-◌, ◌*◌, ◌^◌, ◌≤◌, ◌≡◌, refl, true, List, map, ℤ, pos, nat_abs, drop, replicate}
use Rattle.std.proofs.Common.{sym, ap, ◌∙◌, arith, pow-add, SFits, le-leb}
use Rattle.std.proofs.lemmas.List.{length-map}
use Rattle.std.specs.Int.{w16}
use Rattle.math_integers.specs.Halves.{abs_is, apart, know}
use Rattle.math_lists.specs.Every.{every, every_at, every_append, every_drop, every_map, every_places, every_replicate, every_so, every_take}
use Rattle.math_lists.specs.Tab.{map_at}
use Rattle.standard.specs.Arithmetic.{◌>>◌, shr}
use Rattle.standard.specs.Tables.{◌at◌}
use Rattle.standard.specs.LongTerm.{back, scal}
use Rattle.standard.specs.Rpe.{grid}
use Rattle.standard.specs.Coder.{Coder}
use Rattle.law_arithmetic.specs.Within.{word, word_is, words_yes}
use Rattle.law_arithmetic.specs.Shift.{down_in}
use Rattle.law_fields.specs.Pulses.{grid_words}
use Rattle.op_sums.specs.Room.{at_most}
use Rattle.lpc_autocorrelation.specs.Bounds.{scaled_small}
use Rattle.long_search.specs.Bounds.{scal_small}
use Rattle.rpe_weighting.specs.Filter.{around}
use Rattle.law_limits.specs.Signals.{s, small, wt, e, x}
use Rattle.law_limits.specs.Words.{s_words, e_words}

-- a word shifted right by n
down_most : (n : ℕ) (y : ℤ) → n ≤ 15 → SFits w16 y → nat_abs (y >> n) ≤ 2 ^ (15 - n)
down_most n y h f =
    let b = 2 ^ (15 - n) in
    let m : n + (15 - n) ≡ 15 = omega arith in
    let p : 2 ^ n * b ≡ 32768 = sym (pow-add 2 n (15 - n)) ∙ ap (λ (k : ℕ). 2 ^ k) m in
    omega (arith, down_in y n b (omega (arith, know f)) (omega (arith, know f)), apart (y >> n), abs_is (y >> n))

-- words shifted right by n
pub down_sizes : (n : ℕ) (ys : List ℤ) → n ≤ 15 → every word ys ≡ true → every (at_most (2 ^ (15 - n))) (map (λ y. y >> n) ys) ≡ true
down_sizes n ys h w =
    rw every_map (every_so word _ (λ y f. le-leb (nat_abs (y >> n)) (2 ^ (15 - n)) (down_most n y h (word_is y f))) ys w)

-- words as they are
pub word_sizes : (ys : List ℤ) → every word ys ≡ true → every (at_most 32768) ys ≡ true
word_sizes ys w = every_so word (at_most 32768) (λ y f. le-leb (nat_abs y) 32768 (omega (arith, know (word_is y f), abs_is y))) ys w

-- (b): s, scaled
pub small_sizes : (c : Coder) (sop : List ℤ) → every (at_most 2048) (small c sop) ≡ true
small_sizes c sop = scaled_small (s c sop) (s_words c sop)

-- (c): d, scaled
pub wt_sizes : (d : List ℤ) → every word d ≡ true → every (at_most 512) (wt d) ≡ true
wt_sizes d w = every_places (at_most 512) (wt d) (pos 0)
    (λ i h. let g = rw length-map at h in
    rw (map_at (λ x. shr w16 x (scal d)) d i (pos 0) (pos 0) g)
    (le-leb _ 512 (scal_small d i g (word_is (d at i) (every_at word d i (pos 0) w g)))))

-- (c) and (d): dp at a lag are words
pub back_words : (lag : ℕ) (dp : List ℤ) → every word dp ≡ true → every word (back lag dp) ≡ true
unfolding back
back_words lag dp w = every_take word 40 (drop (120 - lag) dp) (every_drop word (120 - lag) dp w)

module _ (dp d : List ℤ) where
  -- (e): the grids are words
  pub grids_words : (m : ℕ) → every word (grid m (x dp d)) ≡ true
  grids_words m = words_yes (grid m (x dp d)) (λ k _. grid_words m (e dp d) k)

  -- (f): so is e with its zeros
  pub around_words : every word (around (e dp d)) ≡ true
  around_words =
      let zeros = replicate 5 (pos 0) in
      rw (every_append word zeros _, every_append word (e dp d) zeros, every_replicate word 5 (pos 0) refl, e_words dp d)
