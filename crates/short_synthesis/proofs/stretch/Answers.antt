-- A stretch of samples: the first loop carries the cells and msr from sample to sample, the second doubles and truncates.
use mathlib.Core.Path.{◌≡◌, sym, ap, ◌∙◌}
use mathlib.Core.Bool.{true}
use mathlib.Core.List.{map}
use native.Mathlib.Omega.{arith}
use lib.IntN.{ℤ, pos}
use lib.ListN.{length, length-map}
use mir.Syntax.{w16, w32}
use mir.Val.{SFits, to_z}
use borrow.Author.Rules.{rules}
use Rattle.math_integers.specs.Halves.{mem}
use Rattle.math_integers.specs.Ranges.{back, res}
use Rattle.math_lists.specs.Fill.{fill_next, fill_read, fill_end}
use Rattle.math_lists.specs.Tab.{map_at}
use Rattle.math_lists.specs.Scan.{along_start, along_next, along_end}
use Rattle.standard.specs.Tables.{◌at◌}
use Rattle.standard.specs.Decoder.{synthesised, de_emphasis, srop}
use Rattle.law_arithmetic.specs.Within.{word, word_is, word_yes}
use Rattle.short_ratios.specs.Bounds.{factor}
use Rattle.short_synthesis.specs.Speech.{sounded, voiced, voiced_is, paired_length, paired_at}
use Rattle.short_synthesis.specs.Lattice.{cells, Each, each_yes, widened, after_words, emphasised_word, turn_is}
use Rattle.short_synthesis.specs.Biased.{base, low, lifted_back, sample_is}
use Rattle.short_synthesis.proofs.stretch.Goals as goal
use Rattle.short_synthesis.proofs.stretch.Goals.{After-de_emphasis-msr, After-lattice-v, After-loop-k, After-spread-rp}

-- ---- before the first loop

-- the coefficients are factors
factors : (c : After-spread-rp) → Each factor c.spread-rp.result
factors c = each_yes factor c.spread-rp.result (rw c.spread-rp.ensures.cells c.requires.1)

pub offsets-c-requires : goal.offsets-c-requires
offsets-c-requires = factors

pub loop-k-init : goal.loop-k-init
loop-k-init c =
    let m = c.args.s.msr in
    let f : SFits w16 m = search rules in
    (along_start sounded _ _ _, rw c.with_bias-v.ensures c.spread.ensures.words, rw (widened m f) (word_yes m f))

-- ---- an iteration of the first loop

pub lattice-v-requires : goal.lattice-v-requires
lattice-v-requires c =
    let x = c.args.wt.now at c.loop-k.k in
    let f : SFits w16 x = search rules in
    (factors (goal.at.lattice-v-requires c).After-spread-rp, c.offsets-c.ensures, c.loop-k.invariant.1, rw (sample_is x f) (word_yes x f))

module _ (c : After-lattice-v) where
  abbrev x : ℤ
  x = c.args.wt.now at c.loop-k.k

  x_fits : SFits w16 x
  x_fits = search rules

  -- the lattice, on the sample that was read
  sample : cells (base c.lattice-v.result) ≡ (synthesised (cells (base c.loop-k.v)) (cells c.spread-rp.result, x)).0
  sample = rw (sample_is x x_fits) at c.lattice-v.ensures

  -- leaves words
  after : Each word (base c.lattice-v.result)
  after = after_words c.spread-rp.result (base c.loop-k.v) x (base c.lattice-v.result) sample

pub de_emphasis-msr-requires : goal.de_emphasis-msr-requires
de_emphasis-msr-requires c =
    let h = (after (goal.at.de_emphasis-msr-requires c).After-lattice-v).v0 in
    (c.loop-k.invariant.2, rw (lifted_back c.lattice-v.result.v0 h) h)

module _ (c : After-de_emphasis-msr) where
  abbrev run : After-lattice-v
  run = (goal.at.After-de_emphasis-msr c).After-lattice-v

  abbrev d : ℤ
  d = mem w32 c.de_emphasis-msr.result

  -- sro, which is a word
  sro : d ≡ (de_emphasis (to_z w32 c.loop-k.msr-bits) (low c.lattice-v.result.v0)).0
  sro = res c.de_emphasis-msr ∙ rw (lifted_back c.lattice-v.result.v0 (after run).v0) at c.de_emphasis-msr.ensures

  sro_word : word d ≡ true
  sro_word = rw sro (emphasised_word (to_z w32 c.loop-k.msr-bits) (low c.lattice-v.result.v0))

pub overflow_cast-srop : goal.overflow_cast-srop
overflow_cast-srop c = word_is (d c) (sro_word c)

pub loop-k-preserved : goal.loop-k-preserved
loop-k-preserved c =
    let b = c.loop-k in
    let rp = c.spread-rp.result in
    let wt = c.args.wt.now in
    let turn = turn_is rp (base b.v) (x (run c)) (base c.lattice-v.result) (sample (run c)) (to_z w32 b.msr-bits) (d c) (sro c) in
    let pair = paired_at (cells rp) wt b.k (omega arith) in
    let n : length b.srop ≡ length wt = search rules in (
      along_next sounded _ _ (cells rp, pos 0) b.invariant.0 (rw paired_length (omega arith)) (omega arith) pair
          (ap (λ p. p.0) turn) (back (word_is (d c) (sro_word c)) ∙ ap (λ p. p.1) turn),
      after (run c),
      sro_word c,
    )

-- ---- an iteration of the second loop

pub loop-out-preserved : goal.loop-out-preserved
loop-out-preserved c =
    let k = c.loop-out.out-index in
    let xs = c.loop-k.srop in
    let f : SFits w16 (c.loop-out.srop at k) = search rules in
    let n = length-map xs srop in
    let l : length c.loop-out.srop ≡ length xs = search rules in
    let old = fill_read (map srop xs) xs k c.loop-out.invariant k (pos 0) (omega arith) (omega arith) in
    fill_next (map srop xs) xs k c.loop-out.invariant (pos 0) (omega arith) (omega arith)
    (res c.upscaled ∙ (c.upscaled.ensures ∙ (ap srop (back f ∙ old) ∙ sym (map_at srop xs k (pos 0) (pos 0) (omega arith)))))

-- ---- after both

-- msr at the end is a word
last_fits : (c : After-loop-k) → SFits w16 (to_z w32 c.loop-k.msr-bits)
last_fits c = word_is (to_z w32 c.loop-k.msr-bits) c.loop-k.invariant.2

pub overflow_cast-result : goal.overflow_cast-result
overflow_cast-result c = last_fits (goal.at.overflow_cast-result c).After-loop-k

pub returns : goal.returns
unfolding voiced
returns c =
    let l = c.loop-k in
    let a = c.args in
    let n : length l.srop ≡ length a.wt.now = search rules in
    let f : SFits w16 a.s.msr = search rules in
    let done = along_end sounded _ _ l.invariant.0 (rw paired_length (omega arith)) (omega arith) in
    let v = ap cells c.with_bias-v.ensures ∙ c.spread.ensures.cells in
    let run = rw (c.spread-rp.ensures.cells, v, widened a.s.msr f) at done in
    let m = length-map l.srop srop in
    let out = fill_end (map srop l.srop) l.srop c.loop-out.out-index c.loop-out.invariant (omega arith) (omega arith) in
    rw (voiced_is a.s.v a.s.msr a.rrp a.wt.now)
    (record {
      v = rw c.without_bias.ensures at c.gathered.ensures ∙ ap (λ p. p.0) run.0;
      msr = back (last_fits (goal.at.returns c).After-loop-k) ∙ ap (λ p. p.1) run.0;
      samples = out ∙ ap (map srop) run.1;
    })
