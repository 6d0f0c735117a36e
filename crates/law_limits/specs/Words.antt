-- What a coder keeps, and what is computed while a frame is coded, are words, in lists of the right lengths, over any number of frames.
use Rattle.std.specs.Prelude.{ℕ, ◌<◌, ◌≡◌, refl, Bool, true, ℤ, pos, length, drop, replicate}
use Rattle.std.proofs.Common.{◌∙◌, SFits}
use mathlib.Core.List.{List, [], ◌∷◌, zip, zip_with}
use Rattle.std.specs.Int.Signed.{lt_z}
use mir.Syntax.{w16}
use Rattle.math_lists.specs.First.{by_cond}
use Rattle.math_lists.specs.Scan.{run, run_length, run_keeps, run_every}
use Rattle.math_lists.specs.Cut.{cut_count}
use Rattle.math_lists.specs.Every.{every, every_cons, every_at, every_all, every_so, every_map, every_append, every_drop, every_cut}
use Rattle.math_lists.specs.Lengths.{sized, sized_length}
use Rattle.math_lists.specs.Tab.{tab, tab_length, tab_at_zero}
use Rattle.standard.specs.Arithmetic.{add, sub}
use Rattle.standard.specs.Preprocessing.{downscaled, Offset, offset, emphasis}
use Rattle.standard.specs.Lpc.{if_scaled, scaled, rescaled}
use Rattle.standard.specs.ShortTerm.{LARpp, ratios, section, analysed}
use Rattle.standard.specs.LongTerm.{dpp, residual}
use Rattle.standard.specs.Rpe.{filtered, weighted, reconstructed, updated}
use Rattle.standard.specs.Coder.{Coder, analysis, sub_step, coded}
use Rattle.standard.specs.House.{home_coder}
use Rattle.law_arithmetic.specs.Within.{word, word_is, word_yes, words_yes}
use Rattle.law_arithmetic.specs.Clip.{plus_fits, minus_fits}
use Rattle.law_arithmetic.specs.Shift.{keep_fits, shl_word}
use Rattle.law_arithmetic.specs.Product.{mult_r_fits}
use Rattle.law_lengths.specs.Analysis.{downscaled_length, scaled_length}
use Rattle.law_lengths.specs.Subframes.{sub_steps_length}
use Rattle.law_lengths.specs.Frames.{CoderSizes, home_coder_sizes, parts_sized, coded_sizes}
use Rattle.pre_processing.specs.Promise.{emphasis_words}
use Rattle.law_limits.specs.Signals.{kept, sof, s, scale, small, parts, part, history, lag, gain, e, x}

-- what the types of the code say of every state; z1 and L_z2 are bounded by soundness instead
pub record Carried (c : Coder) : Type 0 where
  pub sizes : CoderSizes c
  pub mp : word c.mp ≡ true
  pub LARpp : every word c.LARpp ≡ true
  pub u : every word c.u ≡ true
  pub dp : every word c.dp ≡ true

-- ---- over lists

-- where f gives a word for each pair, the list has words only
zip_words : (f : ℤ → ℤ → ℤ) → ((x y : ℤ) → SFits w16 (f x y)) → (xs ys : List ℤ) → every word (zip_with f xs ys) ≡ true
unfolding every zip_with
zip_words f h [] ys = refl
zip_words f h (x ∷ xs) [] = refl
zip_words f h (x ∷ xs) (y ∷ ys) = (every_cons word (f x y) (zip_with f xs ys)).1 (word_yes (f x y) (h x y), zip_words f h xs ys)

-- where f gives a word at each index, the table has words only
tab_words : (f : ℕ → ℤ) (n : ℕ) → ((k : ℕ) → SFits w16 (f k)) → every word (tab f 0 n) ≡ true
tab_words f n h = words_yes (tab f 0 n) (λ k l. rw (tab_at_zero f n k (pos 0) (rw tab_length at l)) (h k))

-- the second of each pair passes what the second list passes
second_every : {A B : Type 0} (p : B → Bool) (xs : List A) (ys : List B) → every p ys ≡ true → every (λ t. p t.1) (zip xs ys) ≡ true
unfolding every zip zip_with
second_every p [] ys e = refl
second_every p (x ∷ xs) [] e = refl
second_every p (x ∷ xs) (y ∷ ys) e =
    let (g, h) = (every_cons p y ys).0 e in
    (every_cons (λ t. p t.1) (x, y) (zip xs ys)).1 (g, second_every p xs ys h)

-- ---- 4.2.2 to 4.2.10

-- 4.2.2 gives words, whatever the state
offset_words : (m : Offset) (so : List ℤ) → every word (run offset m so).1 ≡ true
unfolding offset
offset_words m so = run_every offset word (λ m so. word_yes _ (keep_fits w16 _)) m so

-- so 4.2.3 keeps one
mp_word : (mp : ℤ) (sof : List ℤ) → word mp ≡ true → every word sof ≡ true → word (run emphasis mp sof).0 ≡ true
unfolding emphasis
mp_word mp sof h e = (run_keeps emphasis (λ mp. word mp ≡ true) word (λ s. true) (λ mp sof h k. (k, refl)) mp sof h e).0

-- words that are scaled or not are words, where f makes words of them
if_scaled_words : (scale : ℤ) (f : ℤ → ℤ) → ((x : ℤ) → SFits w16 x → SFits w16 (f x)) → (s : List ℤ) → every word s ≡ true
    → every word (if_scaled scale f s) ≡ true
if_scaled_words scale f k s h =
    by_cond (λ t. every word t ≡ true) (lt_z (pos 0) scale)
    (λ _. rw every_map (every_so word _ (λ x e. word_yes (f x) (k x (word_is x e))) s h)) (λ _. h)

-- so 4.2.4 gives words back
rescaled_words : (scale : ℤ) (s : List ℤ) → every word s ≡ true → every word (rescaled scale (scaled scale s)) ≡ true
unfolding scaled rescaled
rescaled_words scale s h =
    if_scaled_words scale _ (λ x f. shl_word w16 x scale f) _ (if_scaled_words scale _ (λ x _. mult_r_fits x _) s h)

-- 4.2.8 gives words
ratios_words : (larc : List ℤ) → every word (ratios larc) ≡ true
unfolding ratios LARpp
ratios_words larc = tab_words _ 8 (λ i. plus_fits w16 _ _)

-- a word through the eight sections of 4.2.10: the new u are words, and d is one
analysed_words : (u rps : List ℤ) (s : ℤ) → word s ≡ true
    → (every word (analysed u (rps, s)).0 ≡ true) × (word (analysed u (rps, s)).1 ≡ true)
unfolding analysed section
analysed_words u rps s h =
    let (a, b) =
    run_keeps section (λ t. (word t.0 ≡ true) × (word t.1 ≡ true)) (λ _. true) word
    (λ t x k _. ((word_yes _ (plus_fits w16 _ _), word_yes _ (plus_fits w16 _ _)), k.1))
    (s, s) (zip rps u) (h, h) (every_all _ (λ _. refl) _)
    in
    (b, a.0)

module _ (c : Coder) (sop : List ℤ) where
  -- s has a sample for each sample
  pub s_length : length (s c sop) ≡ length sop
  s_length = simp (run_length, downscaled_length)

  -- so has s, scaled
  pub small_length : length (small c sop) ≡ length sop
  small_length = scaled_length (scale c sop) (s c sop) ∙ s_length

  -- s are words
  pub s_words : every word (s c sop) ≡ true
  s_words = emphasis_words c.mp (sof c sop)

  -- the filter of 4.2.10 keeps words, and d are words
  lattice_words : Carried c → (every word (analysis c sop).next.u ≡ true) × (every word (analysis c sop).d ≡ true)
  unfolding analysis
  lattice_words h =
      run_keeps analysed (λ u. every word u ≡ true) (λ x. word x.1) word (λ u (rps, s) _ k. analysed_words u rps s k)
      c.u _ h.u (second_every word _ _ (rescaled_words _ _ s_words))

  module _ (i : ℕ) (k : i < 4) where
    -- there are four parts
    there : i < length (parts c sop)
    there = rw cut_count k

    -- the d of sub-frame i are words
    pub part_words : Carried c → every word (part c sop i) ≡ true
    part_words h = every_at (every word) (parts c sop) i [] (every_cut word (replicate 4 40) (analysis c sop).d (lattice_words h).1) there

    -- and are 40
    pub part_length : length sop ≡ 160 → length (part c sop i) ≡ 40
    part_length l = sized_length 40 (part c sop i) (every_at (sized 40) (parts c sop) i [] (parts_sized c sop l) there)

-- ---- 4.2.11 to 4.2.18

module _ (dp d : List ℤ) where
  -- e are words
  pub e_words : every word (e dp d) ≡ true
  unfolding residual
  e_words = zip_words sub (minus_fits w16) d (dpp (lag dp d) (gain dp d) dp)

  -- x are words
  pub x_words : every word (x dp d) ≡ true
  unfolding weighted filtered
  x_words = tab_words _ 40 (λ k. keep_fits w16 _)

  -- so are dp after the sub-frame
  sub_step_words : every word dp ≡ true → every word (sub_step dp d).0 ≡ true
  unfolding sub_step updated reconstructed
  sub_step_words h = rw (every_append word (drop 40 dp) _, every_drop word 40 dp h) (zip_words add (plus_fits w16) _ _)

-- and after any number of sub-frames
steps_words : (dp : List ℤ) (ds : List (List ℤ)) → every word dp ≡ true → every word (run sub_step dp ds).0 ≡ true
steps_words dp ds h =
    (run_keeps sub_step (λ dp. every word dp ≡ true) (λ d. true) (λ t. true) (λ dp d k _. (sub_step_words dp d k, refl))
    dp ds h (every_all _ (λ d. refl) ds)).0

module _ (c : Coder) (sop : List ℤ) (h : Carried c) (i : ℕ) where
  -- so the dp that sub-frame i starts from are words
  pub history_words : every word (history c sop i) ≡ true
  history_words = steps_words c.dp _ h.dp

  -- and are 120
  pub history_length : length (history c sop i) ≡ 120
  history_length = sub_steps_length c.dp _ h.sizes.dp

-- ---- a whole frame

-- home is what the types say
pub home_carried : Carried home_coder
unfolding home_coder every
home_carried = record { sizes = home_coder_sizes; mp = refl; LARpp = refl; u = refl; dp = refl }

-- so is what is kept after a frame, whatever the samples are
pub coded_carried : (c : Coder) (sop : List ℤ) → Carried c → Carried (coded c sop).0
unfolding coded analysis
coded_carried c sop h =
    record {
      sizes = coded_sizes c sop h.sizes;
      mp = mp_word c.mp (sof c sop) h.mp (offset_words (kept c) (downscaled sop));
      LARpp = ratios_words _;
      u = (lattice_words c sop h).0;
      dp = steps_words c.dp _ h.dp;
    }

-- and after any number of frames
pub coded_all_carried : (c : Coder) (frames : List (List ℤ)) → Carried c → Carried (run coded c frames).0
coded_all_carried c frames h =
    let all = every_all _ (λ s. refl) frames in
    (run_keeps coded Carried (λ s. true) (λ t. true) (λ c sop k _. (coded_carried c sop k, refl)) c frames h all).0
