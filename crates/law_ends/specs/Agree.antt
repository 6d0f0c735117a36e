-- A coder and a decoder that agree before a frame agree after it, because both reconstruct the residual from the same codewords.
use Rattle.std.specs.Prelude.{◌≡◌, refl, true, List, [], ◌∷◌, map, ℤ, replicate}
use Rattle.std.proofs.Common.{sym, ap, ◌∙◌}
use Rattle.math_lists.specs.Scan.{run}
use Rattle.math_lists.specs.Cut.{cut}
use Rattle.standard.specs.Frame.{words, received}
use Rattle.standard.specs.LongTerm.{is_lag}
use Rattle.standard.specs.Coder.{Coder, analysis, sub_step, frame, coded}
use Rattle.standard.specs.Decoder.{Decoder, Nr, sub_decoded, decoded}
use Rattle.law_fields.specs.Fields.{sub_coded_within}
use Rattle.law_fields.specs.Valid.{received_coded}

-- the same 120 residual samples, and the same eight decoded ratios
pub record Agree (c : Coder) (m : Decoder) : Type 0 where
  pub history : c.dp ≡ m.drp
  pub ratios : c.LARpp ≡ m.LARpp

-- ---- a sub-frame

-- a lag from 40 to 120 is used as it was received
lag_used : (nrp Ncr : ℤ) → is_lag Ncr ≡ true → Nr nrp Ncr ≡ Ncr
unfolding Nr
lag_used nrp Ncr h = rw h

-- so from the same history both ends get the same next history, whatever lag the decoder remembers
same_step : (dp d : List ℤ) (nrp : ℤ) → (sub_decoded (dp, nrp) (sub_step dp d).1.codes).0.0 ≡ (sub_step dp d).0
unfolding sub_decoded sub_step
same_step dp d nrp = rw (lag_used nrp _ (sub_coded_within dp d))

-- and so over sub-frames that follow one another
same_steps : (dp : List ℤ) (nrp : ℤ) (ds : List (List ℤ))
    → (run sub_decoded (dp, nrp) (map (λ s. s.codes) (run sub_step dp ds).1)).0.0 ≡ (run sub_step dp ds).0
unfolding run
same_steps dp nrp [] = refl
same_steps dp nrp (d ∷ ds) =
    let lag = (sub_decoded (dp, nrp) (sub_step dp d).1.codes).0.1 in
    ap (λ x. (run sub_decoded (x, lag) (map (λ s. s.codes) (run sub_step (sub_step dp d).0 ds).1)).0.0) (same_step dp d nrp)
    ∙ same_steps (sub_step dp d).0 lag ds

-- ---- a frame

-- the decoder that is handed the frame as it was coded
pub same_frame : (c : Coder) (m : Decoder) (sop : List ℤ) → Agree c m → Agree (coded c sop).0 (decoded m (frame (coded c sop).1)).0
unfolding coded decoded frame analysis
same_frame c m sop a =
    let parts = cut (replicate 4 40) (analysis c sop).d in
    let codes = map (λ s. s.codes) (run sub_step c.dp parts).1 in
    record {
      history = sym (same_steps c.dp m.nrp parts) ∙ ap (λ x. (run sub_decoded (x, m.nrp) codes).0.0) a.history;
      ratios = refl;
    }

-- or as it stands in the 76 codewords
pub same_words : (c : Coder) (m : Decoder) (sop : List ℤ) → Agree c m
    → Agree (coded c sop).0 (decoded m (received (words (frame (coded c sop).1)))).0
same_words c m sop a = rw (received_coded c sop) (same_frame c m sop a)
