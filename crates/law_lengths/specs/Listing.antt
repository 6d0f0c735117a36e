-- The lister's frames: all whole frames up to the limit, each of 160 samples.
use Rattle.std.specs.Prelude.{ℕ, ◌/◌, min, ◌≡◌, refl, true, List, [], ◌∷◌, length}
use Rattle.std.proofs.Common.{arith}
use Rattle.std.proofs.lemmas.List.{length-map, length-replicate}
use Rattle.math_lists.specs.Cut.{cut_count}
use Rattle.math_lists.specs.Every.{every, every_map, every_so}
use Rattle.math_lists.specs.Lengths.{sized, sized_yes, sized_length, cut_sized}
use Rattle.standard.specs.Files.{file_words}
use Rattle.standard.specs.Listing.{frame_bytes, most_frames, frames}

-- two bytes make a word
pub file_words_length : (bytes : List ℕ) → length (file_words bytes) ≡ length bytes / 2
unfolding file_words
file_words_length [] = refl
file_words_length (low ∷ []) = refl
file_words_length (low ∷ high ∷ bytes) = omega (arith, file_words_length bytes)

-- there are as many frames as are whole, but no more than the limit
pub frames_count : (bytes : List ℕ) → length (frames bytes) ≡ min (length bytes / frame_bytes) most_frames
unfolding frames
frames_count bytes = rw (length-map, cut_count, length-replicate)

-- and each has 160 samples
pub frames_sized : (bytes : List ℕ) → every (sized 160) (frames bytes) ≡ true
unfolding frames
frames_sized bytes =
    rw every_map
    (every_so (sized frame_bytes) _
    (λ b e. sized_yes 160 (file_words b) (omega (arith, file_words_length b, sized_length frame_bytes b e))) _
    (cut_sized (min (length bytes / frame_bytes) most_frames) frame_bytes bytes (omega arith)))
