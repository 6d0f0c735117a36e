-- For an array that `std::array::from_fn` makes: there was a call of the closure at each index, so what such a call reads is known.
use Rattle.std.specs.Prelude.{◌≡◌, ℕ, zero, suc, ◌+◌, ◌<◌, List}
use Rattle.std.specs.Array.{IsFromFnResult, IsFromFnResultFrom}
use Rattle.std.specs.Fn.{Called}
use denote.Param.Members.{Mut}
use native.Mathlib.Omega.{arith}

-- where a call leaves the closure as it was
module _ {F B : Type 0} (g : Mut F (ℕ × Unit {0}) B) (f : F) (ys : List B)
    (stays : (k : ℕ) (y : B) (q : F) → Called g f (k, tt) y q → q ≡ f) where
  -- at the index j places behind i, of the n indices from i on
  called_from : (i n j : ℕ) → IsFromFnResultFrom g f ys i n → j < n → (y : B) × (q : F) × Called g f (i + j, tt) y q
  called_from i zero j r b = absurd (omega arith)
  called_from i (suc n) zero (q, y, e, c, r) b =
      let k : i + 0 ≡ i = omega arith in
      rw k (y, q, c)
  called_from i (suc n) (suc j) (q, y, e, c, r) b =
      let k : i + suc j ≡ i + 1 + j = omega arith in
      let s = rw (stays i y q c) at r in
      rw k (called_from (i + 1) n j s (omega arith))

  -- the closure as it is made was called at each index
  pub called : (n : ℕ) → IsFromFnResult g f ys n → (j : ℕ) → j < n → (y : B) × (q : F) × Called g f (j, tt) y q
  called n r j b =
      let z : 0 + j ≡ j = omega arith in
      rw z at (called_from 0 n j r.each b)
