-- Iteration j adds a block of 32 products: before it the sum is that of the first 32 * j (`parts_next`).
use Rattle.std.specs.Prelude.{◌≡◌, refl, ℕ, ◌+◌, ◌-◌, ◌*◌, ◌≤◌, ◌<◌, true, List, ℤ, pos, ◌+ℤ◌, length, take, drop, nat_abs}
use Rattle.std.proofs.Common.{sym, arith, rules, to_z-of_z}
use Rattle.std.proofs.lemmas.Int.{ints}
use mathlib.Core.List.{zip_with}
use Rattle.math_lists.specs.Every.{every}
use Rattle.standard.specs.Arithmetic.{L_sum}
use Rattle.op_sums.specs.Room.{at_most, Headroom}
use Rattle.lpc_autocorrelation.specs.Blocks.{upto, parts_next, parts_room, parts_in}
use Rattle.lpc_autocorrelation.proofs.at_distance.Goals as goal

pub loop-j-init : goal.loop-j-init
unfolding L_sum zip_with
loop-j-init c = refl

module _ (z : List ℤ) (l : length z ≡ 168) (p : every (at_most 2048) z ≡ true) where
  -- two parts of one length, of at most 32 samples
  module _ (a b c d : ℕ) (q : a ≤ b) (r : b ≤ 168) (t : c ≤ d) (u : d ≤ 168) (v : b - a ≤ 32) (e : d - c ≡ b - a) where
    -- may be added on 32 bits
    room : Headroom (take (b - a) (drop a z)) (take (d - c) (drop c z))
    room = rw e (parts_room z l p (b - a) a c (omega arith) (omega arith) (omega arith))

    -- and give no more than 32 times the greatest product, doubled
    block_in : nat_abs (L_sum (pos 0) (take (b - a) (drop a z)) (take (d - c) (drop c z))) ≤ 268435456
    block_in = rw e (omega (arith, parts_in z l p (b - a) a c (omega arith) (omega arith) (omega arith)))

  -- block j comes after those before it
  next : (k j : ℕ) → k ≤ 8 → j < 5
      → let late = take (40 + 32 * j - (8 + 32 * j)) (drop (8 + 32 * j) z) in
      let early = take (40 - k + 32 * j - (8 - k + 32 * j)) (drop (8 - k + 32 * j) z) in
      upto z k (32 * j) +ℤ L_sum (pos 0) late early ≡ upto z k (32 * (j + 1))
  next k j h i =
      let e : 32 * (j + 1) ≡ 32 * j + 32 = omega arith in
      let f : 40 + 32 * j - (8 + 32 * j) ≡ 32 = omega arith in
      let g : 40 - k + 32 * j - (8 - k + 32 * j) ≡ 32 = omega arith in
      rw (e, f, g) (sym (parts_next z l p (32 * j) 32 8 (8 - k) (omega arith) (omega arith) (omega arith)))

pub l_sum-sum-requires : goal.l_sum-sum-requires
l_sum-sum-requires c =
    let l : length c.args.z.now ≡ 168 = search rules in
    room c.args.z.now l c.requires.0 _ _ _ _ (omega arith) (omega arith) (omega arith) (omega arith) (omega arith) (omega arith)

pub overflow_add-sum : goal.overflow_add-sum
overflow_add-sum c =
    let z = c.args.z.now in
    let l : length z ≡ 168 = search rules in
    let so-far = parts_in z l c.requires.0 (32 * c.loop-j.j) 8 (8 - c.args.k) (omega arith) (omega arith) (omega arith) in
    let block : nat_abs c.l_sum-sum.result ≤ 268435456 =
    rw c.l_sum-sum.ensures (block_in z l c.requires.0 _ _ _ _ (omega arith) (omega arith) (omega arith) (omega arith) (omega arith)
    (omega arith)) in
    grind (arith, ints)

pub loop-j-preserved : goal.loop-j-preserved
loop-j-preserved c =
    let z = c.args.z.now in
    let l : length z ≡ 168 = search rules in
    let n = next z l c.requires.0 c.args.k c.loop-j.j c.requires.1 (omega arith) in
    let f = overflow_add-sum c in
    grind (arith, to_z-of_z)
