-- Two cases of dmax, 0 or above, and two of its norm: 6 less the norm, not below 0.
use Prim.Native.Nat.{◌*◌, ◌%◌}
use mathlib.Core.Path.{◌≡◌, sym, ap, ◌∙◌}
use mathlib.Core.Bool.{true, false, cond}
use lib.IntN.{ℤ, pos, nat_abs}
use lib.Signed.{lt_z}
use mir.Syntax.{w16, w32}
use mir.Val.{of_z, to_z}
use borrow.Author.Tests.{ne_eqb}
use Rattle.math_integers.specs.Halves.{zar, mem, abs_is}
use Rattle.math_integers.specs.Ranges.{zfits, res}
use Rattle.standard.specs.Arithmetic.{is_zero, up, norm, peak}
use Rattle.standard.specs.LongTerm.{scal}
use Rattle.law_arithmetic.specs.Shift.{up_bits}
use Rattle.long_search.specs.Bounds.{dmax_above}
use Rattle.long_search.proofs.scal.Goals as goal
use Rattle.long_search.proofs.scal.Goals.{After-peak-dmax, Else-dmax-eq0, Joined-dmax-eq0, Start, Then-dmax-eq0, then-dmax-eq0, else-dmax-eq0}

abbrev dmax : Start → ℤ
dmax s = peak s.args.d.now

-- the code's dmax is the definition's
dmax-is : (c : After-peak-dmax) → mem w16 c.peak-dmax.result ≡ dmax c.before
dmax-is c = res c.peak-dmax ∙ c.peak-dmax.ensures

-- and so is dmax shifted left by 16, of which norm is taken
top-is : (c : After-peak-dmax) → to_z w32 ((of_z w32 (mem w16 c.peak-dmax.result) * 65536) % 4294967296) ≡ up w32 (dmax c.before) 16
top-is c = up_bits w32 (mem w16 c.peak-dmax.result) 16 (search zfits) ∙ ap (λ (z : ℤ). up w32 z 16) (dmax-is c)

-- the test of dmax
zero : (c : Then-dmax-eq0) → is_zero (dmax c.before.before) ≡ true
zero c =
    let z : of_z w16 c.peak-dmax.result ≡ 0 = c.if-dmax-eq0.true in
    rw (sym (dmax-is c.before) ∙ ap (to_z w16) z)

other : (c : Else-dmax-eq0) → is_zero (dmax c.before.before) ≡ false
other c =
    ne_eqb (nat_abs (dmax c.before.before)) 0
    (λ e.
    let z : dmax c.before.before ≡ pos 0 = omega (zar, abs_is (dmax c.before.before)) in
    c.if-dmax-eq0.false (ap (of_z w16) (c.peak-dmax.ensures ∙ z)))

pub norm-temp-requires : goal.norm-temp-requires
norm-temp-requires c = rw (top-is c.before) (dmax_above _ (other c))

-- temp in both cases
temp-is : (c : Joined-dmax-eq0) → let x = dmax c.before.before in
    to_z w16 c.if-dmax-eq0.temp-bits ≡ cond (is_zero x) (pos 0) (norm (up w32 x 16))
temp-is c =
    elim c.if-dmax-eq0.branch [
      | then-dmax-eq0 w ↦ rw (w.temp-is, zero (record { before = c.before; if-dmax-eq0 = w.if-dmax-eq0 }))
      | else-dmax-eq0 w ↦
          rw (w.temp-is, other (record { before = c.before; if-dmax-eq0 = w.if-dmax-eq0 }))
          (res w.norm-temp ∙ (w.norm-temp.ensures ∙ ap norm (top-is c.before)))
    ]

pub returns-then-temp-gt6 : goal.returns-then-temp-gt6
unfolding scal
returns-then-temp-gt6 c =
    let t : lt_z (pos 6) (to_z w16 c.if-dmax-eq0.temp-bits) ≡ true = omega (zar, c.if-temp-gt6.true) in
    rw (← temp-is c.before, t)

pub returns-else-temp-gt6 : goal.returns-else-temp-gt6
unfolding scal
returns-else-temp-gt6 c =
    let j = c.before.before in
    let t : lt_z (pos 6) (to_z w16 j.if-dmax-eq0.temp-bits) ≡ false = omega (zar, c.if-temp-gt6.false) in
    rw (← temp-is j, t) (res c.sub ∙ c.sub.ensures)
