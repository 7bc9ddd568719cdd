-- `inner::best_in` meets its contract. The loop's invariant: the best of what is left, from the best so far on, is the best of the whole. Assumes nothing.
use mathlib.Core.Path.{◌≡◌, sym, ◌∙◌, ap}
use Prim.Native.Nat.{ℕ, ◌+◌}
use native.Mathlib.Numerals.{add-one}
use native.Mathlib.Omega.{arith}
use lib.Ieee.{of_bits, neg}
use Rattle.depths.specs.Worths.{unweighed, raised_from}
use Rattle.depths.proofs.Worths.{raised_next, raised_ended}
use Rattle.depths.proofs.inner.best_in.Goals as goal

pub loop-g-init : goal.loop-g-init
unfolding of_bits neg
loop-g-init c =
    let e : c.args.from + 0 ≡ c.args.from = omega arith in
    ap (λ (k : ℕ). raised_from k unweighed c.args.worths.now) e

pub loop-g-preserved : goal.loop-g-preserved
loop-g-preserved c =
    let at = c.loop-g in
    let a = c.args in
    let e : a.from + (at.g + 1) ≡ a.from + at.g + 1 = omega arith in
    rw (e, add-one (a.from + at.g), add-one at.g, c.raised-best.ensures)
    (raised_next a.from at.g at.best a.worths.now c.loop-g-test.true ∙ at.invariant)

pub returns : goal.returns
returns c =
    let at = c.loop-g in
    let a = c.args in
    sym (raised_ended at.g (a.from + at.g) at.best a.worths.now c.loop-g-test.false) ∙ at.invariant
