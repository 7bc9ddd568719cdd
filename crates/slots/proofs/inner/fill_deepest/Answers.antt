-- `inner::fill_deepest` meets its contract. The loop's invariant is `Opening`: the entries stand for the sequences passed. Assumes nothing.
use mathlib.Core.Path.{sym, ap, ◌∙◌}
use mathlib.Core.Bool.{Bool}
use native.Mathlib.Omega.{arith}
use Rattle.heap.specs.Heap.{candidate}
use Rattle.slots.proofs.Stacked.{opening_more, opening_none, opening_end}
use Rattle.slots.proofs.inner.fill_deepest.Goals as goal
use Rattle.slots.proofs.inner.fill_deepest.Goals.{then-slot, else-slot}

pub loop-k-preserved : goal.loop-k-preserved
loop-k-preserved c =
    let at = c.loop-k in
    let rank = c.deepest-slot.result.rank in
    let few = c.requires.fits.few in
    elim c.if-slot.branch [
      | then-slot w ↦
          rw (w.rank-is, w.seq-is, w.m-is)
          (opening_more at.invariant rank c.loop-k-test.true (omega (arith, c.requires.widths_in_bounds.0, few)) (omega (arith, c.requires.widths_in_bounds.1, few))
          (ap (λ (b : Bool). candidate b rank) (sym w.if-slot.true) ∙ c.deepest-slot.ensures))
      | else-slot w ↦
          rw (w.rank-is, w.seq-is, w.m-is) (opening_none at.invariant c.loop-k-test.true (ap (λ (b : Bool). candidate b rank) (sym w.if-slot.false) ∙ c.deepest-slot.ensures))
    ]

pub returns : goal.returns
returns c = (omega (arith, c.loop-k.invariant.few, c.loop-k.invariant.passed), opening_end c.loop-k.invariant c.loop-k-test.false)
