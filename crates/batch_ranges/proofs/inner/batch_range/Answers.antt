-- `inner::batch_range` meets its contract. Assumes nothing.
use mathlib.Core.Path.{refl, sym, ◌∙◌}
use native.Mathlib.Omega.{arith}
use Rattle.batch_ranges.specs.Range.{range_of}
use Rattle.batch_ranges.proofs.Turns.{range_here, range_other, range_end}
use Rattle.batch_ranges.proofs.inner.batch_range.Goals as goal
use Rattle.batch_ranges.proofs.inner.batch_range.Goals.{then-depths-i, else-depths-i}

pub loop-i-init : goal.loop-i-init
unfolding range_of
loop-i-init c = refl

pub loop-i-preserved : goal.loop-i-preserved
loop-i-preserved c =
    let p = c.requires.rows_in_bounds in
    elim c.if-depths-i.branch [
      | then-depths-i w ↦ rw (w.range-is, w.widen-range.ensures) (sym (range_here c.args.rows c.args.depths.now c.args.batches.now c.args.seconds.now p.0 p.1 p.2 c.loop-i.i (omega arith) c.args.depth c.loop-i.range w.if-depths-i.true) ∙ c.loop-i.invariant)
      | else-depths-i w ↦ rw w.range-is (sym (range_other c.args.rows c.args.depths.now c.args.batches.now c.args.seconds.now p.0 p.1 p.2 c.loop-i.i (omega arith) c.args.depth c.loop-i.range w.if-depths-i.false) ∙ c.loop-i.invariant)
    ]

pub returns : goal.returns
returns c = let p = c.requires.rows_in_bounds in sym (range_end c.args.rows c.args.depths.now c.args.batches.now c.args.seconds.now p.0 p.1 p.2 c.loop-i.i (omega arith) c.args.depth c.loop-i.range) ∙ c.loop-i.invariant
