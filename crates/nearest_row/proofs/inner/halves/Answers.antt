-- `inner::halves` meets its contract. Assumes nothing.
use Rattle.nearest_row.proofs.Placed.{turned, ended}
use Rattle.nearest_row.proofs.inner.halves.Goals as goal

pub loop-size-preserved : goal.loop-size-preserved
loop-size-preserved c =
    let v = c.loop-size.invariant in
    let turn = turned c.args.rows c.args.depths.now c.args.batches.now c.args.seconds.now c.loop-size.invariant.0 c.loop-size.invariant.1 c.loop-size.invariant.2 c.loop-size.invariant.3 c.args.depth c.args.batch c.goes_before-is_before.result c.loop-size.low c.loop-size.size c.further-low.result c.loop-size-test.true v.4 v.5 v.6 c.goes_before-is_before.ensures c.further-low.ensures in
    (v.0, v.1, v.2, v.3, turn.0, turn.1, turn.2)

pub returns : goal.returns
returns c = let v = c.loop-size.invariant in ended c.args.rows c.args.depths.now c.args.batches.now c.args.seconds.now c.loop-size.invariant.0 c.loop-size.invariant.1 c.loop-size.invariant.2 c.loop-size.invariant.3 c.args.depth c.args.batch c.goes_before-is_before-2.result c.loop-size.low c.loop-size.size c.further.result c.loop-size-test.false c.if-size-lt1.false v.4 v.5 v.6 c.goes_before-is_before-2.ensures c.further.ensures
