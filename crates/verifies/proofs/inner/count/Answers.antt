-- `inner::count` meets its contract: the first k are summed. Assumes nothing.
use native.Mathlib.Omega.{arith}
use lib.ListN.{get_or}
use Rattle.verifies.proofs.Summing.{accepted_low, counted_next, counted_all}
use Rattle.verifies.proofs.inner.count.Goals as goal

pub overflow_add-committed : goal.overflow_add-committed
overflow_add-committed c =
    let low = accepted_low (get_or c.args.drafts.now c.loop-k.k 0) (get_or c.args.commits.now c.loop-k.k 0) in
    omega (arith, c.loop-k.invariant.low, c.loop-k.invariant.small, c.loop-k.invariant.less, c.requires.0, c.requires.2.each c.loop-k.k c.loop-k-test.true, c.accepted-committed.ensures, low)

pub loop-k-preserved : goal.loop-k-preserved
loop-k-preserved c =
    let a = c.args in
    counted_next a.drafts.now a.commits.now c.loop-k.drafted c.loop-k.committed c.loop-k.k c.accepted-committed.result c.loop-k-test.true c.requires.1 c.requires.2 c.accepted-committed.ensures c.loop-k.invariant

pub returns : goal.returns
returns c = counted_all c.args.drafts.now c.args.commits.now c.loop-k.drafted c.loop-k.committed c.loop-k.k c.loop-k-test.false c.loop-k.invariant
