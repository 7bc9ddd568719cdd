-- `blocks::count` meets its contract: the count is that of the blocks passed and that of the rest. Assumes nothing.
use Rattle.blocks.specs.Blocks.{is_byte}
use Rattle.blocks.proofs.Tallies.{count_further}
use Rattle.blocks.proofs.count.Goals as goal

pub loop-rest-preserved : goal.loop-rest-preserved
loop-rest-preserved c =
    let r = c.loop-rest.rest.now in
    count_further c.args.s.now r c.loop-rest-test.true (is_byte c.args.byte) c.loop-rest.sum c.count_in.result c.loop-rest.invariant.0 c.loop-rest.invariant.1 c.count_in.ensures
