-- `blocks::is_ascii` meets its contract: blocks without a high byte are passed. Assumes nothing.
use Rattle.blocks.proofs.Tallies.{ascii_further, ascii_stops, ascii_ends}
use Rattle.blocks.proofs.is_ascii.Goals as goal

pub returns-then-high_in-ne0 : goal.returns-then-high_in-ne0
returns-then-high_in-ne0 c = ascii_stops c.args.s.now c.loop-rest.rest.now c.loop-rest-test.true c.high_in.result c.loop-rest.invariant c.high_in.ensures c.if-high_in-ne0.true

pub loop-rest-preserved : goal.loop-rest-preserved
loop-rest-preserved c = ascii_further c.args.s.now c.loop-rest.rest.now c.loop-rest-test.true c.high_in.result c.loop-rest.invariant c.high_in.ensures c.if-high_in-ne0.false

pub returns : goal.returns
returns c = ascii_ends c.args.s.now c.loop-rest.rest.now c.high_in-2.result c.loop-rest.invariant c.high_in-2.ensures
