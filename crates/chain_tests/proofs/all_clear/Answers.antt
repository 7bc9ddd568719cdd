-- `all_clear` meets its contract: the top bit is clear so far, and the entries left pass, where all do. Assumes nothing.
use Rattle.chain_tests.proofs.UpTo.{clear_next, clear_end}
use Rattle.chain_tests.proofs.all_clear.Goals as goal

pub loop-x-preserved : goal.loop-x-preserved
loop-x-preserved g c = λ test says.
    clear_next test c.args.values.now c.loop-x.x-index c.loop-x.faults (c.loop-x.invariant test says) _ c.loop-x-test.true (says _ _ c.fault-faults.ensures)

pub returns : goal.returns
returns g c = λ test says. clear_end test c.args.values.now c.loop-x.x-index c.loop-x.faults (c.loop-x.invariant test says) c.loop-x-test.false
