-- `ledger::collect` meets its contract. Assumes nothing.
use Rattle.ledger.proofs.Ways.{collected_known}
use Rattle.ledger.proofs.collect.Goals as goal

pub returns-then-past-eq2 : goal.returns-then-past-eq2
returns-then-past-eq2 c = collected_known c.args.storage.now c.if-storage-lt-ROOM.false c.args.a c.args.b c.past-past.result _ _ c.past-past.ensures c.if-past-eq2.true c.act_collect.ensures c.of_bits.ensures
