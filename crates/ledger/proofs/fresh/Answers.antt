-- `ledger::fresh` meets its contract. Assumes nothing.
use Rattle.ledger.proofs.Ways.{emptied_done}
use Rattle.ledger.proofs.fresh.Goals as goal

pub returns : goal.returns
returns c = emptied_done c.args.storage.now c.if-storage-lt-ROOM.false _ (c.fill.ensures.after (λ y h. h))
