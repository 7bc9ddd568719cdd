-- `ledger_workers::inner::put` meets its contract: the place that is known is a row. Assumes nothing.
use Rattle.std.proofs.Common.{arith}
use Rattle.ledger_workers.proofs.Ways.{worker_in, worker_rows}
use Rattle.ledger_workers.proofs.inner.put.Goals as goal

pub store-requires : goal.store-requires
store-requires c =
    let a = c.args in
    let p = c.place-found in
    omega (arith, worker_in a.words.now a.a a.b p.result p.ensures c.if-found.true, worker_rows a.words.now a.a a.b p.result p.ensures)
