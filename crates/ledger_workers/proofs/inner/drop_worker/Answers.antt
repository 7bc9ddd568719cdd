-- `ledger_workers::inner::drop_worker` meets its contract: the place that is known is a row. Assumes nothing.
use Rattle.std.proofs.Common.{arith}
use Rattle.ledger_workers.proofs.Ways.{worker_in, worker_rows}
use Rattle.ledger_workers.proofs.inner.drop_worker.Goals as goal

pub take-requires : goal.take-requires
take-requires c =
    let a = c.args in
    let p = c.place-found in
    (worker_in a.words.now a.a a.b p.result p.ensures c.if-found.true, omega (arith, worker_rows a.words.now a.a a.b p.result p.ensures), omega arith, omega arith)
