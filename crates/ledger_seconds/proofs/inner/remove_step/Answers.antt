-- `ledger_seconds::inner::remove_step` meets its contract: the place that is known is a row. Assumes nothing.
use Rattle.std.proofs.Common.{arith}
use Rattle.ledger_seconds.proofs.Ways.{second_in, second_rows}
use Rattle.ledger_seconds.proofs.inner.remove_step.Goals as goal

pub lower-requires : goal.lower-requires
lower-requires c =
    let t = c.args.step.second in
    let p = c.place-found in
    (second_in c.args.words.now t p.result p.ensures c.if-found.true, omega (arith, second_rows c.args.words.now t p.result p.ensures), c.requires)
