-- `ledger_seconds::inner::add_step` meets its contract: the place that is known is a row. Assumes nothing.
use Rattle.std.proofs.Common.{arith}
use Rattle.ledger_seconds.proofs.Ways.{second_in, second_rows}
use Rattle.ledger_seconds.proofs.inner.add_step.Goals as goal

pub raise-requires : goal.raise-requires
raise-requires c =
    let a = c.args in
    omega (arith, second_in a.words.now a.step.second a.found c.requires.0 c.if-found.true, second_rows a.words.now a.step.second a.found c.requires.0)
