-- `ledger_seconds::inner::place` meets its contract. Assumes nothing.
use native.Mathlib.Omega.{arith}
use Rattle.ledger_seconds.proofs.Ways.{place_none, place_after, place_newest, place_else}
use Rattle.ledger_seconds.proofs.inner.place.Goals as goal

pub returns-then-rows-eq0 : goal.returns-then-rows-eq0
returns-then-rows-eq0 c = place_none c.args.words.now c.args.second c.held-rows.result c.held-rows.ensures c.if-rows-eq0.true

pub returns-then-newest-second : goal.returns-then-newest-second
returns-then-newest-second c = place_after c.args.words.now c.args.second c.held-rows.result c.held-rows.ensures (omega arith) c.if-newest-second.true

pub returns-then-newest-second-2 : goal.returns-then-newest-second-2
returns-then-newest-second-2 c = place_newest c.args.words.now c.args.second c.held-rows.result c.held-rows.ensures (omega arith) c.if-newest-second.false c.if-newest-second-2.true

pub returns : goal.returns
returns c = place_else c.args.words.now c.args.second c.held-rows.result c.held-rows.ensures c.count_earlier-row.result c.is_that-known.result (omega arith) c.if-newest-second.false c.if-newest-second-2.false c.count_earlier-row.ensures.0 c.is_that-known.ensures
