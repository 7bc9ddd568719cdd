-- `ledger_workers::inner::count_earlier` meets its contract: each turn of the loop is a step of the search by halves. Assumes nothing.
use mathlib.Core.Path.{sym, ◌∙◌}
use native.Mathlib.Omega.{arith}
use Rattle.ledger_rows.specs.Words.{searched}
use Rattle.ledger_rows.proofs.Search.{turn_up, turn_down, turn_none}
use Rattle.ledger_workers.specs.Workers.{earlier_worker}
use Rattle.ledger_workers.proofs.inner.count_earlier.Goals as goal

pub loop-width-preserved-then-is_earlier : goal.loop-width-preserved-then-is_earlier
loop-width-preserved-then-is_earlier c = (omega arith, c.loop-width.invariant.1 ∙ turn_up (earlier_worker c.args.words.now c.args.a c.args.b) c.loop-width.low c.loop-width.width c.loop-width-test.true (sym c.is_earlier.ensures ∙ c.if-is_earlier.true))

pub loop-width-preserved : goal.loop-width-preserved
loop-width-preserved c = (omega arith, c.loop-width.invariant.1 ∙ turn_down (earlier_worker c.args.words.now c.args.a c.args.b) c.loop-width.low c.loop-width.width c.loop-width-test.true (sym c.is_earlier.ensures ∙ c.if-is_earlier.false))

pub returns : goal.returns
unfolding searched
returns c = (sym (c.loop-width.invariant.1 ∙ turn_none (earlier_worker c.args.words.now c.args.a c.args.b) c.loop-width.low c.loop-width.width c.loop-width-test.false), omega arith)
