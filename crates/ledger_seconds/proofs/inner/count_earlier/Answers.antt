-- `ledger_seconds::inner::count_earlier` meets its contract: each turn of the loop is a step of the search by halves. Assumes nothing.
use mathlib.Core.Path.{sym, ◌∙◌}
use native.Mathlib.Omega.{arith}
use borrow.Author.Tests.{lt-ltb, le-ltb}
use Rattle.ledger_rows.specs.Words.{searched}
use Rattle.ledger_rows.proofs.Search.{turn_up, turn_down, turn_none}
use Rattle.ledger_seconds.specs.Seconds.{earlier_second}
use Rattle.ledger_seconds.proofs.inner.count_earlier.Goals as goal

pub loop-width-preserved-then-words-middle : goal.loop-width-preserved-then-words-middle
loop-width-preserved-then-words-middle c = (omega arith, c.loop-width.invariant.1 ∙ turn_up (earlier_second c.args.words.now c.args.second) c.loop-width.low c.loop-width.width c.loop-width-test.true (lt-ltb _ _ c.if-words-middle.true))

pub loop-width-preserved : goal.loop-width-preserved
loop-width-preserved c = (omega arith, c.loop-width.invariant.1 ∙ turn_down (earlier_second c.args.words.now c.args.second) c.loop-width.low c.loop-width.width c.loop-width-test.true (le-ltb _ _ c.if-words-middle.false))

pub returns : goal.returns
unfolding searched
returns c = (sym (c.loop-width.invariant.1 ∙ turn_none (earlier_second c.args.words.now c.args.second) c.loop-width.low c.loop-width.width c.loop-width-test.false), omega arith)
