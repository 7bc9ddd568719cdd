-- `columns::append_blanks` meets its contract: behind the text so many blanks stand as there were turns. Assumes nothing.
use native.Mathlib.Omega.{arith}
use Rattle.columns.proofs.Blanks.{none_added, blank_more, blanks_all}
use Rattle.columns.proofs.append_blanks.Goals as goal

pub loop-init : goal.loop-init
loop-init c = none_added c.append-at.ensures

pub loop-preserved : goal.loop-preserved
loop-preserved c = blank_more c.loop.counter c.loop.invariant c.append-at-in-loop.ensures

pub returns : goal.returns
returns c = blanks_all c.loop.counter c.args.n (omega arith) c.append-at.ensures c.loop.invariant
