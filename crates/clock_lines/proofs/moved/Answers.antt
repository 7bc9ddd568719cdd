-- `clock_lines::moved` meets its contract: nothing of no seconds, else the words, the seconds and their sign. Assumes nothing.
use Rattle.page.proofs.Adding.{both}
use Rattle.clock_lines.proofs.Any.{none, some}
use Rattle.clock_lines.proofs.moved.Goals as goal

pub returns-then-seconds-eq0 : goal.returns-then-seconds-eq0
returns-then-seconds-eq0 c = none _ _ c.if-seconds-eq0.true c.append.ensures

pub returns : goal.returns
returns c = some _ _ c.if-seconds-eq0.false (both c.labelled-at.ensures c.append-2.ensures)
