-- `shown::wrong` meets its contract: one part behind another. Assumes nothing.
use Rattle.page.proofs.Adding.{both}
use Rattle.shown.specs.Lines.{wrong_line}
use Rattle.shown.proofs.wrong.Goals as goal

pub returns : goal.returns
unfolding wrong_line
returns c = both c.headed-a.ensures (both c.append-b.ensures (both c.expectation-c.ensures c.append.ensures))
