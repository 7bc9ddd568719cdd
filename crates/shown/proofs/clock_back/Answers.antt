-- `shown::clock_back` meets its contract: one part behind another. Assumes nothing.
use Rattle.page.proofs.Adding.{both}
use Rattle.shown.specs.Lines.{clock_back}
use Rattle.shown.proofs.clock_back.Goals as goal

pub returns : goal.returns
unfolding clock_back
returns c = both c.headed-a.ensures (both c.labelled-b.ensures c.append.ensures)
