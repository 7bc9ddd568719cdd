-- `shown::bank` meets its contract: one part behind another. Assumes nothing.
use Rattle.page.proofs.Adding.{both}
use Rattle.shown.specs.Lines.{bank_line}
use Rattle.shown.proofs.bank.Goals as goal

pub returns : goal.returns
unfolding bank_line
returns c = both c.headed-a.ensures (both c.labelled-b.ensures c.append.ensures)
