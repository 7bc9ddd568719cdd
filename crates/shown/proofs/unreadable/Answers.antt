-- `shown::unreadable` meets its contract: one part behind another. Assumes nothing.
use Rattle.page.proofs.Adding.{both}
use Rattle.shown.specs.Lines.{unreadable_line}
use Rattle.shown.proofs.unreadable.Goals as goal

pub returns : goal.returns
unfolding unreadable_line
returns c = both c.opened-a.ensures (both c.append-b.ensures c.append.ensures)
