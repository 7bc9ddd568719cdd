-- `shown::withdrawn` meets its contract. Assumes nothing.
use Rattle.shown.specs.Lines.{withdrawn_line}
use Rattle.shown.proofs.withdrawn.Goals as goal

pub returns : goal.returns
unfolding withdrawn_line
returns c = c.opened.ensures
