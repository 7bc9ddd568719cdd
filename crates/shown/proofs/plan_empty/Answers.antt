-- `shown::plan_empty` meets its contract. Assumes nothing.
use Rattle.shown.specs.Lines.{plan_empty}
use Rattle.shown.proofs.plan_empty.Goals as goal

pub returns : goal.returns
unfolding plan_empty
returns c = c.opened.ensures
