-- `shown::plan_lists` meets its contract: one part behind another. Assumes nothing.
use Rattle.page.proofs.Adding.{both}
use Rattle.shown.specs.Lines.{plan_lists}
use Rattle.shown.proofs.plan_lists.Goals as goal

pub returns : goal.returns
unfolding plan_lists
returns c = both c.listed-a.ensures (both c.listed-b.ensures c.append.ensures)
