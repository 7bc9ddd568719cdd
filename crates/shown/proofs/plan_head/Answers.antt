-- `shown::plan_head` meets its contract: one part behind another. Assumes nothing.
use Rattle.page.proofs.Adding.{both}
use Rattle.shown.specs.Lines.{plan_head}
use Rattle.shown.proofs.plan_head.Goals as goal

pub returns : goal.returns
unfolding plan_head
returns c = both c.headed-a.ensures (both c.labelled-b.ensures (both c.labelled-c.ensures c.labelled.ensures))
