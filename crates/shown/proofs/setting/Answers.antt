-- `shown::setting` meets its contract: one part behind another. Assumes nothing.
use Rattle.page.proofs.Adding.{both}
use Rattle.shown.specs.Lines.{setting_line}
use Rattle.shown.proofs.setting.Goals as goal

pub returns : goal.returns
unfolding setting_line
returns c = both c.opened-a.ensures (both c.append-b.ensures c.append.ensures)
