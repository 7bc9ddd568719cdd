-- `settling_lines::within` meets its contract: one part behind another. Assumes nothing.
use Rattle.page.proofs.Adding.{both}
use Rattle.settling_lines.proofs.within.Goals as goal

pub returns : goal.returns
returns c = both c.opened-at.ensures c.way.ensures
