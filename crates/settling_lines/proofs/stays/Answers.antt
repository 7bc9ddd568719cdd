-- `settling_lines::stays` meets its contract: one part behind another. Assumes nothing.
use Rattle.page.proofs.Adding.{both}
use Rattle.settling_lines.proofs.stays.Goals as goal

pub returns : goal.returns
returns c = both c.headed-at.ensures c.append.ensures
