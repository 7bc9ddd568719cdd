-- `settling_lines::step` meets its contract: one part behind another. Assumes nothing.
use Rattle.page.proofs.Adding.{both}
use Rattle.settling_lines.specs.Lines.{step_line}
use Rattle.settling_lines.proofs.step.Goals as goal

pub returns : goal.returns
unfolding step_line
returns c = both c.headed-at.ensures c.way.ensures
