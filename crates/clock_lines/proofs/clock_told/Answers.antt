-- `clock_lines::clock_told` meets its contract: one part behind another. Assumes nothing.
use Rattle.page.proofs.Adding.{both}
use Rattle.clock_lines.proofs.clock_told.Goals as goal

pub returns : goal.returns
returns c = both c.moved-backward.ensures (both c.moved-onward.ensures c.counted_again.ensures)
