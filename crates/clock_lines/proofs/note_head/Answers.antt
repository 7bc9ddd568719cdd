-- `clock_lines::note_head` meets its contract: one part behind another. Assumes nothing.
use Rattle.page.proofs.Adding.{both}
use Rattle.clock_lines.proofs.note_head.Goals as goal

pub returns : goal.returns
returns c = both c.headed-named.ensures (both c.labelled-whose.ensures c.labelled.ensures)
