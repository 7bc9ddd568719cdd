-- `clock_lines::note` meets its contract: one part behind another. Assumes nothing.
use Rattle.page.proofs.Adding.{both}
use Rattle.clock_lines.specs.Lines.{note_line}
use Rattle.clock_lines.proofs.note.Goals as goal

pub returns : goal.returns
unfolding note_line
returns c = both c.note_head-head.ensures (both c.clock_told-told.ensures c.append.ensures)
