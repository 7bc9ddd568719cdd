-- `shown::table` meets its contract: one part behind another. Assumes nothing.
use Rattle.page.proofs.Adding.{both}
use Rattle.shown.specs.Lines.{table_line}
use Rattle.shown.proofs.table.Goals as goal

pub returns : goal.returns
unfolding table_line
returns c = both c.headed-a.ensures c.append.ensures
