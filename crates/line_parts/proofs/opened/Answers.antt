-- `line_parts::opened` meets its contract: one text behind another. Assumes nothing.
use Rattle.page.proofs.Adding.{both}
use Rattle.line_parts.proofs.opened.Goals as goal

pub returns : goal.returns
returns c = both c.append_decimal-at.ensures c.append.ensures
