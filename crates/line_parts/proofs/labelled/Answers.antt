-- `line_parts::labelled` meets its contract: one text behind another. Assumes nothing.
use Rattle.page.proofs.Adding.{both}
use Rattle.line_parts.proofs.labelled.Goals as goal

pub returns : goal.returns
returns c = both c.append-at.ensures c.append_decimal.ensures
