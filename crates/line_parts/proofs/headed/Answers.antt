-- `line_parts::headed` meets its contract: one text behind another. Assumes nothing.
use Rattle.page.proofs.Adding.{both}
use Rattle.line_parts.proofs.headed.Goals as goal

pub returns : goal.returns
returns c = both c.append_decimal-at.ensures c.labelled.ensures
