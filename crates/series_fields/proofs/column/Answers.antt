-- `series_fields::column` meets its contract. Assumes nothing.
use Rattle.page.proofs.Adding.{both}
use Rattle.series_fields.specs.Fields.{column}
use Rattle.series_fields.proofs.column.Goals as goal

pub returns : goal.returns
unfolding column
returns c = both c.append-at.ensures c.append_number.ensures
