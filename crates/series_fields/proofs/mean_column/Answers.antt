-- `series_fields::mean_column` meets its contract. Assumes nothing.
use Rattle.page.proofs.Adding.{both}
use Rattle.series_fields.specs.Fields.{mean_column}
use Rattle.series_fields.proofs.mean_column.Goals as goal

pub returns : goal.returns
unfolding mean_column
returns c = both c.append-at.ensures c.append_mean.ensures
