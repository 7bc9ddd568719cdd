-- `series_fields::share_column` meets its contract. Assumes nothing.
use Rattle.page.proofs.Adding.{both}
use Rattle.series_fields.specs.Fields.{share_column}
use Rattle.series_fields.proofs.share_column.Goals as goal

pub returns : goal.returns
unfolding share_column
returns c = both c.append-at.ensures c.append_share.ensures
