-- `series_fields::series_sums` meets its contract. Assumes nothing.
use Rattle.page.proofs.Adding.{both}
use Rattle.series_fields.specs.Fields.{series_sums}
use Rattle.series_fields.proofs.series_sums.Goals as goal

pub returns : goal.returns
unfolding series_sums
returns c = both c.append_decimal-a.ensures (both c.column-b.ensures (both c.column-c.ensures (both c.column-d.ensures (both c.column-e.ensures c.column.ensures))))
