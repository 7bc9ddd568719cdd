-- `series_lines::series_row` meets its contract. Assumes nothing.
use Rattle.page.proofs.Adding.{both}
use Rattle.series_lines.specs.Lines.{series_row}
use Rattle.series_lines.proofs.series_row.Goals as goal

pub returns : goal.returns
unfolding series_row
returns c = both c.series_sums-at.ensures c.series_means.ensures
