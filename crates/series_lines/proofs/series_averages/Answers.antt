-- `series_lines::series_averages` meets its contract. Assumes nothing.
use Rattle.page.proofs.Adding.{both}
use Rattle.series_lines.specs.Lines.{series_averages}
use Rattle.series_lines.proofs.series_averages.Goals as goal

pub returns : goal.returns
unfolding series_averages
returns c = both c.mean_column-a.ensures (both c.mean_column-b.ensures (both c.mean_column-c.ensures c.share_column.ensures))
