-- `series_lines::series_means` meets its contract. Assumes nothing.
use Rattle.page.proofs.Adding.{both}
use Rattle.series_lines.specs.Lines.{series_means}
use Rattle.series_lines.proofs.series_means.Goals as goal

pub returns : goal.returns
unfolding series_means
returns c = both c.series_averages-a.ensures (both c.append-b.ensures (both c.append_mean_bar-c.ensures c.append.ensures))
