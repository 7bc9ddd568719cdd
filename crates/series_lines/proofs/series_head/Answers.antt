-- `series_lines::series_head` meets its contract. Assumes nothing.
use Rattle.page.proofs.Adding.{both}
use Rattle.series_lines.specs.Lines.{series_head}
use Rattle.series_lines.proofs.series_head.Goals as goal

pub returns : goal.returns
unfolding series_head
returns c = both c.append_decimal-a.ensures (both c.append-b.ensures (both c.append_decimal-c.ensures c.append.ensures))
