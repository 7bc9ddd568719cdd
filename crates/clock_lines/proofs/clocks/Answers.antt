-- `clock_lines::clocks` meets its contract: one part behind another. Assumes nothing.
use Rattle.page.proofs.Adding.{both}
use Rattle.clock_lines.specs.Lines.{clocks_line}
use Rattle.clock_lines.proofs.clocks.Goals as goal

pub returns : goal.returns
unfolding clocks_line
returns c =
    both c.labelled-made.ensures
    (both c.labelled-backward.ensures (both c.labelled-onward.ensures (both c.labelled-told.ensures c.append.ensures)))
