-- `figures::figure` meets its contract. Assumes nothing.
use Rattle.figures.specs.Figures.{figure_millionths}
use Rattle.figures.proofs.figure.Goals as goal

pub returns : goal.returns
unfolding figure_millionths
returns c = c.whole_part.ensures
