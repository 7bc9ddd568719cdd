-- `figures::mean` meets its contract. Assumes nothing.

use Rattle.figures.proofs.mean.Goals as goal

pub returns : goal.returns
returns c = c.nearest.ensures
