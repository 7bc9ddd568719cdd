-- `figures::nearest` meets its contract. Assumes nothing.
use Rattle.figures.proofs.Ways.{nearest_is}
use Rattle.figures.proofs.nearest.Goals as goal

pub returns : goal.returns
returns c = nearest_is c.args.twice c.args.count c.at_least_one-by.result c.at_least_one-by.ensures
