-- `lent::last_three` meets its contract. Assumes nothing.
use Rattle.cost_lookup.proofs.Small.{three_last}
use Rattle.cost_lookup.proofs.lent.last_three.Goals as goal

pub returns : goal.returns
returns c =
    three_last c.args.seconds.now c.args.n _ _ _ c.requires.0 c.pattern.ensures c.pattern-2.ensures c.pattern-3.ensures
