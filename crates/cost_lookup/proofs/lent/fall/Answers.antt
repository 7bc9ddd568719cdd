-- `lent::fall` meets its contract. Assumes nothing.
use Rattle.std.proofs.Common.{le-ltb, lt-ltb}
use Rattle.cost_lookup.proofs.lent.fall.Goals as goal

pub returns-then-batch-front-clause-value : goal.returns-then-batch-front-clause-value
returns-then-batch-front-clause-value c = simp (lt-ltb _ _ c.if-batch-front.true)

pub returns-else-batch-front-clause-value : goal.returns-else-batch-front-clause-value
returns-else-batch-front-clause-value c = simp (le-ltb _ _ c.if-batch-front.false)
