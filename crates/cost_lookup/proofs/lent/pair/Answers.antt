-- `lent::pair` meets its contract. Assumes nothing.
use Rattle.std.proofs.Common.{arith}
use Rattle.cost_lookup.proofs.Pairs.{left_bits, right_bits, both_in_range}
use Rattle.cost_lookup.proofs.lent.pair.Goals as goal

pub float_to_bits-result : goal.float_to_bits-result
float_to_bits-result c = left_bits c.args.x c.args.y c.if-x-y.true

pub float_to_bits-result-then-x-y : goal.float_to_bits-result-then-x-y
float_to_bits-result-then-x-y c = right_bits c.args.x c.args.y c.if-x-y.true

pub returns-then-x-y : goal.returns-then-x-y
returns-then-x-y c = both_in_range c.args.x c.args.y c.if-x-y.true

pub returns-else-x-y : goal.returns-else-x-y
returns-else-x-y c = λ h. absurd (omega arith)
