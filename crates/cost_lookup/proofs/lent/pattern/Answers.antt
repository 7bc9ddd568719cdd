-- `lent::pattern` meets its contract. Assumes nothing.
use Rattle.std.proofs.Common.{arith}
use Rattle.cost_lookup.proofs.Small.{has_bits, small_in_range}
use Rattle.cost_lookup.proofs.lent.pattern.Goals as goal

pub float_to_bits-result : goal.float_to_bits-result
float_to_bits-result c = has_bits _ c.if-x.true

pub returns-then-x : goal.returns-then-x
returns-then-x c = small_in_range c.args.x c.if-x.true

pub returns-else-x : goal.returns-else-x
returns-else-x c = λ h. absurd (omega arith)
