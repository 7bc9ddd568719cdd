-- `float::is_finite` meets its contract. The pattern is +infinity's, which antt computes. Assumes nothing.
use lib.Ieee.{of_bits, nan_bits, neg}
use Rattle.float.proofs.Classes.{finite_below, not_below}
use Rattle.float.proofs.is_finite.Goals as goal

pub float_from_bits-infinity : goal.float_from_bits-infinity
unfolding nan_bits
float_from_bits-infinity c = tt

pub returns-then-x-infinity : goal.returns-then-x-infinity
unfolding of_bits neg
returns-then-x-infinity c = finite_below _ c.if-x-infinity.true

pub returns-else-x-infinity : goal.returns-else-x-infinity
unfolding of_bits
returns-else-x-infinity c = not_below _ c.if-x-infinity.false
