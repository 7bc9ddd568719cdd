-- `prices::price_of` meets its contract. Assumes nothing.
use lib.Ieee.{nan_bits}
use borrow.Author.Rules.{rules}
use Rattle.step_times.proofs.prices.price_of.Goals as goal

pub float_from_bits-result : goal.float_from_bits-result
unfolding nan_bits
float_from_bits-result c = search rules
