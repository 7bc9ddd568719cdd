-- `outside` meets its contract. Assumes nothing.
use Rattle.chain_tests.proofs.UpTo.{has_bits, bits_say, above}
use Rattle.chain_tests.proofs.outside.Goals as goal

pub float_to_bits-result : goal.float_to_bits-result
float_to_bits-result c = has_bits _ _ c.requires c.if-x-high.true

pub returns-then-x-high : goal.returns-then-x-high
returns-then-x-high c = bits_say c.args.x c.args.high c.well_formed.0.1 c.requires c.if-x-high.true

pub returns-else-x-high : goal.returns-else-x-high
returns-else-x-high c = above c.args.x c.args.high c.requires c.if-x-high.false
