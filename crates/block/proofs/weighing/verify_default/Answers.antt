-- `weighing::verify_default` meets its contract: a default price reads no spans. Assumes nothing.
use Rattle.verify_prices.proofs.Priced.{priced_default}
use Rattle.block.proofs.weighing.verify_default.Goals as goal

pub verify_block-requires-clause-priced : goal.verify_block-requires-clause-priced
verify_block-requires-clause-priced c = priced_default c.args.curve.now _ c.requires.in_bounds
