-- `weighing::verify_bridged` meets its contract, by those of the functions that it calls. Assumes nothing.
use Rattle.verify_prices.proofs.Priced.{priced_bridged}
use Rattle.block.proofs.weighing.verify_bridged.Goals as goal

pub verify_block-requires-clause-priced : goal.verify_block-requires-clause-priced
verify_block-requires-clause-priced c = priced_bridged c.args.curve.now _ c.requires.in_bounds c.fill_spans.ensures
