-- `answers::of_prices` meets its contract: by whether there is such a price. Assumes nothing.
use Rattle.exported_batches.proofs.Handed.{price_there, price_nowhere}
use Rattle.exported_batches.proofs.answers.of_prices.Goals as goal

pub returns-then-at-prices : goal.returns-then-at-prices
returns-then-at-prices c = price_there c.args.at c.args.prices.now _ _ c.tell.ensures c.bits-second.ensures c.if-at-prices.true

pub returns : goal.returns
returns c = price_nowhere c.args.at c.args.prices.now _ c.tell-2.ensures c.if-at-prices.false
