-- `inner::trim_bridged` meets its contract, by those of the functions that it calls. Assumes nothing.
use Rattle.verify_prices.proofs.Priced.{priced_bridged}
use Rattle.ragged.proofs.inner.trim_bridged.Goals as goal

pub trim-requires-clause-priced : goal.trim-requires-clause-priced
trim-requires-clause-priced c = priced_bridged c.args.curve.now _ c.requires.in_bounds c.fill_spans.ensures
