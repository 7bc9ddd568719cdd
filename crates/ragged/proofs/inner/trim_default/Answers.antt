-- `inner::trim_default` meets its contract: a default price reads no spans. Assumes nothing.
use Rattle.verify_prices.proofs.Priced.{priced_default}
use Rattle.ragged.proofs.inner.trim_default.Goals as goal

pub trim-requires-clause-priced : goal.trim-requires-clause-priced
trim-requires-clause-priced c = priced_default c.args.curve.now _ c.requires.in_bounds
