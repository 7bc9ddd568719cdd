-- `inner::prices` meets its contract. Assumes nothing.
use Rattle.step_times.specs.Prices.{prices}
use borrow.Author.Rules.{rules}
use Rattle.step_times.proofs.inner.prices.Goals as goal

pub returns : goal.returns
unfolding prices
returns c = search rules
