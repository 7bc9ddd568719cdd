-- `inner::block_seconds` meets its contract, whose operations are the code's. Assumes nothing.
use Rattle.speculative.specs.Drafter.{block_seconds}
use borrow.Author.Rules.{rules}
use Rattle.speculative.proofs.inner.block_seconds.Goals as goal

pub returns : goal.returns
unfolding block_seconds
returns c = search rules
