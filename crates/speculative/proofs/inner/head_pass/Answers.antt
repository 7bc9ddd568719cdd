-- `inner::head_pass` meets its contract, whose operations are the code's. Assumes nothing.
use Rattle.speculative.specs.Drafter.{head_pass}
use borrow.Author.Rules.{rules}
use Rattle.speculative.proofs.inner.head_pass.Goals as goal

pub returns : goal.returns
unfolding head_pass
returns c = search rules
