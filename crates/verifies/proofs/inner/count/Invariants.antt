-- `inner::count` meets its contract: the first k are summed. Assumes nothing.
use Rattle.verifies.proofs.Summing.{Counted}
use Rattle.verifies.proofs.inner.count.Given as goal

abbrev pub invariant-loop-k : goal.invariant-loop-k
invariant-loop-k l = Counted l.drafts l.commits l.drafted l.committed l.k
