-- `inner::add_four` meets its contract. The invariant: what is summed, followed by what is left with the rest of the four chains added, is the whole. Assumes nothing.
use Rattle.chains.proofs.Four.{Added}
use Rattle.chains.proofs.inner.add_four.Given as goal

abbrev pub invariant-loop-d : goal.invariant-loop-d
invariant-loop-d l = Added l.width l.block l.initial.sums l.sums l.p l.q l.r l.s l.d
