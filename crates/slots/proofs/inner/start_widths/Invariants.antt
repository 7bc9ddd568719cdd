-- `inner::start_widths` meets its contract. Assumes nothing.
use Rattle.slots.proofs.Stacked.{Starting}
use Rattle.slots.proofs.inner.start_widths.Given as goal

abbrev pub invariant-loop-k : goal.invariant-loop-k
invariant-loop-k l = Starting l.depth l.lengths l.initial.widths l.widths l.k
