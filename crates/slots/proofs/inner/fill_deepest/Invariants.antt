-- `inner::fill_deepest` meets its contract. The loop's invariant is `Opening`: the entries stand for the sequences passed. Assumes nothing.
use Rattle.slots.specs.Slots.{down_from}
use Rattle.slots.proofs.Stacked.{Opening}
use Rattle.slots.proofs.inner.fill_deepest.Given as goal

abbrev pub invariant-loop-k : goal.invariant-loop-k
invariant-loop-k l = Opening down_from l.chains l.widths l.initial.rank l.initial.seq l.rank l.seq l.m l.k
