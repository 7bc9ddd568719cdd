-- `weighing::fill` meets its contract. The loop's invariant is `Opening`: the entries stand for the sequences passed. Assumes nothing.
use Rattle.slots.specs.Slots.{up_to, starts}
use Rattle.slots.proofs.Stacked.{Opening}
use Rattle.block.proofs.weighing.fill.Given as goal

abbrev pub invariant-loop-k : goal.invariant-loop-k
invariant-loop-k l = Opening up_to l.chains (starts l.depth l.lengths) l.initial.rank l.initial.seq l.rank l.seq l.m l.k
