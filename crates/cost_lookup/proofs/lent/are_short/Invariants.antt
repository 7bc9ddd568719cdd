-- `lent::are_short` meets its contract: where the patterns so far are small, what was passed is in range. Assumes nothing.
use Rattle.cost_lookup.proofs.Small.{Last, Front, Back}
use Rattle.cost_lookup.proofs.lent.are_short.Given as goal

abbrev pub invariant-loop-i : goal.invariant-loop-i
invariant-loop-i l = Last l.seconds l.n l.low × Front l.seconds l.quarter l.low l.i × Back l.seconds l.quarter l.high l.i
