-- `lent::do_rise` meets its contract: where the rises so far are small, the order is that of the rows left. Assumes nothing.
use Rattle.cost_lookup.proofs.Rising.{Rising}
use Rattle.cost_lookup.proofs.lent.do_rise.Given as goal

abbrev pub invariant-loop-i : goal.invariant-loop-i
invariant-loop-i l = Rising l.n l.depths l.batches l.seconds l.rises l.i
