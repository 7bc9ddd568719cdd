-- `lent::are_in_order` meets its contract. Assumes nothing.
use Rattle.std.proofs.Common.{◌≡◌, ◌-◌, ◌&&◌, get_or, drop}
use Rattle.cost_rows.specs.Table.{zip}
use Rattle.cost_rows.specs.Order.{ordered}
use Rattle.cost_lookup.proofs.Turns.{after}
use Rattle.cost_lookup.proofs.lent.are_in_order.Given as goal

abbrev pub invariant-loop-i : goal.invariant-loop-i
invariant-loop-i l = (l.are_good && after (get_or l.depths (l.i - 1) 0) (get_or l.batches (l.i - 1) 0) (drop l.i (zip l.n l.depths l.batches l.seconds))) ≡ ordered (zip l.n l.depths l.batches l.seconds)
