-- `lent::are_in_range` meets its contract. Assumes nothing.
use Rattle.std.proofs.Common.{◌≡◌, ◌&&◌, drop}
use Rattle.cost_rows.specs.Table.{zip}
use Rattle.cost_rows.specs.Lawful.{all_in_range}
use Rattle.cost_lookup.proofs.lent.are_in_range.Given as goal

abbrev pub invariant-loop-i : goal.invariant-loop-i
invariant-loop-i l = (l.are_good && all_in_range (drop l.i (zip l.n l.depths l.batches l.seconds))) ≡ all_in_range (zip l.n l.depths l.batches l.seconds)
