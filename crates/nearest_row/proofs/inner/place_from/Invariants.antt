-- `inner::place_from` meets its contract. Assumes nothing.
use mathlib.Core.Path.{◌≡◌}
use mathlib.Core.Bool.{true}
use Prim.Native.Nat.{◌≤◌, ◌-◌}
use lib.ListN.{length}
use Rattle.cost_rows.specs.Table.{zip}
use Rattle.cost_rows.specs.Order.{ordered}
use Rattle.nearest_row.specs.Place.{rows_before}
use Rattle.nearest_row.proofs.inner.place_from.Given as goal

abbrev pub invariant-loop-low : goal.invariant-loop-low
invariant-loop-low l = (l.rows ≤ length l.depths) × (l.rows ≤ length l.batches) × (l.rows ≤ length l.seconds) × (ordered (zip l.rows l.depths l.batches l.seconds) ≡ true) × (l.low ≤ rows_before l.depth l.batch (zip l.rows l.depths l.batches l.seconds)) × (l.low ≤ l.rows)

abbrev pub decreases-loop-low : goal.decreases-loop-low
decreases-loop-low l = l.rows - l.low
