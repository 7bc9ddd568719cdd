-- `inner::halves` meets its contract. Assumes nothing.
use mathlib.Core.Path.{◌≡◌}
use mathlib.Core.Bool.{true}
use Prim.Native.Nat.{◌≤◌, ◌+◌}
use lib.ListN.{length}
use Rattle.cost_rows.specs.Table.{zip}
use Rattle.cost_rows.specs.Order.{ordered}
use Rattle.nearest_row.specs.Place.{rows_before}
use Rattle.nearest_row.proofs.inner.halves.Given as goal

abbrev pub invariant-loop-size : goal.invariant-loop-size
invariant-loop-size l = (l.rows ≤ length l.depths) × (l.rows ≤ length l.batches) × (l.rows ≤ length l.seconds) × (ordered (zip l.rows l.depths l.batches l.seconds) ≡ true) × (l.low ≤ rows_before l.depth l.batch (zip l.rows l.depths l.batches l.seconds)) × (rows_before l.depth l.batch (zip l.rows l.depths l.batches l.seconds) ≤ l.low + l.size) × (l.low + l.size ≤ l.rows)

abbrev pub decreases-loop-size : goal.decreases-loop-size
decreases-loop-size l = l.size
