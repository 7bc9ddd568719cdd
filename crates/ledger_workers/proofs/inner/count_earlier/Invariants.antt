-- `ledger_workers::inner::count_earlier` meets its contract: each turn of the loop is a step of the search by halves. Assumes nothing.
use mathlib.Core.Path.{◌≡◌}
use Prim.Native.Nat.{◌≤◌, ◌+◌}
use Rattle.ledger_rows.specs.Words.{place}
use Rattle.ledger_workers.specs.Workers.{earlier_worker}
use Rattle.ledger_workers.proofs.inner.count_earlier.Given as goal

abbrev pub invariant-loop-width : goal.invariant-loop-width
invariant-loop-width l = (l.low + l.width ≤ l.rows) × (place l.rows (earlier_worker l.words l.a l.b) 0 l.rows ≡ place l.width (earlier_worker l.words l.a l.b) l.low l.width)

abbrev pub decreases-loop-width : goal.decreases-loop-width
decreases-loop-width l = l.width
