-- `ledger_seconds::inner::count_earlier` meets its contract: each turn of the loop is a step of the search by halves. Assumes nothing.
use mathlib.Core.Path.{◌≡◌}
use Prim.Native.Nat.{◌≤◌, ◌+◌}
use Rattle.ledger_rows.specs.Words.{place}
use Rattle.ledger_seconds.specs.Seconds.{earlier_second}
use Rattle.ledger_seconds.proofs.inner.count_earlier.Given as goal

abbrev pub invariant-loop-width : goal.invariant-loop-width
invariant-loop-width l = (l.low + l.width ≤ l.rows) × (place l.rows (earlier_second l.words l.second) 0 l.rows ≡ place l.width (earlier_second l.words l.second) l.low l.width)

abbrev pub decreases-loop-width : goal.decreases-loop-width
decreases-loop-width l = l.width
