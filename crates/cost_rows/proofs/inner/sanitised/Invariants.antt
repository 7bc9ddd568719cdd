-- `cost_rows::inner::sanitised` meets its contract. Assumes nothing.
use mathlib.Core.Path.{◌≡◌}
use Prim.Native.Nat.{◌≤◌}
use lib.ListN.{drop}
use Rattle.cost_rows.specs.Table.{zip, counted}
use Rattle.cost_rows.specs.Prune.{kept}
use Rattle.cost_rows.proofs.Columns.{Done}
use Rattle.cost_rows.proofs.inner.sanitised.Given as goal

abbrev pub invariant-loop-i : goal.invariant-loop-i
invariant-loop-i l = (l.left ≤ l.i) × (l.n ≡ counted l.rows l.initial.depths l.initial.batches l.initial.seconds) × Done (kept (zip l.n l.initial.depths l.initial.batches l.initial.seconds)) l.left l.initial.depths l.initial.batches l.initial.seconds l.depths l.batches l.seconds × (drop l.left (kept (zip l.n l.initial.depths l.initial.batches l.initial.seconds)) ≡ kept (drop l.i (zip l.n l.initial.depths l.initial.batches l.initial.seconds)))
