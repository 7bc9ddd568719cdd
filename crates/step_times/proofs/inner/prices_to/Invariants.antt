-- `inner::prices_to` meets its contract. Assumes nothing.
use mathlib.Core.Path.{◌≡◌}
use Prim.Native.Nat.{◌≤◌}
use Rattle.cost_rows.specs.Table.{zip}
use Rattle.nearest_row.specs.Lookup.{nearest}
use Rattle.nearest_row.specs.Place.{rows_before}
use Rattle.step_times.specs.Prices.{price_of}
use Rattle.step_times.proofs.Filled.{fill}
use Rattle.step_times.proofs.inner.prices_to.Given as goal

abbrev pub invariant-loop-g : goal.invariant-loop-g
invariant-loop-g l = (l.from ≤ rows_before l.g l.batch (zip l.rows l.depths l.batches l.seconds)) × (l.out ≡ fill (λ j. price_of l.kv_delta (nearest l.batch j (zip l.rows l.depths l.batches l.seconds))) l.g 0 l.initial.out)
