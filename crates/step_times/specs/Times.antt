-- The seconds of a step at a measured depth. Assumes nothing.
use Rattle.std.specs.Prelude.{ℕ, List, Float, Option, Some, None}
use Rattle.nearest_row.specs.declared.Nearest.{Nearest}
use Rattle.cost_rows.specs.Table.{Row}
use Rattle.nearest_row.specs.Lookup.{nearest}

unfoldable pub time_of : Option Nearest → Option Float
time_of (Some near) = Some near.seconds
time_of None = None

unfoldable pub step_time : ℕ → ℕ → List Row → Option Float
unfolding nearest time_of
step_time batch g t = time_of (nearest batch g t)
