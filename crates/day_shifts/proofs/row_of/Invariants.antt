-- `day_shifts::row_of` meets its contract: each turn looks at one row. Assumes nothing.
use mathlib.Core.Path.{◌≡◌}
use Prim.Native.Nat.{◌-◌}
use Rattle.day_shifts.specs.Shifts.{row_from}
use Rattle.day_shifts.proofs.row_of.Given as goal

abbrev pub invariant-loop-row : goal.invariant-loop-row
invariant-loop-row l = row_from l.shifts l.a l.b l.rows 0 ≡ row_from l.shifts l.a l.b (l.rows - l.row) l.row
