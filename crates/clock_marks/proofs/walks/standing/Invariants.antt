-- `clock_marks::walks::standing` meets its contract: each turn looks at one plan. Assumes nothing.
use mathlib.Core.Path.{◌≡◌}
use Prim.Native.Nat.{◌+◌, ◌-◌, ◌≤◌}
use Rattle.clock_marks.specs.Marks.{standing_from}
use Rattle.clock_marks.proofs.walks.standing.Given as goal

abbrev pub invariant-loop : goal.invariant-loop
invariant-loop l =
    (l.count ≤ l.counter) × (standing_from l.clock l.ring l.plans l.second l.most l.from ≡ l.count + standing_from l.clock l.ring l.plans l.second (l.most - l.counter) l.plan)
