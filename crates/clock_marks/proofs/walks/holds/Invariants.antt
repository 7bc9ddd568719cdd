-- `clock_marks::walks::holds` meets its contract: each turn looks at one plan. Assumes nothing.
use mathlib.Core.Path.{◌≡◌}
use Prim.Native.Nat.{◌-◌}
use Rattle.clock_marks.specs.Marks.{holds_from}
use Rattle.clock_marks.proofs.walks.holds.Given as goal

abbrev pub invariant-loop : goal.invariant-loop
invariant-loop l = holds_from l.clock l.ring l.plans l.second l.most l.from ≡ holds_from l.clock l.ring l.plans l.second (l.most - l.counter) l.plan
