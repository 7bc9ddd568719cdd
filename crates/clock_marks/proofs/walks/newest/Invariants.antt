-- `clock_marks::walks::newest` meets its contract: each turn looks at one plan. Assumes nothing.
use mathlib.Core.Path.{◌≡◌}
use Prim.Native.Nat.{◌-◌}
use Rattle.clock_marks.specs.Marks.{newest_of}
use Rattle.clock_marks.proofs.walks.newest.Given as goal

abbrev pub invariant-loop-newer : goal.invariant-loop-newer
invariant-loop-newer l = newest_of l.clock l.ring l.a l.b l.among l.plans ≡ newest_of l.clock l.ring l.a l.b (l.among - l.newer) (l.plans - l.newer)
