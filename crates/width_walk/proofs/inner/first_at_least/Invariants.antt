-- `inner::first_at_least` meets its contract: what was passed and the answer for what is left make the answer. Assumes nothing.
use mathlib.Core.Path.{◌≡◌}
use Prim.Native.Nat.{◌+◌}
use lib.ListN.{drop}
use Rattle.width_walk.specs.Walk.{first_at_least}
use Rattle.width_walk.proofs.inner.first_at_least.Given as goal

abbrev pub invariant-loop-i : goal.invariant-loop-i
invariant-loop-i l = l.i + first_at_least (drop l.i l.candidates) l.x ≡ first_at_least l.candidates l.x
