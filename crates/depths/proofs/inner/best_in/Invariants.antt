-- `inner::best_in` meets its contract. The loop's invariant: the best of what is left, from the best so far on, is the best of the whole.
-- Assumes nothing.
use mathlib.Core.Path.{◌≡◌}
use Prim.Native.Nat.{◌+◌}
use lib.ListN.{drop}
use Rattle.depths.specs.Worths.{unweighed, raised_from}
use Rattle.depths.proofs.inner.best_in.Given as goal

abbrev pub invariant-loop-g : goal.invariant-loop-g
invariant-loop-g l = raised_from (l.from + l.g) l.best (drop l.g l.worths) ≡ raised_from l.from unweighed l.worths
