-- `sums::smallest_of` meets its contract. The invariant: no width that was passed is below the smallest so far. Assumes nothing.
use Prim.Native.Nat.{ℕ, ◌≤◌, ◌<◌}
use lib.ListN.{get_or}
use Rattle.ragged.proofs.sums.smallest_of.Given as goal

abbrev pub invariant-loop-width : goal.invariant-loop-width
invariant-loop-width l = (k : ℕ) → k < l.width-index → l.least ≤ get_or l.widths k 0
