-- `bank::judging::depth_of` meets its contract: at each field the depth is what was counted and that of the fields from there on. Assumes nothing.
use mathlib.Core.Path.{◌≡◌}
use Prim.Native.Nat.{◌≤◌, ◌+◌}
use lib.ListN.{length}
use Rattle.text.specs.Fields.{fields}
use Rattle.bank_judge.specs.Judge.{depth_of}
use Rattle.bank_judge.proofs.inner.depth_of.Given as goal

abbrev pub invariant-loop-depth : goal.invariant-loop-depth
invariant-loop-depth l = (l.depth + length l.rest ≤ length l.header) × (depth_of (fields l.header) ≡ l.depth + depth_of (fields l.rest))

abbrev pub decreases-loop-depth : goal.decreases-loop-depth
decreases-loop-depth l = length l.rest
