-- `blocks::find` meets its contract: blocks without the byte are passed. Assumes nothing.
use mathlib.Core.Path.{◌≡◌}
use Prim.Native.Nat.{◌+◌, ◌≤◌}
use lib.ListN.{length}
use Rattle.blocks.specs.Blocks.{find}
use Rattle.blocks.proofs.find.Given as goal

abbrev pub invariant-loop-rest : goal.invariant-loop-rest
invariant-loop-rest l = (l.passed + length l.rest ≤ length l.s) × (find l.byte l.s ≡ l.passed + find l.byte l.rest)

abbrev pub decreases-loop-rest : goal.decreases-loop-rest
decreases-loop-rest l = length l.rest
