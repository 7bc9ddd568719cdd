-- `blocks::count` meets its contract: the count is that of the blocks passed and that of the rest. Assumes nothing.
use mathlib.Core.Path.{◌≡◌}
use Prim.Native.Nat.{◌+◌, ◌≤◌}
use lib.ListN.{length}
use Rattle.blocks.specs.Blocks.{tally, is_byte}
use Rattle.blocks.proofs.count.Given as goal

abbrev pub invariant-loop-rest : goal.invariant-loop-rest
invariant-loop-rest l = (l.sum + length l.rest ≤ length l.s) × (tally (is_byte l.byte) l.s ≡ l.sum + tally (is_byte l.byte) l.rest)

abbrev pub decreases-loop-rest : goal.decreases-loop-rest
decreases-loop-rest l = length l.rest
