-- `blocks::count_in` meets its contract: at each place the count is that of the bytes before it and that from there on. Assumes nothing.
use mathlib.Core.Path.{◌≡◌}
use Prim.Native.Nat.{◌≤◌, ◌+◌}
use lib.ListN.{length, drop}
use Rattle.blocks.specs.Blocks.{tally, is_byte}
use Rattle.blocks.proofs.count_in.Given as goal

abbrev pub invariant-loop-b : goal.invariant-loop-b
invariant-loop-b l = (l.sum ≤ l.b-index) × (length l.block ≤ 64) × (tally (is_byte l.byte) l.block ≡ l.sum + tally (is_byte l.byte) (drop l.b-index l.block))
