-- `blocks::high_in` meets its contract: at each place the count is that of the bytes before it and that from there on. Assumes nothing.
use mathlib.Core.Path.{◌≡◌}
use Prim.Native.Nat.{◌≤◌, ◌+◌}
use lib.ListN.{length, drop}
use Rattle.blocks.specs.Blocks.{tally, is_high}
use Rattle.blocks.proofs.high_in.Given as goal

abbrev pub invariant-loop-b : goal.invariant-loop-b
invariant-loop-b l = (l.sum ≤ l.b-index) × (length l.block ≤ 64) × (tally is_high l.block ≡ l.sum + tally is_high (drop l.b-index l.block))
