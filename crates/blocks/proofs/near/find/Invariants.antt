-- `blocks::near::find` meets its contract: at each place what is found is that many bytes on from there. Assumes nothing.
use mathlib.Core.Path.{◌≡◌}
use Prim.Native.Nat.{◌+◌}
use lib.ListN.{drop}
use Rattle.blocks.specs.Blocks.{find}
use Rattle.blocks.proofs.near.find.Given as goal

abbrev pub invariant-loop-at : goal.invariant-loop-at
invariant-loop-at l = find l.byte l.s ≡ l.at + find l.byte (drop l.at l.s)
