-- `are_survivals` meets its contract: nothing is wrong so far, and the entries left are survivals, where all are. Assumes nothing.
use mathlib.Core.Path.{◌≡◌}
use mathlib.Core.Bool.{◌&&◌}
use Prim.Native.Nat.{◌≤◌, ◌+◌}
use lib.Dec.{eqb}
use lib.ListN.{drop}
use Rattle.chains.specs.Tests.{all_of, is_survival}
use Rattle.chain_tests.proofs.are_survivals.Given as goal

abbrev pub invariant-loop-x : goal.invariant-loop-x
invariant-loop-x l = ((l.faults ≤ l.x-index + l.x-index) × (all_of is_survival l.values ≡ (eqb l.faults 0 && all_of is_survival (drop l.x-index l.values))))
