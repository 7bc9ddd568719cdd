-- `sums::survivals` meets its contract. The invariant: the sum of what is left, from the sum so far on, is that of the whole. Assumes nothing.
use Prim.Native.Nat.{◌*◌}
use mathlib.Core.Path.{◌≡◌}
use lib.ListN.{drop}
use Rattle.float.specs.Floats.{f0}
use Rattle.trim.specs.Ragged.{survivals_from}
use Rattle.ragged.proofs.sums.survivals.Given as goal

abbrev pub invariant-loop-k : goal.invariant-loop-k
invariant-loop-k l = survivals_from l.sum (drop l.k l.widths) (drop (l.k * 64) l.chains) ≡ survivals_from f0 l.widths l.chains
