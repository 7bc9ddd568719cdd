-- `are_chains` meets its contract: from each sequence on, the answer is that of the chains left. Assumes nothing.
use mathlib.Core.Path.{◌≡◌}
use Prim.Native.Nat.{◌*◌}
use lib.ListN.{drop}
use Rattle.chains.specs.Expected.{are_chains}
use Rattle.chain_tests.proofs.are_chains.Given as goal

abbrev pub invariant-loop-k : goal.invariant-loop-k
invariant-loop-k l = are_chains l.gamma l.lengths l.chains ≡ are_chains l.gamma (drop l.k l.lengths) (drop (l.k * 64) l.chains)
