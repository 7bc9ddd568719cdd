-- `inner::expected_over` meets its contract. The invariant: the sums of what is left, from the sums so far on, are those of the whole. Assumes nothing.
use mathlib.Core.Path.{◌≡◌}
use Prim.Native.Nat.{◌*◌}
use lib.ListN.{length, drop}
use Rattle.chains.specs.Expected.{sums_with, expected_over}
use Rattle.chains.proofs.inner.expected_over.Given as goal

abbrev pub invariant-loop-k : goal.invariant-loop-k
invariant-loop-k l =
    (length l.sums ≡ 65) × (sums_with l.gamma (drop l.k l.lengths) (drop (l.k * 64) l.chains) l.sums ≡ expected_over l.gamma l.lengths l.chains)
