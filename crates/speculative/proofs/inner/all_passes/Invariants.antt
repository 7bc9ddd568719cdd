-- `inner::all_passes` meets its contract: the sum is the definition's at each depth. Assumes nothing.
use mathlib.Core.Path.{◌≡◌}
use Rattle.speculative.specs.Drafter.{passes_from}
use Rattle.speculative.proofs.inner.all_passes.Given as goal

abbrev pub invariant-loop-k : goal.invariant-loop-k
invariant-loop-k l = l.sum ≡ passes_from l.drafter l.widths l.rates l.loaded l.k
