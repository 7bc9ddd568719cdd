-- `sums::sum_of` meets its contract. The invariant: the sum of what is left, from the sum so far on, is that of the whole. Assumes nothing.
use mathlib.Core.Path.{◌≡◌}
use lib.ListN.{drop}
use Rattle.float.specs.Floats.{f0}
use Rattle.trim.specs.Ragged.{sum_from}
use Rattle.ragged.proofs.sums.sum_of.Given as goal

abbrev pub invariant-loop-survival : goal.invariant-loop-survival
invariant-loop-survival l = sum_from l.sum (drop l.survival-index l.chain) ≡ sum_from f0 l.chain
