-- `frac::deepest_of` meets its contract. Assumes nothing.
use Rattle.std.proofs.Common.{◌≡◌, drop, None}
use Rattle.step_times.specs.Between.{deepest}
use Rattle.step_times.proofs.frac.deepest_of.Given as goal

abbrev pub invariant-loop-depth : goal.invariant-loop-depth
invariant-loop-depth l = deepest l.g l.best (drop l.depth-index l.depths) ≡ deepest l.g None l.depths
