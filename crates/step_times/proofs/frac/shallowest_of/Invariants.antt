-- `frac::shallowest_of` meets its contract. Assumes nothing.
use Rattle.std.proofs.Common.{◌≡◌, drop, None}
use Rattle.step_times.specs.Between.{shallowest}
use Rattle.step_times.proofs.frac.shallowest_of.Given as goal

abbrev pub invariant-loop-depth : goal.invariant-loop-depth
invariant-loop-depth l = shallowest l.g l.best (drop l.depth-index l.depths) ≡ shallowest l.g None l.depths
