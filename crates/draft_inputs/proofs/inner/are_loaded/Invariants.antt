-- `inner::are_loaded` meets its contract: from each place on, the answer is that of the entries left. Assumes nothing.
use mathlib.Core.Path.{◌≡◌}
use lib.ListN.{drop}
use Rattle.draft_inputs.specs.Inputs.{all_loaded}
use Rattle.draft_inputs.proofs.inner.are_loaded.Given as goal

abbrev pub invariant-loop-x : goal.invariant-loop-x
invariant-loop-x l = all_loaded l.loaded ≡ all_loaded (drop l.x-index l.loaded)
