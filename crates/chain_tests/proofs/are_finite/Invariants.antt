-- `are_finite` meets its contract: from each place on, the answer is that of the entries left. Assumes nothing.
use mathlib.Core.Path.{◌≡◌}
use lib.ListN.{drop}
use Rattle.float.specs.Floats.{is_finite}
use Rattle.chains.specs.Tests.{all_of}
use Rattle.chain_tests.proofs.are_finite.Given as goal

abbrev pub invariant-loop-x : goal.invariant-loop-x
invariant-loop-x l = (all_of is_finite l.values ≡ all_of is_finite (drop l.x-index l.values))
