-- `switching::are_prices` meets its contract: from each place on, the answer is that of the prices left. Assumes nothing.
use mathlib.Core.Path.{◌≡◌}
use lib.ListN.{drop}
use Rattle.switching.specs.Deciding.{all_prices}
use Rattle.switching.proofs.are_prices.Given as goal

abbrev pub invariant-loop-x : goal.invariant-loop-x
invariant-loop-x l = all_prices l.curve ≡ all_prices (drop l.x-index l.curve)
