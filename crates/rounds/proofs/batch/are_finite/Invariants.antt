-- `batch::are_finite` meets its contract: from each sequence on, the answer is that of the rounds left. Assumes nothing.
use mathlib.Core.Path.{◌≡◌}
use lib.ListN.{drop}
use Rattle.rounds.specs.Signals.{are_finite}
use Rattle.rounds.proofs.batch.are_finite.Given as goal

abbrev pub invariant-loop-index : goal.invariant-loop-index
invariant-loop-index l = are_finite l.signals l.depth l.gamma l.indices ≡ are_finite l.signals l.depth l.gamma (drop l.index-index l.indices)
