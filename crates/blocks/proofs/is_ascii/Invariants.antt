-- `blocks::is_ascii` meets its contract: blocks without a high byte are passed. Assumes nothing.
use mathlib.Core.Path.{◌≡◌}
use lib.ListN.{length}
use Rattle.blocks.specs.Blocks.{all_ascii}
use Rattle.blocks.proofs.is_ascii.Given as goal

abbrev pub invariant-loop-rest : goal.invariant-loop-rest
invariant-loop-rest l = all_ascii l.s ≡ all_ascii l.rest

abbrev pub decreases-loop-rest : goal.decreases-loop-rest
decreases-loop-rest l = length l.rest
