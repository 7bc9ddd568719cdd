-- `inner::sample_from` meets its contract: at each draw the answer is the drafts accepted so far and what the draws from there on bring. Assumes nothing.
use mathlib.Core.Path.{◌≡◌}
use Rattle.acceptance.specs.Acceptance.{sample_from}
use Rattle.acceptance.proofs.Draws.{from}
use Rattle.acceptance.proofs.inner.sample_from.Given as goal

abbrev pub invariant-loop-n : goal.invariant-loop-n
invariant-loop-n l = sample_from l.model l.positions l.gamma l.draws l.from ≡ from l.model l.positions l.gamma l.draws l.at l.n
