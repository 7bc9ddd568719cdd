-- `acceptance::expected_sum` meets its contract: both numbers are the definitions' at each draft. Assumes nothing.
use mathlib.Core.Path.{◌≡◌}
use Rattle.acceptance.specs.Acceptance.{product_to, expected_to}
use Rattle.acceptance.proofs.expected_sum.Given as goal

abbrev pub invariant-loop-d : goal.invariant-loop-d
invariant-loop-d l = (l.prefix ≡ product_to l.model l.positions l.d) × (l.e ≡ expected_to l.model l.positions l.d)
