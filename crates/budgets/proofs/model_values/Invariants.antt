-- `model_values` meets its contract: the product and the sum are the definition's at each depth. Assumes nothing.
use mathlib.Core.Path.{◌≡◌}
use Rattle.acceptance.specs.Acceptance.{product_to, expected_to}
use Rattle.budgets.specs.Budget.{model_values}
use Rattle.budgets.proofs.Copied.{Copied}
use Rattle.budgets.proofs.model_values.Given as goal

abbrev pub invariant-loop-d : goal.invariant-loop-d
invariant-loop-d l =
    Copied (model_values l.model l.positions l.n l.gamma) l.initial.out l.out l.d × ((l.prefix ≡ product_to l.model l.positions l.d) × (l.e ≡ expected_to l.model l.positions l.d))
