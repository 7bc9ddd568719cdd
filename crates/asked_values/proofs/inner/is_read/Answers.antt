-- `is_read` meets its contract, policy by policy. Assumes nothing.
use Rattle.ledger_workers.specs.Workers.{past_of}
use Rattle.settings.specs.declared.Policy.{Policy}
use Rattle.asked_values.specs.Values.{policy_valued}
use Rattle.settings.proofs.Cases.{of_case}
use Rattle.asked_values.proofs.inner.is_read.Goals as goal

pub returns-in-GoodputBudget : goal.returns-in-GoodputBudget
returns-in-GoodputBudget c =
    let a = c.args in
    of_case (λ (p : Policy). policy_valued p a.settings.model a.settings.switch a.gamma a.curve.now (past_of a.storage.now a.a a.b)) _ _ _ c.in-GoodputBudget.is c.is_curve.ensures

pub returns-in-GatedAggregate : goal.returns-in-GatedAggregate
returns-in-GatedAggregate c =
    let a = c.args in
    of_case (λ (p : Policy). policy_valued p a.settings.model a.settings.switch a.gamma a.curve.now (past_of a.storage.now a.a a.b)) _ _ _ c.in-GatedAggregate.is c.is_past.ensures
