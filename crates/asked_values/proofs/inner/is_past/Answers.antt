-- `is_past` meets its contract. Assumes nothing.
use mathlib.Core.Path.{sym, ◌∙◌}
use Rattle.ledger_workers.specs.Workers.{past_of}
use Rattle.asked_values.proofs.Judges.{past_unused, past_used}
use Rattle.asked_values.proofs.inner.is_past.Goals as goal

pub returns-then-is_unconstrained : goal.returns-then-is_unconstrained
returns-then-is_unconstrained c =
    let a = c.args in
    past_unused a.switch (past_of a.storage.now a.a a.b) (sym c.is_unconstrained.ensures ∙ c.if-is_unconstrained.true)

pub returns : goal.returns
returns c =
    let a = c.args in
    past_used a.switch _ (past_of a.storage.now a.a a.b) _ (sym c.is_unconstrained.ensures ∙ c.if-is_unconstrained.false) c.past.ensures c.is_held.ensures
