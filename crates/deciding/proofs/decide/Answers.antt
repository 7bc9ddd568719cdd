-- `decide` meets its contract, policy by policy. Assumes nothing.
use mathlib.Core.Path.{ap}
use Rattle.settings.specs.Settings.{uses_costs, uses_signals}
use Rattle.deciding.specs.Ready.{looped, lent_of}
use Rattle.deciding.proofs.Decisions.{batched, fixed_policy, mean_policy, gate_policy, aggregate_policy}
use Rattle.deciding.proofs.decide.Goals as goal

pub by_mean-requires-clause-gamma_bound : goal.by_mean-requires-clause-gamma_bound
by_mean-requires-clause-gamma_bound c = let pre = c.requires in
    let e = c.in-GoodputBudget.is in (pre.shallow, pre.room, pre.priced (ap uses_costs e))

pub by_mean-requires-clause-depth_in_bounds : goal.by_mean-requires-clause-depth_in_bounds
by_mean-requires-clause-depth_in_bounds c = let pre = c.requires in
    let e = c.in-GoodputBudget.is in λ t. pre.banked e t

pub by_gate-requires : goal.by_gate-requires
by_gate-requires c =
    let a = c.args in
    let e = c.in-GatedBudget.is in
    batched a.settings a.ask c.requires (ap uses_costs e) (ap uses_signals e)

pub by_aggregate-requires-clause-batched : goal.by_aggregate-requires-clause-batched
by_aggregate-requires-clause-batched c = let a = c.args in
    let e = c.in-GatedAggregate.is in batched a.settings a.ask c.requires (ap uses_costs e) (ap uses_signals e)

pub by_aggregate-requires-clause-held : goal.by_aggregate-requires-clause-held
by_aggregate-requires-clause-held c = let a = c.args in
    let e = c.in-GatedAggregate.is in c.requires.held e

pub returns-in-Fixed : goal.returns-in-Fixed
returns-in-Fixed c =
    let a = c.args in
    fixed_policy a.settings a.ask (lent_of a.positions.now a.loaded.now a.signals.now a.bank_curve.now a.indices.now) a.curve.now (looped a.settings a.ask a.loaded.now) a.past _ _ (c.fill.ensures.after (λ y e. e)) c.requires.room c.in-Fixed.is

pub returns-in-GoodputBudget : goal.returns-in-GoodputBudget
returns-in-GoodputBudget c =
    let a = c.args in
    mean_policy a.settings a.ask (lent_of a.positions.now a.loaded.now a.signals.now a.bank_curve.now a.indices.now) a.curve.now (looped a.settings a.ask a.loaded.now) a.past _ c.by_mean.ensures c.in-GoodputBudget.is

pub returns-in-GatedBudget : goal.returns-in-GatedBudget
returns-in-GatedBudget c =
    let a = c.args in
    gate_policy a.settings a.ask (lent_of a.positions.now a.loaded.now a.signals.now a.bank_curve.now a.indices.now) a.curve.now (looped a.settings a.ask a.loaded.now) a.past _ c.by_gate.ensures c.in-GatedBudget.is

pub returns-in-GatedAggregate : goal.returns-in-GatedAggregate
returns-in-GatedAggregate c =
    let a = c.args in
    aggregate_policy a.settings a.ask (lent_of a.positions.now a.loaded.now a.signals.now a.bank_curve.now a.indices.now) a.curve.now (looped a.settings a.ask a.loaded.now) a.past _ c.by_aggregate.ensures c.in-GatedAggregate.is
