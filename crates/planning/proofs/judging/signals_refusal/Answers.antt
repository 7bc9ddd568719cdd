-- `judging::signals_refusal` meets its contract: each way through it. Assumes nothing.
use Rattle.planning.proofs.Ways.{signals_unused, signals_judged}
use Rattle.planning.proofs.judging.signals_refusal.Goals as goal

pub returns-then-are_finite : goal.returns-then-are_finite
returns-then-are_finite c =
    let a = c.args in
    signals_judged a.settings a.ask a.signals.now a.indices.now _ c.uses_bank_signals.ensures _ _ _ _ c.if-uses_bank_signals.true c.gamma_in-gamma.ensures c.first_of-drawn.ensures c.are_finite.ensures c.if-are_finite.true

pub returns-else-are_finite : goal.returns-else-are_finite
returns-else-are_finite c =
    let a = c.args in
    signals_judged a.settings a.ask a.signals.now a.indices.now _ c.uses_bank_signals.ensures _ _ _ _ c.if-uses_bank_signals.true c.gamma_in-gamma.ensures c.first_of-drawn.ensures c.are_finite.ensures c.if-are_finite.false

pub returns-else-uses_bank_signals : goal.returns-else-uses_bank_signals
returns-else-uses_bank_signals c =
    let a = c.args in
    signals_unused a.settings a.ask a.signals.now a.indices.now _ c.uses_bank_signals.ensures c.if-uses_bank_signals.false
