-- `by_gate` meets its contract. Assumes nothing.
use mathlib.Core.List.{[]}
use Rattle.deciding.specs.Ready.{lent_of}
use Rattle.deciding.proofs.Decisions.{gate_decides}
use Rattle.deciding.proofs.by_gate.Goals as goal

pub returns : goal.returns
returns c =
    let a = c.args in
    gate_decides a.settings a.ask (lent_of a.positions.now a.loaded.now a.signals.now [] a.indices.now) a.curve.now _ _ _ _ a.drafts.now c.gamma_in-gamma.ensures c.gate_batch-gated.ensures
