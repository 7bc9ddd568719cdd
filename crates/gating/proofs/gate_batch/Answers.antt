-- `gate_batch` meets its contract: each of its calls has the same one. Assumes nothing.
use mathlib.Core.Path.{sym, ap, ◌∙◌}
use mathlib.Core.Bool.{Bool}
use Rattle.gating.specs.Chains.{chains_by}
use Rattle.gating.specs.Batch.{gate_over}
use Rattle.gating.proofs.gate_batch.Goals as goal

pub returns-then-own : goal.returns-then-own
returns-then-own c =
    let a = c.args in
    c.gated_more.ensures ∙ ap (λ (own : Bool). gate_over own a.settings.prices a.settings.drafter a.ask.rates a.loaded.now a.curve.now a.ask.sequences a.gamma (chains_by a.settings.model a.positions.now a.signals.now a.ask.depth a.indices.now a.ask.sequences a.gamma) a.drafts.now) (sym c.if-own.true)

pub returns : goal.returns
returns c =
    let a = c.args in
    c.gated_more-2.ensures ∙ ap (λ (own : Bool). gate_over own a.settings.prices a.settings.drafter a.ask.rates a.loaded.now a.curve.now a.ask.sequences a.gamma (chains_by a.settings.model a.positions.now a.signals.now a.ask.depth a.indices.now a.ask.sequences a.gamma) a.drafts.now) (sym c.if-own.false)
