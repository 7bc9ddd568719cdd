-- `lay_chains` meets its contract, model by model. Assumes nothing.
use mathlib.Core.Path.{sym, ap, ◌∙◌}
use native.Mathlib.Omega.{arith}
use lib.Seq.{sets, length-take-le}
use Rattle.acceptance.specs.declared.AcceptanceModel.{AcceptanceModel}
use Rattle.settings.specs.Settings.{is_trace}
use Rattle.rounds.specs.Signals.{model_chain, same_chains}
use Rattle.gating.specs.Chains.{chains_by}
use Rattle.gating.proofs.lay_chains.Goals as goal

pub slice_bounds-lay_rounds-end : goal.slice_bounds-lay_rounds-end
slice_bounds-lay_rounds-end c =
    let a = c.args in
    sym (length-take-le a.ask.sequences a.indices.now (c.requires.sequences_in_bounds (ap is_trace c.in-Trace.is)))

pub lay_rounds-requires : goal.lay_rounds-requires
lay_rounds-requires c =
    let a = c.args in
    let l = length-take-le a.ask.sequences a.indices.now (c.requires.sequences_in_bounds (ap is_trace c.in-Trace.is)) in
    (c.requires.gamma_bound.0, omega (arith, l, c.requires.gamma_bound.2), c.requires.gamma_bound.3)

pub returns-in-Constant : goal.returns-in-Constant
returns-in-Constant c =
    let a = c.args in
    let e = c.in-Constant.is in
    c.lay_model.ensures
    ∙ ap (λ (m : AcceptanceModel). sets a.chains.now 0 (same_chains (model_chain m a.positions.now a.gamma) a.ask.sequences)) e
    ∙ ap (λ (m : AcceptanceModel). sets a.chains.now 0 (chains_by m a.positions.now a.signals.now a.ask.depth a.indices.now a.ask.sequences a.gamma)) (sym e)

pub returns-in-PerPosition : goal.returns-in-PerPosition
returns-in-PerPosition c =
    let a = c.args in
    let e = c.in-PerPosition.is in
    c.lay_model-in-PerPosition.ensures
    ∙ ap (λ (m : AcceptanceModel). sets a.chains.now 0 (same_chains (model_chain m a.positions.now a.gamma) a.ask.sequences)) e
    ∙ ap (λ (m : AcceptanceModel). sets a.chains.now 0 (chains_by m a.positions.now a.signals.now a.ask.depth a.indices.now a.ask.sequences a.gamma)) (sym e)

pub returns-in-Trace : goal.returns-in-Trace
returns-in-Trace c =
    let a = c.args in
    let e = c.in-Trace.is in
    c.lay_rounds.ensures ∙ ap (λ (m : AcceptanceModel). sets a.chains.now 0 (chains_by m a.positions.now a.signals.now a.ask.depth a.indices.now a.ask.sequences a.gamma)) (sym e)
